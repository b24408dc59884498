-- `inverse` gives where each carrier first stands in p. The loop goes through the places from the last to the first, so
-- that the first place of a carrier is the one that stays. What is left to go through is the first part of p.
use Rattle.std.proofs.Common.{◌≡◌, take, length}
use Rattle.std.specs.Slice.Iter.{iter_rest}
use Rattle.swaps.specs.Undoing.{Undone}
use Rattle.swaps.proofs.inverse.Given as goal

abbrev pub invariant-loop-place : goal.invariant-loop-place
invariant-loop-place l =
    record {
      counted : l.place-iterator.iter.count ≡ 0;
      left : iter_rest l.place-iterator.iter.iter ≡ take (length (iter_rest l.place-iterator.iter.iter)) l.fn.p;
      undone : Undone 15 l.fn.p l.from (length (iter_rest l.place-iterator.iter.iter));
    }
