-- `move_row` applies g to each carrier of the row. The loop fills the table of where g takes the row's carriers, each read
-- before its place is written.
use Prim.Native.Nat.{ℕ}
use Rattle.ground.specs.Meanings.Group.{at}
use Rattle.ground.specs.Laws.Filling.{Filled}
use Rattle.swaps.proofs.move_row.Given as goal

abbrev pub invariant-loop-c : goal.invariant-loop-c
invariant-loop-c l = Filled (λ (j : ℕ). at l.g (at l.fn.row j)) l.fn.row l.row l.c-index
