-- `read_swaps` is safe and ends. There are no more swaps than turns, and at most 255 turns, so that each swap has a place.
-- Assumes nothing.
use Rattle.std.proofs.Common.{◌≤◌, length}
use Rattle.group_trials.proofs.read_swaps.Given as goal

abbrev pub invariant-loop : goal.invariant-loop
invariant-loop g l = length l.swaps.items ≤ l.counter
