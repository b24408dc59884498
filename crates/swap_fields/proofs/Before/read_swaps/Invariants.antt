-- `read_swaps` answers what the definition says of all swaps. The loop keeps: the first of them are read and entered.
-- Assumes nothing.
use Rattle.std.proofs.Common.{length}
use Rattle.swap_fields.specs.Swaps.{SwapsSoFar}
use Rattle.swap_fields.proofs.Before.read_swaps.Given as goal

abbrev pub invariant-loop-swap : goal.invariant-loop-swap
invariant-loop-swap l =
    SwapsSoFar l.s l.from l.self.carriers l.self.risers l.self.rules (length l.initial.swap-items) l.self.listed.now l.self.allowed.now l.initial.swap-items l.swap-items l.at l.swap-index
