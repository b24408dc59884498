-- `marked` gives the carriers below k whose entry is not 0. The mask has those of the entries passed, and a turn adds the next
-- carrier where its entry is not 0.
use Rattle.masks.specs.Masks.{Marked}
use Rattle.masks.proofs.marked.Given as goal

abbrev pub invariant-loop-c : goal.invariant-loop-c
invariant-loop-c l = Marked l.table l.at l.c l.mask
