-- `read_lists` answers what the definition says of all risers. The loop keeps: the first r lists are read, and the table has them.
-- Assumes nothing.
use Rattle.fields.specs.Risers.{RisersSoFar}
use Rattle.fields.proofs.read_lists.Given as goal

abbrev pub invariant-loop-r : goal.invariant-loop-r
invariant-loop-r l = RisersSoFar l.s l.from l.k l.count l.initial.listed l.listed l.at l.r
