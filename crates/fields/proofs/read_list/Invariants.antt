-- `read_list` answers what the definition says of a riser's carriers. The loop keeps: as many carriers as the counter says are read and entered, and `least` is one more than the last.
-- Assumes nothing.
use Rattle.fields.specs.Risers.{ListSoFar}
use Rattle.fields.proofs.read_list.Given as goal

abbrev pub invariant-loop : goal.invariant-loop
invariant-loop l = ListSoFar l.s l.from l.k l.d l.r l.initial.listed l.listed l.at l.least l.counter
