-- `read_pairs` answers what the definition says of a rule's pairs. The loop keeps: as many pairs as the counter says are read and entered, and `least` is one more than the key of the last.
-- Assumes nothing.
use Rattle.rule_fields.specs.Rules.{PairsSoFar}
use Rattle.rule_fields.proofs.read_pairs.Given as goal

abbrev pub invariant-loop : goal.invariant-loop
invariant-loop l = PairsSoFar l.s l.from l.a l.b l.count l.q l.listed l.initial.allowed l.allowed l.at l.least l.counter
