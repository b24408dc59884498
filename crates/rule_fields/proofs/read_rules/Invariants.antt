-- `read_rules` answers what the definition says of all rules. The loop keeps: the first q rules are read and entered, and `least` is one more than the key of the last one's risers.
-- Assumes nothing.
use Rattle.rule_fields.specs.Rules.{RulesSoFar}
use Rattle.rule_fields.proofs.read_rules.Given as goal

abbrev pub invariant-loop-q : goal.invariant-loop-q
invariant-loop-q l = RulesSoFar l.s l.from l.n l.count l.listed l.initial.allowed l.initial.ends l.allowed l.ends l.at l.least l.q
