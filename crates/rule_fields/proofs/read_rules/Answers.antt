use native.Mathlib.Omega.{arith}
use Rattle.fields.specs.Answers.{tell_section, answer_passed}
use Rattle.rule_fields.specs.Rules.{rules_start, rules_more, rules_refused, rules_end, rule_ordered}
use Rattle.rule_fields.proofs.read_rules.Goals as goal

pub loop-q-init : goal.loop-q-init
loop-q-init c = rules_start _ _ _ _ _ _ _

pub returns-in_err-a : goal.returns-in_err-a
returns-in_err-a c = answer_passed tell_section _ c.from_residual.ensures.1 (rules_refused _ _ _ _ _ _ _ _ _ _ _ _ c.loop-q.invariant c.requires.0 c.loop-q-test.true c.read_rule.ensures c.in_err-a.was)

pub key-least-requires : goal.key-least-requires
key-least-requires c = let o = rule_ordered _ _ _ _ _ c.read_rule.ensures c.in_ok-a.was in (omega (arith, c.requires), omega (arith, c.requires))

pub overflow_add-least : goal.overflow_add-least
overflow_add-least c = let o = rule_ordered _ _ _ _ _ c.read_rule.ensures c.in_ok-a.was in omega (arith, c.requires, c.key-least.ensures)

pub loop-q-preserved : goal.loop-q-preserved
loop-q-preserved c = rw c.key-least.ensures (rules_more _ _ _ _ _ _ _ _ _ _ _ _ c.loop-q.invariant c.requires.0 c.loop-q-test.true c.read_rule.ensures c.in_ok-a.was)

pub returns : goal.returns
returns c = rules_end _ _ _ _ _ _ _ _ _ _ _ _ c.loop-q.invariant c.loop-q-test.false
