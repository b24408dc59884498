-- `read_rule` answers what the definition says of a rule, and enters it. It is the two risers, the count, and then the pairs that the count asks for.
-- Assumes nothing.
use mathlib.Core.Path.{refl}
use native.Mathlib.Omega.{arith}
use Rattle.fields.specs.Answers.{tell_rule, answer_passed}
use Rattle.rule_fields.specs.Rules.{risers_ordered, rule_no_risers, rule_no_count, rule_no_pairs, rule_is}
use Rattle.rule_fields.proofs.read_rule.Goals as goal

pub returns-in_err-a : goal.returns-in_err-a
returns-in_err-a c = answer_passed tell_rule _ c.from_residual.ensures.1 (rule_no_risers _ _ _ _ _ _ _ _ _ _ c.in_err-a.ensures)

pub returns-in_err-count : goal.returns-in_err-count
returns-in_err-count c = answer_passed tell_rule _ c.from_residual-in_err-count.ensures.1 (rule_no_count _ _ _ _ _ _ _ _ _ _ c.in_ok-a.ensures c.in_err-count.ensures)

pub returns-in_err-next : goal.returns-in_err-next
returns-in_err-next c = answer_passed tell_rule _ c.from_residual-in_err-next.ensures.1 (rule_no_pairs _ _ _ _ _ _ _ _ _ _ c.in_ok-a.ensures c.in_ok-count.ensures c.read_pairs.ensures c.in_err-next.was)

pub overflow_mul-ends : goal.overflow_mul-ends
overflow_mul-ends c = let o = risers_ordered _ _ _ _ c.in_ok-a.ensures in omega (arith, c.requires)

pub overflow_add-ends-2 : goal.overflow_add-ends-2
overflow_add-ends-2 c = let o = risers_ordered _ _ _ _ c.in_ok-a.ensures in omega (arith, c.requires)

pub bounds-ends-b : goal.bounds-ends-b
bounds-ends-b c = let o = risers_ordered _ _ _ _ c.in_ok-a.ensures in omega (arith, c.requires)

pub returns : goal.returns
returns c = rule_is _ _ _ _ _ _ _ _ _ _ c.in_ok-a.ensures c.in_ok-count.ensures c.read_pairs.ensures c.in_ok-next.was refl
