use native.Mathlib.Omega.{arith}
use Rattle.fields.specs.Answers.{tell_section, answer_passed}
use Rattle.fields.specs.Risers.{list_starts, list_more, list_refused, list_ends}
use Rattle.fields.specs.Fields.{number_bound}
use Rattle.fields.proofs.read_list.Goals as goal

pub loop-init : goal.loop-init
loop-init c = list_starts _ _ _ _ _ _

pub returns-in_err-c : goal.returns-in_err-c
returns-in_err-c c = answer_passed tell_section _ c.from_residual.ensures.1 (list_refused _ _ _ _ _ _ _ _ _ _ c.loop.invariant c.loop-test.true c.in_err-c.ensures)

pub overflow_add-listed : goal.overflow_add-listed
overflow_add-listed c = let h = number_bound _ _ _ _ _ c.in_ok-c.ensures in omega (arith, c.requires)

pub bounds-listed-r : goal.bounds-listed-r
bounds-listed-r c = let h = number_bound _ _ _ _ _ c.in_ok-c.ensures in omega (arith, c.requires)

pub overflow_add-least : goal.overflow_add-least
overflow_add-least c = let h = number_bound _ _ _ _ _ c.in_ok-c.ensures in omega (arith, c.requires)

pub loop-preserved : goal.loop-preserved
loop-preserved c = list_more _ _ _ _ _ _ _ _ _ _ c.loop.invariant c.loop-test.true c.in_ok-c.ensures

pub returns : goal.returns
returns c = list_ends _ _ _ _ _ _ _ _ _ _ c.loop.invariant c.loop-test.false
