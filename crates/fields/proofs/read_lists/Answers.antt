use Rattle.fields.specs.Answers.{tell_section, answer_passed}
use Rattle.fields.specs.Risers.{risers_start, risers_more, risers_refused, risers_end}
use Rattle.fields.proofs.read_lists.Goals as goal

pub loop-r-init : goal.loop-r-init
loop-r-init c = risers_start _ _ _ _ _

pub returns-in_err-at : goal.returns-in_err-at
returns-in_err-at c = answer_passed tell_section _ c.from_residual.ensures.1 (risers_refused _ _ _ _ _ _ _ _ c.loop-r.invariant c.loop-r-test.true c.read_riser.ensures c.in_err-at.was)

pub loop-r-preserved : goal.loop-r-preserved
loop-r-preserved c = risers_more _ _ _ _ _ _ _ _ c.loop-r.invariant c.loop-r-test.true c.read_riser.ensures c.in_ok-at.was

pub returns : goal.returns
returns c = risers_end _ _ _ _ _ _ _ _ c.loop-r.invariant c.loop-r-test.false
