use Rattle.fields.specs.Answers.{tell_section, answer_passed}
use Rattle.swap_fields.specs.Swaps.{swaps_start, swaps_more, swaps_refused, swaps_end}
use Rattle.swap_fields.proofs.Before.read_swaps.Goals as goal

pub loop-swap-init : goal.loop-swap-init
loop-swap-init c = swaps_start _ _ _ _ _ _ _ _ _

pub returns-in_err-g : goal.returns-in_err-g
returns-in_err-g c = answer_passed tell_section _ c.from_residual.ensures.1 (swaps_refused _ _ _ _ _ _ _ _ _ _ _ _ c.loop-swap.invariant c.loop-swap-test.true c.in_err-g.ensures)

pub loop-swap-preserved : goal.loop-swap-preserved
loop-swap-preserved c = swaps_more _ _ _ _ _ _ _ _ _ _ _ _ c.loop-swap.invariant c.loop-swap-test.true c.in_ok-g.ensures

pub returns : goal.returns
returns c = swaps_end _ _ _ _ _ _ _ _ _ _ _ _ c.loop-swap.invariant c.loop-swap-test.false
