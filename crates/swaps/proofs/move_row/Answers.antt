use mathlib.Core.Path.{ap, ◌∙◌}
use native.Mathlib.Nat.{le_refl}
use Rattle.ground.specs.Meanings.Group.{at}
use Rattle.ground.proofs.Laws.Filling.{filled_start, filled_more, filled_move}
use Rattle.swaps.proofs.move_row.Goals as goal

pub loop-c-init : goal.loop-c-init
loop-c-init c = filled_start _ _

pub loop-c-preserved : goal.loop-c-preserved
loop-c-preserved c =
    let s = c.loop-c.invariant in
    filled_more s c.loop-c-test.true _
    (c.taken.ensures ∙ ap (at c.args.g) (s.rest _ (le_refl _)))

pub returns : goal.returns
returns c = filled_move c.args.g c.loop-c.invariant c.loop-c-test.false
