use Rattle.swaps.specs.Undoing.{undone_inverse}
use Rattle.swaps.proofs.inverse.Goals as goal

pub returns : goal.returns
returns c = undone_inverse c.loop-place.invariant.undone c.in-None.ensures.steps.1.0
