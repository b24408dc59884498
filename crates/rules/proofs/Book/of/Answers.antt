use Rattle.rules.specs.Writing.{pages_show}
use Rattle.rules.proofs.Book.of.Goals as goal

pub returns : goal.returns
returns c = pages_show c.requires.within.1 c.loop-d-test.false c.loop-d.invariant
