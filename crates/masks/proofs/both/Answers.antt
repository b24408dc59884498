-- `both` gives the carriers that are in both masks: a digit of the conjunction is set where it is set in both.
use Rattle.masks.specs.Masks.{both_and}
use Rattle.masks.proofs.both.Goals as goal

pub returns : goal.returns
returns c = both_and c.args.a c.args.b
