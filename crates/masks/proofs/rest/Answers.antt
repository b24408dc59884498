-- `rest` gives the carriers after the least one: a mask and the number before it share the digits above the lowest that is set.
use Rattle.masks.specs.Masks.{rest_and}
use Rattle.masks.proofs.rest.Goals as goal

pub returns : goal.returns
returns c = rest_and c.args.mask c.requires
