-- `product` gives p and then q: the row p, moved by q, which is the product by definition.
use Rattle.ground.specs.Meanings.Group.{mul}
use Rattle.swaps.proofs.product.Goals as goal

pub returns : goal.returns
unfolding mul
returns c = c.move_row.ensures
