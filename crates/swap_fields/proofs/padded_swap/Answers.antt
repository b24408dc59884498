-- `padded_swap` hands back the bytes of a swap at width 15: they stand over the identity.
-- Assumes nothing.
use Rattle.fields.specs.Tables.{padded}
use Rattle.swap_fields.proofs.padded_swap.Goals as goal

pub returns : goal.returns
unfolding padded
returns c = cc
