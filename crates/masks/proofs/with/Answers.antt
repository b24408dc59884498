-- `with` gives the mask with the carrier as well. One shifted by the carrier has its digit alone, and is not shifted out.
use native.Mathlib.Omega.{arith}
use Rattle.masks.specs.Masks.{with_shifted}
use Rattle.masks.proofs.with.Goals as goal

pub returns : goal.returns
returns c = with_shifted c.args.mask c.args.c (omega arith)
