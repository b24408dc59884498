-- `first` gives the least carrier of the mask: as many as there are zeros below the lowest digit that is set.
use Rattle.masks.specs.Masks.{least_trailing}
use Rattle.masks.proofs.first.Goals as goal

pub returns : goal.returns
returns c = least_trailing c.args.mask c.requires c.ranges.mask.fits
