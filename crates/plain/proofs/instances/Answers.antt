-- `plain::instances` meets its contract: the ones of a row are its starts. Assumes nothing.
use Rattle.rules.proofs.Bits.{ones_are_below}
use Rattle.plain.proofs.instances.Goals as goal

pub returns : goal.returns
returns c = ones_are_below 64 c.args.row c.ranges.row.fits
