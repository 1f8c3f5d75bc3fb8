-- `plain::from` meets its contract: two shifts clear the bits below k, and a row has none from 64 on. Assumes nothing.
use Rattle.plain.proofs.Sets.{from_k, from_high}
use Rattle.plain.proofs.from.Goals as goal

pub returns-then-k-lt64 : goal.returns-then-k-lt64
returns-then-k-lt64 c = from_k c.args.row c.args.k c.ranges.row.fits

pub returns-else-k-lt64 : goal.returns-else-k-lt64
returns-else-k-lt64 c = from_high c.args.row c.args.k c.ranges.row.fits c.if-k-lt64.false
