-- `plain::upto` meets its contract: a mask keeps the bits up to k. Assumes nothing.
use native.Mathlib.Omega.{arith}
use Rattle.plain.proofs.Sets.{low, all}
use Rattle.plain.proofs.upto.Goals as goal

pub returns-then-k-lt64 : goal.returns-then-k-lt64
returns-then-k-lt64 c = low c.args.row c.args.k (omega arith)

pub returns-else-k-lt64 : goal.returns-else-k-lt64
returns-else-k-lt64 c = all c.args.row c.args.k c.ranges.row.fits c.if-k-lt64.false
