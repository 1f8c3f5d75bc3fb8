-- A row of `-`, in `plain::fill_without`: it is stated on the masks of the starts seen so far. Assumes nothing.
use Prim.Native.Nat.{◌+◌}
use Rattle.plain.proofs.Sets.{without}
use native.Mathlib.Omega.{arith}
use Rattle.plain.proofs.fn.fill_without.fill.Goals as goal

pub returns : goal.returns
returns c =
    without c.captures.left.now c.captures.right.now c.args.e _ c.above.result
    (c.requires.1.seen.masked (c.args.e + 1) (omega arith)) c.above.ensures
