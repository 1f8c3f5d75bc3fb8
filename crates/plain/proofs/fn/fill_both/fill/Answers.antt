-- A row of `+`, in `plain::fill_both`: it is stated on the masks of the starts seen so far. Assumes nothing.
use Prim.Native.Nat.{◌+◌}
use Rattle.plain.proofs.Sets.{both}
use native.Mathlib.Omega.{arith}
use Rattle.plain.proofs.fn.fill_both.fill.Goals as goal

pub returns : goal.returns
returns c =
    both c.captures.left.now c.captures.right.now c.args.e _ _ c.lesser.result c.lesser-2.result c.either.result
    (c.requires.0.seen.masked (c.args.e + 1) (omega arith)) (c.requires.1.seen.masked (c.args.e + 1) (omega arith))
    c.lesser.ensures c.lesser-2.ensures c.either.ensures
