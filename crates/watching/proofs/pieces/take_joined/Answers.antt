-- `watching::pieces::take_joined` meets its contract: the two copies make the line. Assumes nothing.
use Prim.Native.Nat.{◌+◌, ◌^◌, ◌<◌}
use native.Mathlib.Omega.{arith}
use Rattle.watching.proofs.Progress.{joined_progress}
use Rattle.watching.proofs.pieces.take_joined.Goals as goal
use Rattle.watching.proofs.pieces.take_joined.Goals.{Start}

-- the place after a line feed is within the chunk
fits_more : (c : Start) → c.args.end + 1 < 2 ^ 64
fits_more c = omega (arith, c.requires.ends.inside)

pub returns : goal.returns
returns c =
    joined_progress c.requires c.append-from.ensures c.append-bytes.ensures c.take_line-taken.ensures
