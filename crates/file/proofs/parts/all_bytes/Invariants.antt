-- `file::parts::all_bytes` meets its contract: the sum so far and the bytes of the bodies left make all. Assumes nothing.
use Prim.Native.Nat.{◌+◌, ◌*◌, ◌≤◌}
use mathlib.Core.Path.{◌≡◌}
use lib.ListN.{drop}
use Rattle.file.specs.Contents.{total}
use Rattle.file.proofs.parts.all_bytes.Given as goal

abbrev pub invariant-loop-n : goal.invariant-loop-n
invariant-loop-n l = (l.sum ≤ 1275 * l.n-index) × (l.sum + total (drop l.n-index l.counts) ≡ total l.counts)
