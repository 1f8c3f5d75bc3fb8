-- `plain::latest_start` meets its contract: the leading zeros give the highest bit that is set. Assumes nothing.
use mathlib.Core.Path.{◌≡◌}
use Prim.Native.Nat.{ℕ, ◌^◌, ◌≤◌, ◌<◌}
use native.Mathlib.Omega.{arith}
use lib.Count.{count_leading_zeros}
use Rattle.rules.proofs.Bits.{latest, none}
use Rattle.plain.proofs.latest_start.Goals as goal

few_zeros : (n : ℕ) → (n ≡ 0 → ⊥) → n < 2 ^ 64 → count_leading_zeros 64 n ≤ 63
few_zeros n p h = (latest n p h).0

pub returns-then-row-eq0 : goal.returns-then-row-eq0
returns-then-row-eq0 c = none c.args.row (omega arith)

pub returns : goal.returns
returns c =
    let l = latest c.args.row c.if-row-eq0.false c.ranges.row.fits in
    (l.1, l.2)
