-- `decimal::Backwards::number` meets its contract. The invariant: once the digits of the number left are written too, the whole number is,
-- as far as there is room.
-- Assumes nothing.
use Rattle.std.specs.Prelude.{◌≡◌, ℕ, ◌+◌, min, List, length}
use Rattle.decimal.specs.Decimal.{decimal}
use Rattle.decimal.specs.Before.{Before}
use Rattle.decimal.proofs.Backwards.number.Given as goal

abbrev pub invariant-loop-left : goal.invariant-loop-left
invariant-loop-left g l =
    ((x : List ℕ) → Before g.row.N l.self x (decimal l.left) → Before g.row.N l.initial.self x (decimal l.n))
    × (min g.row.N (length l.self + length (decimal l.left)) ≡ min g.row.N (length l.initial.self + length (decimal l.n)))

abbrev pub decreases-loop-left : goal.decreases-loop-left
decreases-loop-left g l = l.left
