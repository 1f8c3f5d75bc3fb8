-- The patterns of the algebra, as trees (docs/RULES.md, "The algebra"). Assumes nothing: these are definitions.
use Rattle.std.specs.Prelude.{ℕ, ◌+◌, ◌<◌}
use Rattle.rules.specs.declared.Op.{Op}
use Rattle.rules.specs.Limits.{letters}

-- a letter, by its event type; `(x|y)`, `(x+y)`, `(x-y)`, `(x;y)`; `(x@n)`
pub data Pattern : Type 0 where
  event : ℕ → Pattern
  pair : Op → Pattern → Pattern → Pattern
  within : Pattern → ℕ → Pattern

-- the number of entries of a pattern's body
unfoldable pub size : Pattern → ℕ
size (event n) = 1
size (pair op x y) = size x + size y + 1
size (within x n) = size x + 1

-- its event types exist, and its restriction numbers are below a bound
abbrev pub Proper : ℕ → Pattern → Type 0
Proper bound (event n) = n < letters
Proper bound (pair op x y) = Proper bound x × Proper bound y
Proper bound (within x n) = Proper bound x × (n < bound)
