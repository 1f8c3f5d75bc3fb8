-- What the detector remembers between ticks, as a tree of the shape of its pattern (docs/RULES.md, "Room and state").
-- Assumes nothing: these are definitions.
use Rattle.std.specs.Prelude.{List, [], ℕ}
use Rattle.rules.specs.declared.Op.TheVariants.{Either, Both, Without, Chain}
use Rattle.rules.specs.Pattern.{Pattern, event, pair, within}

-- a pair: start + 1 and end + 1, or 0 and 0 for none
pub record Span : Type 0 where
  pub start : ℕ
  pub end : ℕ

-- no pair
abbrev pub none : Span
none = record { start = 0; end = 0 }

-- x's memory, then y's, then: of `+` left and right; of `-` the latest start of y seen, as start + 1 or 0; of `;` latest and the kept pairs
abbrev pub Memory : Pattern → Type 0
Memory (event n) = Unit {0}
Memory (pair Either x y) = Memory x × Memory y
Memory (pair Both x y) = Memory x × Memory y × Span × Span
Memory (pair Without x y) = Memory x × Memory y × ℕ
Memory (pair Chain x y) = Memory x × Memory y × Span × List Span
Memory (within x n) = Memory x

-- the memory before the first tick: no pair anywhere
unfoldable pub fresh : (e : Pattern) → Memory e
fresh (event n) = tt
fresh (pair Either x y) = (fresh x, fresh y)
fresh (pair Both x y) = (fresh x, fresh y, none, none)
fresh (pair Without x y) = (fresh x, fresh y, 0)
fresh (pair Chain x y) = (fresh x, fresh y, none, [])
fresh (within x n) = fresh x
