-- One row: bit s stands for the start s (docs/RULES.md, "The plain evaluator"). Assumes nothing: these are definitions.
use Rattle.std.specs.Prelude.{◌↔◌, ℕ, ◌<◌, Option, Some, None}
use Rattle.rules.specs.Bits.{On}

-- the bits set in the row are just the starts of which P holds
abbrev pub Exactly : ℕ → (ℕ → Type 0) → Type 0
Exactly row P = (s : ℕ) → On row s ↔ P s

-- the latest start of a row: none if no bit is set, else the highest bit that is
abbrev pub IsLatest : ℕ → Option ℕ → Type 0
IsLatest row None = (s : ℕ) → On row s → ⊥
IsLatest row (Some s) = On row s × ((t : ℕ) → s < t → On row t → ⊥)
