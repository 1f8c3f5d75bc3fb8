-- What the functions that fill an entry's rows promise each other; no public contract cites these. Assumes nothing: these are definitions.
use Rattle.std.specs.Prelude.{◌≡◌, ◌⊎◌, List, ℕ, ◌+◌, ◌*◌, ◌≤◌, ◌<◌, min, get_or, length}
use Rattle.rules.specs.Bits.{On}
use Rattle.rules.specs.Limits.{most_words}
use Rattle.rules.specs.Instances.{Instances}
use Rattle.plain.specs.Row.{Exactly}
use Rattle.plain.specs.Rows.{Shown}

-- s is the start of an instance that rows show to end before k
abbrev pub Before : List ℕ → ℕ → ℕ → Type 0
Before rows k s = (t : ℕ) × (t < k) × Shown rows s t

-- place k of a list of masks has the starts of the rows below k
pub record Seen (rows masks : List ℕ) : Type 0 where
  pub long : length masks ≡ 65
  pub masked : (k : ℕ) → k ≤ 64 → Exactly (get_or masks k 0) (Before rows k)

-- s is the lesser of a start of a and one of b
abbrev pub Lesser : ℕ → ℕ → ℕ → Type 0
Lesser a b s = (p : ℕ) × (q : ℕ) × On a p × On b q × (s ≡ min p q)

-- 64 rows and the masks of what they show, for a row number
pub record Masked (rows masks : List ℕ) (e : ℕ) : Type 0 where
  pub rows_long : length rows ≡ 64
  pub seen : Seen rows masks
  pub row : e < 64

-- there is room for 64 rows, and an operator's operands have as many each
abbrev pub Operands : List ℕ → List ℕ → List ℕ → Type 0
Operands rows left right = (most_words ≤ length rows) × (length left ≡ most_words) × (length right ≡ most_words)

-- entry k's rows are each a possible row of its number, and no other word changed
pub record FilledBy (Row : ℕ → ℕ → Type 0) (k : ℕ) (old new : List ℕ) : Type 0 where
  pub kept : (i : ℕ) → ((i < k * most_words) ⊎ (k * most_words + most_words ≤ i)) → get_or new i 0 ≡ get_or old i 0
  pub made : (e : ℕ) → e < most_words → Row e (get_or new (k * most_words + e) 0)

-- entry k's rows show the instances X that end below 64, and no other word changed
abbrev pub Filled : Instances → ℕ → List ℕ → List ℕ → Type 0
Filled X = FilledBy (λ e row. Exactly row (λ s. X s e))
