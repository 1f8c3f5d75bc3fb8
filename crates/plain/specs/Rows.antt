-- The 64 rows of an entry: bit s of row e stands for the instance from s to e (docs/RULES.md, "The plain evaluator").
-- Assumes nothing: these are definitions.
use Rattle.std.specs.Prelude.{◌≡◌, ◌↔◌, List, [], ◌∷◌, ◌++◌, ℕ, ◌*◌, ◌<◌, ◌≤◌, get_or, take, drop, length}
use Rattle.rules.specs.Bits.{On}
use Rattle.rules.specs.Limits.{most_words}
use Rattle.rules.specs.Pattern.{Pattern, event, pair, within}
use Rattle.rules.specs.Instances.{Record, Instances, Has}

-- the instances that rows show
abbrev pub Shown : List ℕ → Instances
Shown rows s e = On (get_or rows e 0) s

-- the rows of entry k
abbrev pub rows_of : List ℕ → ℕ → List ℕ
rows_of rows k = take most_words (drop (k * most_words) rows)

-- the record of a list of event words: ticks 0, 1, 2 .., and no event beyond
abbrev pub worded : List ℕ → Record
worded words t = get_or words t 0

-- the patterns that the entries of a pattern's body end, in entry order
unfoldable pub parts : Pattern → List Pattern
parts (event n) = event n ∷ []
parts (pair op x y) = parts x ++ (parts y ++ (pair op x y ∷ []))
parts (within x n) = parts x ++ (within x n ∷ [])

-- the rows of each entry show exactly the instances of its pattern, and what lies beyond them is kept
pub record Written (r : Record) (es : List Pattern) (old new : List ℕ) : Type 0 where
  pub long : length new ≡ length old
  pub shown : (k : ℕ) → k < length es → (s e : ℕ) → Shown (rows_of new k) s e ↔ Has r (get_or es k (event 0)) s e
  pub kept : (i : ℕ) → length es * most_words ≤ i → get_or new i 0 ≡ get_or old i 0
