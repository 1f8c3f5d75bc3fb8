-- What the functions that judge and open a state promise each other; no public call cites these. Assumes nothing: these are definitions.
use Rattle.std.specs.Prelude.{◌≡◌, Bool, cond, ◌⊎◌, List, [], ◌∷◌, ℕ, ◌+◌, ◌*◌, ◌^◌, ◌≤◌, ◌<◌, length, get_or, drop, Option, None, Some}
use Rattle.rules.specs.Limits.{argument_bytes, most_entries}
use Rattle.rules.specs.declared.Op.{Op}
use Rattle.body.specs.declared.Entry.{Entry}
use Rattle.body.specs.declared.Entry.TheVariants.{Letter, Pair, Within, Wrong}
use Rattle.body.specs.Entry.{entries_by, entry_at}
use Rattle.body.specs.Check.{scan}
use Rattle.cell.specs.Cell.{cell_words, possible}
use Rattle.watcher.specs.State.{header, count_of, next_of, word_of}
use Rattle.watcher.specs.inner.Walk.{cells_needed, entry_in, is_none, judge_cell, judged, end_by}

-- the entries of a state break no rule
unfoldable pub sounds : List ℕ → Bool
sounds s = is_none (scan (entries_by (entry_in s) 0 (count_of s)) 0 0)

-- where the cells end, none if one is not there or not in form
unfoldable pub cells_end : List ℕ → Option ℕ
cells_end s = end_by (length s) (judged s)

-- n is the number of entries, 1 to 63, and their words are there
pub record Entered (s : List ℕ) (n : ℕ) : Type 0 where
  pub count : n ≡ count_of s
  pub most : n ≤ most_entries
  pub long : header + n ≤ length s

-- where the cells end, none if the entries break a rule
unfoldable pub judged_end : List ℕ → Option ℕ
judged_end s = cond (sounds s) (cells_end s) None

-- a cell may be judged at a place
pub record CellReady (s : List ℕ) (at : ℕ) : Type 0 where
  pub low : header ≤ at
  pub inside : at ≤ length s

-- the place after the cell, none if it is not there or not in form
abbrev pub CellEnds : List ℕ → Op → ℕ → ℕ → Option ℕ → Type 0
CellEnds s op at y None = judge_cell (next_of s) op y (drop at s) ≡ None
CellEnds s op at y (Some e) =
    (e ≡ at + cell_words op y) × (e ≤ length s) × (judge_cell (next_of s) op y (drop at s) ≡ Some (drop e s))

-- how many possible starts each tree has, an operator's tree in place of its operands', the right one on top
abbrev pub merged : Op → List ℕ → List ℕ
merged op (y ∷ x ∷ st) = possible op x y ∷ st
merged op (y ∷ []) = y ∷ []
merged op [] = []

-- an entry whose word fits 64 bits
abbrev pub Narrow : Entry → Type 0
Narrow (Letter n) = n < 2 ^ 32
Narrow (Pair op) = Unit {0}
Narrow (Within n) = n < 2 ^ 32
Narrow Wrong = Unit {0}

-- n words from a place on are as v says, and no other word changed
pub record Put (v : ℕ → ℕ) (from n : ℕ) (old new : List ℕ) : Type 0 where
  pub words : (j : ℕ) → j < n → get_or new (from + j) 0 ≡ v j
  pub kept : (j : ℕ) → ((j < from) ⊎ (from + n ≤ j)) → get_or new j 0 ≡ get_or old j 0

-- the words of the entries of a body
abbrev pub words_of : List ℕ → ℕ → ℕ
words_of b i = word_of (entry_at argument_bytes b i)

-- zeros
abbrev pub zeros : ℕ → ℕ
zeros j = 0

-- n entries of a body and their cells, and room for the state
pub record OpenReady (b s : List ℕ) (n cells : ℕ) : Type 0 where
  pub whole : length b ≡ 5 * n
  pub cells_sum : cells ≡ cells_needed b
  pub room : header + n + cells ≤ length s
