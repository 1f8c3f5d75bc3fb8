-- Pairs as words: start + 1 and end + 1, or 0,0 for none (docs/RULES.md, "Room and state").
-- Assumes nothing: these are definitions.
use Rattle.std.specs.Prelude.{List, [], ◌∷◌, ℕ, zero, suc, ◌+◌, get_or}
use Rattle.std.proofs.Math.Decide.{ℕ_discrete}
use Rattle.rules.specs.Decisions.{pick}
use Rattle.detector.specs.Memory.{Span}

-- the two words of a pair
abbrev pub span_words : Span → List ℕ
span_words q = q.start ∷ q.end ∷ []

-- the pair that stands at a place
abbrev pub span_at : List ℕ → ℕ → Span
span_at c i = record { start = get_or c i 0; end = get_or c (i + 1) 0 }

-- the kept pairs first, and zeros after: n pairs in all
unfoldable pub kept_words : ℕ → List Span → List ℕ
kept_words zero l = []
kept_words (suc n) [] = 0 ∷ 0 ∷ kept_words n []
kept_words (suc n) (q ∷ l) = q.start ∷ q.end ∷ kept_words n l

-- the kept pairs that words hold: those before the first empty one
unfoldable pub kept_of : List ℕ → List Span
kept_of [] = []
kept_of (a ∷ []) = []
kept_of (a ∷ b ∷ c) = pick (ℕ_discrete a 0) [] (record { start = a; end = b } ∷ kept_of c)

-- the starts of all the pairs, empty ones too
unfoldable pub starts_in : List ℕ → List ℕ
starts_in [] = []
starts_in (a ∷ []) = []
starts_in (a ∷ b ∷ c) = a ∷ starts_in c
