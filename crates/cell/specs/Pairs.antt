-- Pairs that stand one after the other in words, as the code reads and writes them. Assumes nothing: these are definitions.
use Rattle.std.specs.Prelude.{List, [], ◌∷◌, ℕ, zero, suc, ◌+◌, ◌/◌, set, length}
use Rattle.detector.specs.Memory.{Span}
use Rattle.cell.specs.declared.pair.Pair.{Pair}
use Rattle.cell.specs.Words.{span_at}

-- the code's pair
abbrev pub span_of : Pair → Span
span_of p = record { start = p.start; end = p.end }

-- n pairs from a place on
unfoldable pub spans_from : List ℕ → ℕ → ℕ → List Span
spans_from c at zero = []
spans_from c at (suc n) = span_at c at ∷ spans_from c (at + 2) n

-- the pairs that the words are
abbrev pub spans_in : List ℕ → List Span
spans_in c = spans_from c 0 (length c / 2)

-- a pair stored at a place
abbrev pub put_span : List ℕ → ℕ → Span → List ℕ
put_span c at q = set (set c at q.start) (at + 1) q.end
