-- Which pairs a `;` chooses and keeps (docs/RULES.md, "The detector"). A start σ is start + 1, so a pair ends before it if its end + 1 is below σ.
-- Assumes nothing: these are definitions.
use Rattle.std.specs.Prelude.{List, [], ◌∷◌, ℕ}
use Rattle.std.proofs.Math.Decide.{dec_lt}
use Rattle.rules.specs.Decisions.{pick}
use Rattle.detector.specs.Memory.{Span, none}

-- the pair that starts later; if both start at once, the one that ends first
unfoldable pub better : Span → Span → Span
better p q = pick (dec_lt q.start p.start) p (pick (dec_lt p.start q.start) q (pick (dec_lt p.end q.end) p q))

-- of the pairs that end before the start σ, the one that starts latest (of equal starts, the one that ends first), or none
unfoldable pub choose : List Span → ℕ → Span
choose [] σ = none
choose (p ∷ l) σ = pick (dec_lt p.end σ) (better p (choose l σ)) (choose l σ)

-- a pair put in its place in a list whose starts rise strictly; of two with the same start, the better stays
unfoldable pub insert : Span → List Span → List Span
insert p [] = p ∷ []
insert p (q ∷ l) = pick (dec_lt p.start q.start) (p ∷ q ∷ l) (pick (dec_lt q.start p.start) (q ∷ insert p l) (better p q ∷ l))

-- a pair put in its place, unless it is none
unfoldable pub keep : Span → List Span → List Span
keep p l = pick (dec_lt 0 p.start) (insert p l) l

-- the pairs chosen from the old ones, one for each possible start, without repeats
unfoldable pub gather : List Span → List ℕ → List Span
gather old [] = []
gather old (σ ∷ l) = keep (choose old σ) (gather old l)
