-- The cell of an operator: a `+` has two pairs (left, right), a `-` one word, a `;` one pair (latest) and p(y) kept pairs.
-- What a tick makes of it is the detector's, read from and written to words. Assumes nothing: these are definitions.
use Rattle.std.specs.Prelude.{List, [], ◌∷◌, ◌++◌, ℕ, ◌+◌, ◌*◌, min, max, get_or, drop, length}
use Rattle.std.proofs.Math.Decide.{dec_lt}
use Rattle.rules.specs.declared.Op.{Op}
use Rattle.rules.specs.declared.Op.TheVariants.{Either, Both, Without, Chain}
use Rattle.rules.specs.Decisions.{pick}
use Rattle.detector.specs.Memory.{Span}
use Rattle.detector.specs.Choice.{choose, gather}
use Rattle.cell.specs.Words.{span_words, span_at, kept_words, kept_of, starts_in}

-- the words of an operator's cell, where its right operand has p(y)
unfoldable pub cell_words : Op → ℕ → ℕ
cell_words Either y = 0
cell_words Both y = 4
cell_words Without y = 1
cell_words Chain y = 2 * (1 + y)

-- p of an operator, from p(x) and p(y)
unfoldable pub possible : Op → ℕ → ℕ → ℕ
possible Either x y = x + y
possible Both x y = x + y + 2
possible Without x y = x
possible Chain x y = x + y + 1

-- latest and the kept pairs of a `;`
abbrev pub pairs_of : List ℕ → List Span
pairs_of c = span_at c 0 ∷ kept_of (drop 2 c)

-- the pair becomes the answer a, with its end word e, where that starts strictly later
unfoldable pub becomes : Span → ℕ → ℕ → Span
becomes q a e = pick (dec_lt q.start a) (record { start = a; end = e }) q

-- the answer, from the operands' answers x and y and the cell as it was; e is the end word of the tick, t + 1
unfoldable pub cell_answer : Op → ℕ → ℕ → ℕ → List ℕ → ℕ
cell_answer Either e x y c = max x y
cell_answer Both e x y c = max (min x (becomes (span_at c 2) y e).start) (min (becomes (span_at c 0) x e).start y)
cell_answer Without e x y c = pick (dec_lt (max (get_or c 0 0) y) x) x 0
cell_answer Chain e x y c = (choose (pairs_of c) y).start

-- the cell after the tick; ys are y's possible starts after its own step
unfoldable pub cell_after : Op → ℕ → ℕ → ℕ → List ℕ → List ℕ → List ℕ
cell_after Either e x y ys c = c
cell_after Both e x y ys c = span_words (becomes (span_at c 0) x e) ++ span_words (becomes (span_at c 2) y e)
cell_after Without e x y ys c = max (get_or c 0 0) y ∷ []
cell_after Chain e x y ys c = span_words (becomes (span_at c 0) x e) ++ kept_words (length ys) (gather (pairs_of c) ys)

-- the possible starts that the cell adds to its operands'
unfoldable pub cell_starts : Op → List ℕ → List ℕ
cell_starts Either c = []
cell_starts Both c = get_or c 0 0 ∷ get_or c 2 0 ∷ []
cell_starts Without c = []
cell_starts Chain c = starts_in (drop 2 c) ++ (get_or c 0 0 ∷ [])

-- the possible starts of an operator, from its operands' and its cell after the tick
unfoldable pub starts_after : Op → List ℕ → List ℕ → List ℕ → List ℕ
starts_after Either xs ys c = xs ++ ys
starts_after Both xs ys c = xs ++ (ys ++ cell_starts Both c)
starts_after Without xs ys c = xs
starts_after Chain xs ys c = xs ++ cell_starts Chain c
