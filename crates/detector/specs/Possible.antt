-- The possible starts of a pattern: those that its later instances may have, other than starts still to come; and p, how many there can be
-- (docs/RULES.md, "The detector", "Room and state").
-- Assumes nothing: these are definitions.
use Rattle.std.specs.Prelude.{List, [], ◌∷◌, ◌++◌, ℕ, ◌+◌}
use Rattle.rules.specs.declared.Op.TheVariants.{Either, Both, Without, Chain}
use Rattle.rules.specs.Pattern.{Pattern, event, pair, within}
use Rattle.detector.specs.Memory.{Span, Memory}

-- the starts of a list of pairs
abbrev pub starts_of : List Span → List ℕ
starts_of [] = []
starts_of (q ∷ l) = q.start ∷ starts_of l

-- none for a letter; x's and y's for `|`; x's, y's, left's and right's for `+`; x's for `-` and `@`; x's, the kept pairs' and latest's for `;`
-- (each as start + 1; a 0 among them, from an empty pair, does nothing: no pair ends before it)
abbrev pub starts : (e : Pattern) → Memory e → List ℕ
starts (event n) m = []
starts (pair Either x y) m = starts x m.0 ++ starts y m.1
starts (pair Both x y) m = starts x m.0 ++ (starts y m.1 ++ (m.2.start ∷ m.3.start ∷ []))
starts (pair Without x y) m = starts x m.0
starts (pair Chain x y) m = starts x m.0 ++ (starts_of m.3 ++ (m.2.start ∷ []))
starts (within x n) m = starts x m

-- p is 0 for a letter; p(x|y) = p(x)+p(y); p(x+y) = p(x)+p(y)+2; p(x-y) = p(x); p(x;y) = p(x)+p(y)+1; p(x@n) = p(x)
unfoldable pub p : Pattern → ℕ
p (event n) = 0
p (pair Either x y) = p x + p y
p (pair Both x y) = p x + p y + 2
p (pair Without x y) = p x
p (pair Chain x y) = p x + p y + 1
p (within x n) = p x
