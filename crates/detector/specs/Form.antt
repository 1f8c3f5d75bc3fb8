-- When a memory is in form (docs/RULES.md, "Room and state"), on trees; τ is the next tick allowed. Assumes nothing: these are definitions.
use Rattle.std.specs.Prelude.{◌≡◌, List, [], ◌∷◌, ℕ, ◌≤◌, ◌<◌, length}
use Rattle.rules.specs.declared.Op.TheVariants.{Either, Both, Without, Chain}
use Rattle.rules.specs.Lists.{All}
use Rattle.rules.specs.Pattern.{Pattern, event, pair, within}
use Rattle.detector.specs.Memory.{Span, Memory}
use Rattle.detector.specs.Possible.{p}

-- a pair is 0,0 or has both words above 0 and start <= end, and its end+1 is at most the next tick
abbrev pub Fits : ℕ → Span → Type 0
Fits τ q = (q.start ≤ q.end) × (q.end ≤ τ) × (q.start ≡ 0 → q.end ≡ 0)

-- the starts are above b and strictly rising
abbrev pub Sorted : ℕ → List Span → Type 0
Sorted b [] = Unit {0}
Sorted b (q ∷ l) = (b < q.start) × Sorted q.start l

-- every pair fits, the word of each `-` is at most the next tick, and the kept pairs of each `;` are at most p(y), with starts strictly rising
abbrev pub Form : ℕ → (e : Pattern) → Memory e → Type 0
Form τ (event n) m = Unit {0}
Form τ (pair Either x y) m = Form τ x m.0 × Form τ y m.1
Form τ (pair Both x y) m = Form τ x m.0 × Form τ y m.1 × Fits τ m.2 × Fits τ m.3
Form τ (pair Without x y) m = Form τ x m.0 × Form τ y m.1 × (m.2 ≤ τ)
Form τ (pair Chain x y) m =
    Form τ x m.0 × Form τ y m.1 × Fits τ m.2 × All (Fits τ) m.3 × Sorted 0 m.3 × (length m.3 ≤ p y)
Form τ (within x n) m = Form τ x m
