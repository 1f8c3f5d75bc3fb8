-- What is claimed of the detector, and proved in proofs/Theorem. Assumes nothing: these are definitions.
use Rattle.std.specs.Prelude.{◌≡◌, List, [], ◌∷◌, ◌++◌, ℕ, suc, ◌≤◌, ◌<◌, min, max, length}
use Rattle.std.proofs.Math.Decide.{ℕ_discrete}
use Rattle.rules.specs.declared.Op.TheVariants.{Both, Chain}
use Rattle.rules.specs.Lists.{In, Any}
use Rattle.rules.specs.Decisions.{pick}
use Rattle.rules.specs.Pattern.{Pattern, pair}
use Rattle.rules.specs.Instances.{Has, Latest}
use Rattle.rules.specs.History.{Tick, Rising, record_of}
use Rattle.detector.specs.Memory.{Span, Memory, fresh}
use Rattle.detector.specs.Possible.{starts, p}
use Rattle.detector.specs.Choice.{choose}
use Rattle.detector.specs.Step.{later, answer, next}
use Rattle.detector.specs.Run.{run}
use Rattle.detector.specs.Form.{Sorted, Form}

-- at every accepted tick the answer is the latest start of an instance that ends there, by the rules on all accepted events, this tick's included
abbrev pub Right : Type 0
Right =
    (e : Pattern) (h : List Tick) (t w : ℕ) → Rising 0 (h ++ ((t, w) ∷ [])) →
    Latest (Has (record_of (h ++ ((t, w) ∷ []))) e) t (answer e (run e h) t w)

-- the same for a tick with others after it: what comes later does not matter
abbrev pub Always : Type 0
Always =
    (e : Pattern) (h l : List Tick) (t w : ℕ) → Rising 0 (h ++ ((t, w) ∷ l)) →
    Latest (Has (record_of (h ++ ((t, w) ∷ l))) e) t (answer e (run e h) t w)

-- a fresh memory is in form, and the next tick allowed is 0
abbrev pub BeginsInForm : Type 0
BeginsInForm = (e : Pattern) → Form 0 e (fresh e)

-- a tick keeps every memory in form, whether a run reaches it or not: the next tick allowed becomes t + 1, and no `;` keeps more than p(y) pairs
abbrev pub StaysInForm : Type 0
StaysInForm = (t w τ : ℕ) → τ ≤ t → (e : Pattern) (m : Memory e) → Form τ e m → Form (suc t) e (next e m t w)

-- a memory in form has at most p possible starts
abbrev pub FewStarts : Type 0
FewStarts = (τ : ℕ) (e : Pattern) (m : Memory e) → Form τ e m → length (starts e m) ≤ p e

-- the pair is one of the list
abbrev pub Among : Span → List Span → Type 0
Among q l = Any (λ c. q ≡ c) l

-- c starts later than q, or with it and does not end later
abbrev pub Beats : Span → Span → Type 0
Beats c q = (q.start ≤ c.start) × (q.start ≡ c.start → c.end ≤ q.end)

-- what is chosen for σ, unless it is none, is one of the pairs and ends before σ; and it beats every pair that ends before σ
abbrev pub ChoosesAsWorded : Type 0
ChoosesAsWorded =
    (l : List Span) (σ : ℕ) →
    (0 < (choose l σ).start → Among (choose l σ) l × ((choose l σ).end < σ))
    × ((q : Span) → Among q l → q.end < σ → Beats (choose l σ) q)

-- the pair is the one chosen for some possible start, and is not none
abbrev pub Chosen : List Span → List ℕ → Span → Type 0
Chosen old ss q = (σ : ℕ) × In σ ss × (q ≡ choose old σ) × (0 < q.start)

-- after a tick the kept pairs of a `;` are exactly those chosen from the kept pairs and latest as they were, for y's possible starts after the step,
-- with starts strictly rising, so without repeats
abbrev pub KeepsExactly : Type 0
KeepsExactly =
    (x y : Pattern) (m : Memory (pair Chain x y)) (t w : ℕ) →
    ((q : Span) → Among q (next (pair Chain x y) m t w).3 → Chosen (m.2 ∷ m.3) (starts y (next y m.1 t w)) q)
    × ((q : Span) → Chosen (m.2 ∷ m.3) (starts y (next y m.1 t w)) q → Among q (next (pair Chain x y) m t w).3)
    × Sorted 0 (next (pair Chain x y) m t w).3

-- none, if a side is empty or no operand answered; else the greater of min(x, right) and min(left, y) over starts, using the sides that exist:
-- a side counts only with an answer of the other operand
abbrev pub both_worded : (x y left right : ℕ) → ℕ
both_worded x y left right =
    pick (ℕ_discrete left 0) 0
    (pick (ℕ_discrete right 0) 0
    (pick (ℕ_discrete x 0)
    (pick (ℕ_discrete y 0) 0 (min left y))
    (pick (ℕ_discrete y 0) (min x right) (max (min x right) (min left y)))))

-- the answer of `+` is what these words say of the operands' answers and of left and right after the tick
abbrev pub BothAsWorded : Type 0
BothAsWorded =
    (x y : Pattern) (m : Memory (pair Both x y)) (t w : ℕ) →
    answer (pair Both x y) m t w
    ≡ both_worded (answer x m.0 t w) (answer y m.1 t w)
    (later m.2 (answer x m.0 t w) t).start (later m.3 (answer y m.1 t w) t).start
