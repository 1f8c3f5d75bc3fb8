-- What a memory knows: `Good r e m τ` says that the memory m of the pattern e has seen all that ends before the tick τ in the record r.
-- It holds of a fresh memory, and where nothing ends it goes on holding. Assumes nothing.
use mathlib.Core.Path.{◌≡◌}
use mathlib.Core.List.{List}
use Prim.Native.Nat.{ℕ, suc, ◌<◌}
use native.Mathlib.Omega.{arith}
use Rattle.rules.specs.declared.Op.TheVariants.{Either, Both, Without, Chain}
use Rattle.rules.specs.Lists.{In, All, Any}
use Rattle.rules.specs.Pattern.{Pattern, event, pair, within}
use Rattle.rules.specs.Instances.{Record, Instances, Has}
use Rattle.rules.proofs.Lists.{all_map}
use Rattle.detector.specs.Memory.{Span, Memory, fresh}
use Rattle.detector.specs.Possible.{starts}

-- a is start + 1 of the latest start of an instance that ends before τ, or 0 if none ends there
pub record Top (X : Instances) (τ a : ℕ) : Type 0 where
  pub bound : (s u : ℕ) → X s u → u < τ → s < a
  pub real : (s : ℕ) → a ≡ suc s → (u : ℕ) × (u < τ) × X s u

-- the pair is none or an instance that ends before τ
abbrev pub Real : Instances → ℕ → Span → Type 0
Real X τ p = (s : ℕ) → p.start ≡ suc s → (u : ℕ) × (p.end ≡ suc u) × (u < τ) × X s u

-- some pair of the list ends before σ and starts at s or later
abbrev pub Reach : List Span → ℕ → ℕ → Type 0
Reach l σ s = Any (λ p. (p.end < σ) × (s < p.start)) l

-- for each instance that ends before one of the starts ss, some pair ends before that start too and starts no earlier
abbrev pub Kept : Instances → ℕ → List Span → List ℕ → Type 0
Kept X τ l ss = (σ : ℕ) → In σ ss → (s u : ℕ) → X s u → u < τ → suc u < σ → Reach l σ s

-- the memory has seen all that ends before τ
abbrev pub Good : (r : Record) (e : Pattern) → Memory e → ℕ → Type 0
Good r (event n) m τ = Unit {0}
Good r (pair Either x y) m τ = Good r x m.0 τ × Good r y m.1 τ
Good r (pair Both x y) m τ = Good r x m.0 τ × Good r y m.1 τ × Top (Has r x) τ m.2.start × Top (Has r y) τ m.3.start
Good r (pair Without x y) m τ = Good r x m.0 τ × Good r y m.1 τ × Top (Has r y) τ m.2
Good r (pair Chain x y) m τ =
    Good r x m.0 τ × Good r y m.1 τ × Top (Has r x) τ m.2.start × Real (Has r x) τ m.2
    × All (Real (Has r x) τ) m.3 × Kept (Has r x) τ m.3 (starts y m.1)
Good r (within x n) m τ = Good r x m τ

-- the instances that end before τ are those that end before τ'
pub record Same (X : Instances) (τ τ' : ℕ) : Type 0 where
  pub there : (s u : ℕ) → u < τ → X s u → u < τ'
  pub back : (s u : ℕ) → u < τ' → X s u → u < τ

top_move : {X : Instances} {τ τ' a : ℕ} → Same X τ τ' → Top X τ a → Top X τ' a
top_move q h = record {
  bound = λ s u x k. h.bound s u x (q.back s u k x);
  real = λ s e. let b = h.real s e in (b.0, q.there s b.0 b.1 b.2, b.2);
}

real_move : {X : Instances} {τ τ' : ℕ} → Same X τ τ' → (p : Span) → Real X τ p → Real X τ' p
real_move q p h s e = let b = h s e in (b.0, b.1, q.there s b.0 b.2 b.3, b.3)

kept_move : {X : Instances} {τ τ' : ℕ} (l : List Span) (ss : List ℕ) → Same X τ τ' → Kept X τ l ss → Kept X τ' l ss
kept_move l ss q h σ i s u x k lt = h σ i s u x (q.back s u k x) lt

-- a memory that has seen all before τ has seen all before τ', if nothing ends between
pub good_move : (r : Record) (τ τ' : ℕ) → ((e : Pattern) → Same (Has r e) τ τ') → (e : Pattern) (m : Memory e) → Good r e m τ → Good r e m τ'
good_move r τ τ' q (event n) m g = tt
good_move r τ τ' q (pair Either x y) m g = (good_move r τ τ' q x m.0 g.0, good_move r τ τ' q y m.1 g.1)
good_move r τ τ' q (pair Both x y) m g =
    (good_move r τ τ' q x m.0 g.0, good_move r τ τ' q y m.1 g.1, top_move (q x) g.2, top_move (q y) g.3)
good_move r τ τ' q (pair Without x y) m g =
    (good_move r τ τ' q x m.0 g.0, good_move r τ τ' q y m.1 g.1, top_move (q y) g.2)
good_move r τ τ' q (pair Chain x y) m g = (
  good_move r τ τ' q x m.0 g.0,
  good_move r τ τ' q y m.1 g.1,
  top_move (q x) g.2,
  real_move (q x) m.2 g.3,
  all_map m.3 (real_move (q x)) g.4,
  kept_move m.3 (starts y m.1) (q x) g.5,
)
good_move r τ τ' q (within x n) m g = good_move r τ τ' q x m g

-- nothing has ended before 0
top_fresh : (X : Instances) → Top X 0 0
top_fresh X = record { bound = λ s u x k. omega arith; real = λ s e. absurd (omega arith) }

pub fresh_good : (r : Record) (e : Pattern) → Good r e (fresh e) 0
unfolding fresh
fresh_good r (event n) = tt
fresh_good r (pair Either x y) = (fresh_good r x, fresh_good r y)
fresh_good r (pair Both x y) = (fresh_good r x, fresh_good r y, top_fresh (Has r x), top_fresh (Has r y))
fresh_good r (pair Without x y) = (fresh_good r x, fresh_good r y, top_fresh (Has r y))
fresh_good r (pair Chain x y) =
    (fresh_good r x, fresh_good r y, top_fresh (Has r x), (λ s e. absurd (omega arith)), tt, λ σ i s u x k lt. absurd (omega arith))
fresh_good r (within x n) = fresh_good r x
