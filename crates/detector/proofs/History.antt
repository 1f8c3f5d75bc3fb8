-- The record of a history has the events of its ticks, and none between them; one tick more moves the next tick allowed.
-- Assumes nothing.
use mathlib.Core.Path.{◌≡◌, refl, ◌∙◌}
use mathlib.Core.List.{List, [], ◌∷◌, ◌++◌}
use Prim.Native.Nat.{ℕ, suc, ◌≤◌, ◌<◌}
use native.Mathlib.Decide.{ℕ_discrete}
use native.Mathlib.Omega.{arith}
use Rattle.rules.specs.Instances.{Record}
use Rattle.rules.specs.History.{Tick, Rising, next_tick, record_of}
use Rattle.rules.proofs.Decisions.{pick_yes, pick_no}

-- the record r from τ on has the events of the ticks of h, and none between them
abbrev pub Follows : Record → ℕ → List Tick → Type 0
Follows r τ [] = Unit {0}
Follows r τ (k ∷ h) = (τ ≤ k.0) × ((u : ℕ) → τ ≤ u → u < k.0 → r u ≡ 0) × (r k.0 ≡ k.1) × Follows r (suc k.0) h

record_at : (k : Tick) (h : List Tick) (u : ℕ) → u ≡ k.0 → record_of (k ∷ h) u ≡ k.1
unfolding record_of
record_at k h u e = pick_yes (ℕ_discrete u k.0) k.1 (record_of h u) e

record_off : (k : Tick) (h : List Tick) (u : ℕ) → (u ≡ k.0 → ⊥) → record_of (k ∷ h) u ≡ record_of h u
unfolding record_of
record_off k h u n = pick_no (ℕ_discrete u k.0) k.1 (record_of h u) n

record_early : (h : List Tick) (τ u : ℕ) → Rising τ h → u < τ → record_of h u ≡ 0
unfolding record_of
record_early [] τ u q k = refl
record_early (l ∷ h) τ u q k =
    record_off l h u (λ e. omega (arith, q.0)) ∙ record_early h (suc l.0) u q.1 (omega (arith, q.0))

-- the record of a history follows it
pub record_follows : (r : Record) (τ : ℕ) (h : List Tick) → Rising τ h → ((u : ℕ) → τ ≤ u → r u ≡ record_of h u) → Follows r τ h
record_follows r τ [] q f = tt
record_follows r τ (k ∷ h) q f = (
  q.0,
  (λ u a b. f u a ∙ record_off k h u (λ e. omega arith) ∙ record_early h (suc k.0) u q.1 (omega arith)),
  f k.0 q.0 ∙ record_at k h k.0 refl,
  record_follows r (suc k.0) h q.1 (λ u a. f u (omega (arith, q.0)) ∙ record_off k h u (λ e. omega arith)),
)

pub follows_split : (r : Record) (τ : ℕ) (h l : List Tick) → Follows r τ (h ++ l) → Follows r τ h × Follows r (next_tick τ h) l
follows_split r τ [] l f = (tt, f)
follows_split r τ (k ∷ h) l f = let b = follows_split r (suc k.0) h l f.3 in ((f.0, f.1, f.2, b.0), b.1)

-- what comes first of a history that rises, rises
pub rising_before : (τ : ℕ) (h l : List Tick) → Rising τ (h ++ l) → Rising τ h
rising_before τ [] l q = tt
rising_before τ (k ∷ h) l q = (q.0, rising_before (suc k.0) h l q.1)

-- after one tick more, the next tick allowed is the one after it
pub next_tick_snoc : (τ : ℕ) (h : List Tick) (k : Tick) → next_tick τ (h ++ (k ∷ [])) ≡ suc k.0
next_tick_snoc τ [] k = refl
next_tick_snoc τ (l ∷ h) k = next_tick_snoc (suc l.0) h k

-- a history still rises with one tick more, if that is allowed
pub rising_snoc : (τ : ℕ) (h : List Tick) (k : Tick) → Rising τ h → next_tick τ h ≤ k.0 → Rising τ (h ++ (k ∷ []))
rising_snoc τ [] k q le = (le, tt)
rising_snoc τ (l ∷ h) k q le = (q.0, rising_snoc (suc l.0) h k q.1 le)
