-- The step of each operator but `;`, over any two sets of instances: the answer is the latest, and what is remembered stays so.
-- Assumes nothing.
use mathlib.Core.Path.{◌≡◌, refl, sym, subst, ap, ◌∙◌}
use mathlib.Core.Logic.{inl, inr}
use Prim.Native.Nat.{ℕ, suc, ◌≤◌, ◌<◌, min, max, pred}
use native.Mathlib.Decide.{dec_le, dec_lt, ℕ_discrete}
use native.Mathlib.Omega.{arith}
use Rattle.rules.specs.declared.Op.TheVariants.{Either, Both, Without}
use Rattle.rules.specs.Bits.{bit}
use Rattle.rules.specs.Decisions.{pick}
use Rattle.rules.specs.Instances.{Record, Instances, Occurs, Rule, Short, Latest}
use Rattle.detector.specs.Memory.{Span}
use Rattle.detector.specs.Step.{starting_at, pair_at, later, short_enough, unblocked}
use Rattle.detector.proofs.Decisions.{pick_cases}
use Rattle.detector.proofs.Good.{Top, Real}

-- what is remembered of an operand starts as late as it did, or as the answer
pub later_start : (p : Span) (a t : ℕ) → (later p a t).start ≡ max p.start a
unfolding later
later_start p a t =
    pick_cases (λ q. q.start ≡ max p.start a) (dec_lt p.start a) (pair_at t a) p (λ h. omega arith) (λ h. omega arith)

-- and is an instance still
pub later_real : {X : Instances} (p : Span) (a t : ℕ) → Real X t p → Latest X t a → Real X (suc t) (later p a t)
unfolding later
later_real {X} p a t h l =
    pick_cases (Real X (suc t)) (dec_lt p.start a) (pair_at t a) p
    (λ k s e. (t, refl, omega arith, l.real s e))
    (λ k s e. let b = h s e in (b.0, b.1, omega (arith, b.2), b.3))

-- the latest start seen, with the answer at t, is the latest start seen up to t
pub top_step : {X : Instances} {t a b : ℕ} → Top X t a → Latest X t b → (c : ℕ) → c ≡ max a b → Top X (suc t) c
top_step {X} {t} {a} {b} h l c q = record {
  bound = λ s u x k. at s u x k (dec_lt u t);
  real = λ s e. of s e (dec_le b a);
}
  where
    at : (s u : ℕ) → X s u → u < suc t → Dec (u < t) → s < c
    at s u x k (yes d) = omega (arith, h.bound s u x d)
    at s u x k (no d) = let u≡t : u ≡ t = omega arith in omega (arith, l.bound s (subst (X s) u≡t x))

    of : (s : ℕ) → c ≡ suc s → Dec (b ≤ a) → (u : ℕ) × (u < suc t) × X s u
    of s e (yes d) = let r = h.real s (omega arith) in (r.0, omega (arith, r.1), r.2)
    of s e (no d) = (t, omega arith, l.real s (omega arith))

-- a letter
pub event_latest : (r : Record) (n t w : ℕ) → r t ≡ w → Latest (Occurs r n) t (pick (ℕ_discrete (bit w n) 1) (starting_at t) 0)
event_latest r n t w q =
    pick_cases (Latest (Occurs r n) t) (ℕ_discrete (bit w n) 1) (starting_at t) 0
    (λ h. record { bound = λ s x. omega (arith, x.0); real = λ s e. (omega arith, ap (λ (v : ℕ). bit v n) q ∙ h) })
    (λ h. record { bound = λ s x. absurd (h (ap (λ (v : ℕ). bit v n) (sym q) ∙ x.1)); real = λ s e. absurd (omega arith) })

-- `|`
pub either_latest : {X Y : Instances} {t a b : ℕ} → Latest X t a → Latest Y t b → Latest (Rule Either X Y) t (max a b)
either_latest {X} {Y} {t} {a} {b} l k = record { bound = at; real = λ s e. of s e (dec_le b a) }
  where
    at : (s : ℕ) → Rule Either X Y s t → s < max a b
    at s (inl x) = omega (arith, l.bound s x)
    at s (inr y) = omega (arith, k.bound s y)

    of : (s : ℕ) → max a b ≡ suc s → Dec (b ≤ a) → Rule Either X Y s t
    of s e (yes d) = inl (l.real s (omega arith))
    of s e (no d) = inr (k.real s (omega arith))

-- `@`
pub within_latest : {X : Instances} {t a : ℕ} (n : ℕ) → Latest X t a → Latest (Short n X) t (pick (short_enough n t a) a 0)
within_latest {X} {t} {a} n l =
    pick_cases (Latest (Short n X) t) (short_enough n t a) a 0
    (λ d. record { bound = λ s x. l.bound s x.0; real = λ s e. (l.real s e, omega arith) })
    (λ d. record { bound = λ s x. absurd (d (omega (arith, l.bound s x.0, x.1))); real = λ s e. absurd (omega arith) })

-- `-`, where v is the latest start of y that ends at t or before
pub without_latest : {X Y : Instances} {t a v : ℕ} → Latest X t a → Top Y (suc t) v → Latest (Rule Without X Y) t (pick (unblocked v a) a 0)
without_latest {X} {Y} {t} {a} {v} l h =
    pick_cases (Latest (Rule Without X Y) t) (unblocked v a) a 0
    (λ d. record {
      bound = λ s x. l.bound s x.0;
      real = λ s e. (l.real s e, λ s' t' i j y. omega (arith, h.bound s' t' y (omega arith)));
    })
    (λ d. record {
      bound = λ s x. absurd (blocked s (omega (arith, l.bound s x.0)) x);
      real = λ s e. absurd (omega arith);
    })
  where
    blocked : (s : ℕ) → s < v → Rule Without X Y s t → ⊥
    blocked s k x = let b = h.real (pred v) (omega arith) in x.1 (pred v) b.0 (omega arith) (omega (arith, b.1)) b.2

-- `+`, where p and q are the latest starts of x and y that end at t or before
pub both_latest :
    {X Y : Instances} {t a b p q : ℕ} → Latest X t a → Latest Y t b → Top X (suc t) p → Top Y (suc t) q →
    Latest (Rule Both X Y) t (max (min a q) (min p b))
both_latest {X} {Y} {t} {a} {b} {p} {q} l k h j = record {
  bound = λ s x. at s x (dec_le x.3 x.1);
  real = λ s e. of s e (dec_le (min p b) (min a q));
}
  where
    at : (s : ℕ) (x : Rule Both X Y s t) → Dec (x.3 ≤ x.1) → s < max (min a q) (min p b)
    at s (s₁, t₁, s₂, t₂, x, y, es, et) (yes d) =
        let t₁≡t : t₁ ≡ t = omega arith in
        omega (arith, l.bound s₁ (subst (X s₁) t₁≡t x), j.bound s₂ t₂ y (omega arith))
    at s (s₁, t₁, s₂, t₂, x, y, es, et) (no d) =
        let t₂≡t : t₂ ≡ t = omega arith in
        omega (arith, k.bound s₂ (subst (Y s₂) t₂≡t y), h.bound s₁ t₁ x (omega arith))

    of : (s : ℕ) → max (min a q) (min p b) ≡ suc s → Dec (min p b ≤ min a q) → Rule Both X Y s t
    of s e (yes d) =
        let y = j.real (pred q) (omega arith) in
        (pred a, t, pred q, y.0, l.real (pred a) (omega arith), y.2, omega arith, omega (arith, y.1))
    of s e (no d) =
        let x = h.real (pred p) (omega arith) in
        (pred p, x.0, pred b, t, x.2, k.real (pred b) (omega arith), omega arith, omega (arith, x.1))
