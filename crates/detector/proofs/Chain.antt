-- The step of `;`, over any two sets of instances: the answer is the latest, and the pairs gathered still reach all that y may yet need.
-- Assumes nothing.
use mathlib.Core.Path.{◌≡◌}
use mathlib.Core.Logic.{inl, inr}
use mathlib.Core.List.{List, ◌∷◌}
use Prim.Native.Nat.{ℕ, suc, ◌≤◌, ◌<◌, pred}
use native.Mathlib.Omega.{arith}
use Rattle.rules.specs.declared.Op.TheVariants.{Chain}
use Rattle.rules.specs.Lists.{In, All}
use Rattle.rules.specs.Instances.{Instances, Rule, Latest}
use Rattle.detector.specs.Memory.{Span, none}
use Rattle.detector.specs.Choice.{choose, gather}
use Rattle.detector.proofs.Good.{Top, Real, Reach, Kept}
use Rattle.detector.proofs.From.{From}
use Rattle.detector.proofs.Choice.{choose_all, choose_before, choose_reach, gather_reach}

-- none starts nowhere
pub real_none : (X : Instances) (τ : ℕ) → Real X τ none
real_none X τ s e = absurd (omega arith)

-- p is latest, k the kept pairs, ss the possible starts of y before the tick t
module _
    (X : Instances) (t : ℕ) (p : Span) (k : List Span) (ss : List ℕ)
    (top : Top X t p.start) (rp : Real X t p) (kept : Kept X t k ss) (le : (σ : ℕ) → In σ ss → σ ≤ t) where
  -- whatever ends before a start σ that y can have now, latest or a kept pair reaches
  pub chain_reach : (σ s u : ℕ) → From ss t σ → X s u → suc u < σ → Reach (p ∷ k) σ s
  chain_reach σ s u (inl e) x h = absurd (omega arith)
  chain_reach σ s u (inr (inl e)) x h =
      let b = top.bound s u x (omega arith) in
      let c = rp (pred p.start) (omega arith) in
      inl (omega (arith, c.1, c.2), b)
  chain_reach σ s u (inr (inr i)) x h = inr (kept σ i s u x (omega (arith, le σ i)) h)

  -- what is chosen for y's answer b is the latest
  pub chain_latest :
      {Y : Instances} {b : ℕ} → All (Real X t) k → Latest Y t b → From ss t b → Latest (Rule Chain X Y) t (choose (p ∷ k) b).start
  chain_latest {Y} {b} rk l f = record {
    bound = λ s h. choose_reach (p ∷ k) b s (chain_reach b s h.0 f h.2 (omega (arith, l.bound h.1 h.3, h.4)));
    real = of;
  }
    where
      of : (s : ℕ) → (choose (p ∷ k) b).start ≡ suc s → Rule Chain X Y s t
      of s e =
          let c = choose_all (Real X t) (real_none X t) (p ∷ k) b (rp, rk) s e in
          let d = choose_before (p ∷ k) b (omega arith) in
          (c.0, pred b, c.3, l.real (pred b) (omega arith), omega (arith, c.1))

-- pairs that reach all that ends before each of the starts ss still do once the best for each are gathered
pub gather_kept :
    {X : Instances} {τ : ℕ} (old : List Span) (ss : List ℕ) →
    ((σ : ℕ) → In σ ss → (s u : ℕ) → X s u → suc u < σ → Reach old σ s) → Kept X τ (gather old ss) ss
gather_kept old ss f σ i s u x h lt = gather_reach old ss σ s i (choose_reach old σ s (f σ i s u x lt))

-- a pair that ended before t ended before t + 1
pub real_suc : {X : Instances} {t : ℕ} (p : Span) → Real X t p → Real X (suc t) p
real_suc p h s e = let b = h s e in (b.0, b.1, omega (arith, b.2), b.3)
