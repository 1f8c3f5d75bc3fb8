-- What stands at the lowest places, the last one first: what a place more and a place less make of it. Assumes nothing.
use Prim.Native.Nat.{ℕ, zero, suc, ◌+◌, ◌-◌, ◌≤◌, ◌<◌}
use mathlib.Core.Path.{◌≡◌, refl, ap, ap₂, ◌∙◌}
use mathlib.Core.List.{List, ◌∷◌}
use native.Mathlib.Numerals.{add-one}
use native.Mathlib.Omega.{arith}
use lib.ListN.{length}
use Rattle.watcher.specs.inner.Step.{stack_by}

module _ {X : Type 0} where
  -- only the places below d count
  pub stack_ext : (f g : ℕ → X) (d : ℕ) → ((k : ℕ) → k < d → f k ≡ g k) → stack_by f d ≡ stack_by g d
  unfolding stack_by
  stack_ext f g zero h = refl
  stack_ext f g (suc d) h = ap₂ (λ (x : X) (l : List X). x ∷ l) (h d (omega arith)) (stack_ext f g d (λ k l. h k (omega arith)))

  pub stack_push : (f : ℕ → X) (d : ℕ) → stack_by f (d + 1) ≡ f d ∷ stack_by f d
  unfolding stack_by
  stack_push f d = rw (add-one d)

  pub stack_pop : (f : ℕ → X) (d : ℕ) → 1 ≤ d → stack_by f d ≡ f (d - 1) ∷ stack_by f (d - 1)
  stack_pop f d h = ap (stack_by f) (omega arith) ∙ stack_push f (d - 1)

  pub length_stack : (f : ℕ → X) (d : ℕ) → length (stack_by f d) ≡ d
  unfolding stack_by
  length_stack f zero = refl
  length_stack f (suc d) = ap suc (length_stack f d)
