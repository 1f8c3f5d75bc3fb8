-- Cases of a test or an option, with the fact that each gives. Assumes nothing.
use Rattle.std.specs.Prelude.{Option, Some, None}
use mathlib.Core.Path.{◌≡◌, refl}
use mathlib.Core.Bool.{Bool, true, false}
use Prim.Native.Nat.{ℕ, ◌<◌, ◌≤◌}
use lib.Dec.{ltb, eqb}
use borrow.Author.Tests.{ltb-true, ltb-false, eqb-true, eqb-false}

pub by_test : (C : Bool → Type 0) (b : Bool) → (b ≡ true → C true) → (b ≡ false → C false) → C b
by_test C true f g = f refl
by_test C false f g = g refl

pub either_way : {C : Type 0} (a b : ℕ) → (a < b → C) → (b ≤ a → C) → C
either_way {C} a b f g = by_test (λ t. C) (ltb a b) (λ e. f (ltb-true a b e)) (λ e. g (ltb-false a b e))

pub either_is : {C : Type 0} (a b : ℕ) → (a ≡ b → C) → ((a ≡ b → ⊥) → C) → C
either_is {C} a b f g = by_test (λ t. C) (eqb a b) (λ e. f (eqb-true a b e)) (λ e. g (eqb-false a b e))

pub by_option : {A : Type 0} (C : Option A → Type 0) (o : Option A) → ((x : A) → o ≡ Some x → C (Some x)) → (o ≡ None → C None) → C o
by_option {A} C None f g = g refl
by_option {A} C (Some x) f g = f x refl
