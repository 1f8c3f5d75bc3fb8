-- What a choice comes to once its fact is known, and what a test says that passed. Assumes nothing.
use mathlib.Core.Path.{◌≡◌, refl}
use mathlib.Core.Bool.{Bool, true, false, cond}
use Rattle.rules.specs.Decisions.{pick}
use Rattle.rules.proofs.Impossible.{impossible}

pub pick_yes : {A P : Type 0} (d : Dec P) (a b : A) → P → pick d a b ≡ a
pick_yes (yes h) a b p = refl
pick_yes (no h) a b p = absurd (h p)

pub pick_no : {A P : Type 0} (d : Dec P) (a b : A) → (P → ⊥) → pick d a b ≡ b
pick_no (yes h) a b n = absurd (n h)
pick_no (no h) a b n = refl

-- no test is both true and false
pub true_or_false : (t : Bool) → t ≡ true → t ≡ false → ⊥
true_or_false t p q = impossible cc

-- two tests passed, one after the other
pub both_true : (t u : Bool) → cond t u false ≡ true → (t ≡ true) × (u ≡ true)
both_true true u p = (refl, p)
both_true false u p = impossible cc
