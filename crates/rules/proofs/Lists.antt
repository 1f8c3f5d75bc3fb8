-- Laws on membership, on what holds of all of a list, and on the rest of a list from a place on. Assumes nothing.
use mathlib.Core.Path.{◌≡◌}
use mathlib.Core.Logic.{inl, inr}
use mathlib.Core.List.{List, [], ◌∷◌, ◌++◌}
use Prim.Native.Nat.{ℕ, ◌+◌, ◌-◌, ◌<◌}
use native.Mathlib.Numerals.{add-one}
use native.Mathlib.Omega.{arith}
use lib.ListN.{length, take, drop, get_or, length-drop}
use lib.Seq.{drop-cons, take_all}
use Rattle.rules.specs.Lists.{In, All}

pub in_left : (a : ℕ) (l k : List ℕ) → In a l → In a (l ++ k)
in_left a [] k h = absurd h
in_left a (x ∷ l) k (inl e) = inl e
in_left a (x ∷ l) k (inr h) = inr (in_left a l k h)

pub in_right : (a : ℕ) (l k : List ℕ) → In a k → In a (l ++ k)
in_right a [] k h = h
in_right a (x ∷ l) k h = inr (in_right a l k h)

pub in_cases : {C : Type 0} (a : ℕ) (l k : List ℕ) → (In a l → C) → (In a k → C) → In a (l ++ k) → C
in_cases a [] k f g h = g h
in_cases a (x ∷ l) k f g (inl e) = f (inl e)
in_cases a (x ∷ l) k f g (inr h) = in_cases a l k (λ i. f (inr i)) g h

pub in_one : {C : Type 0} (a b : ℕ) → (a ≡ b → C) → In a (b ∷ []) → C
in_one a b f (inl e) = f e
in_one a b f (inr h) = absurd h

pub in_two : {C : Type 0} (a b c : ℕ) → (a ≡ b → C) → (a ≡ c → C) → In a (b ∷ c ∷ []) → C
in_two a b c f g (inl e) = f e
in_two a b c f g (inr h) = in_one a c g h

pub all_map {ℓ} : {A : Type ℓ} {P Q : A → Type 0} (l : List A) → ((a : A) → P a → Q a) → All P l → All Q l
all_map [] f h = tt
all_map (x ∷ l) f h = (f x h.0, all_map l f h.1)

-- the rest of a list from a place on: the element there, and the rest after it
pub drop_at : (l : List ℕ) (i : ℕ) → i < length l → drop i l ≡ get_or l i 0 ∷ drop (i + 1) l
drop_at l i h = rw (add-one i) (drop-cons l i 0 h)

-- a slice lent from a place to its end
pub drop_part : (l : List ℕ) (i : ℕ) → take (length l - i) (drop i l) ≡ drop i l
drop_part l i = take_all (length l - i) (drop i l) (omega (arith, length-drop i l))
