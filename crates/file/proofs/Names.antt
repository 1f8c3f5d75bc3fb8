-- Names: what std says of `<` and of a test of each byte is their byte order and their padding, and a turn of the loop over a name. Assumes nothing.
use Rattle.std.specs.Prelude.{IsTrue, EachIndex, slice_index, Some}
use Rattle.std.specs.Cmp.Lexicographic.{slice_partial_cmp}
use Rattle.std.specs.Ordering.{is_lt, is_some_and, nat_cmp}
use Rattle.std.proofs.lemmas.Bool.Decides.{nat_tests}
use Rattle.std.proofs.lemmas.Cmp.{same_from_slice_cmp_tested}
use Prim.Native.Nat.{ℕ, zero, suc, ◌+◌, ◌≤◌, ◌<◌}
use mathlib.Core.Path.{◌≡◌, refl}
use mathlib.Core.Logic.{◌↔◌}
use mathlib.Core.Bool.{Bool, true, false, cond}
use mathlib.Core.List.{List, [], ◌∷◌}
use native.Mathlib.Numerals.{add-one}
use native.Mathlib.Omega.{arith}
use lib.Dec.{eqb}
use lib.ListN.{length, get_or, drop, drop_of_length-le}
use lib.Seq.{drop-cons}
use borrow.Author.Tests.{eqb-true, eqb-false}
use Rattle.file.specs.Contents.{name_byte, spaces, padded, named, below}

-- byte order is what `<` says of two slices
pub below_tested : (l m : List ℕ) (r : Bool) → r ≡ is_some_and is_lt (slice_partial_cmp (λ x y. Some (nat_cmp x y)) l m) → r ≡ below l m
unfolding below
below_tested =
    same_from_slice_cmp_tested nat_cmp is_lt below refl (λ _ _. refl) (λ _ _. refl) (λ x y xs ys o h. grind (arith, nat_tests))

not_true : (r : Bool) → (r ≡ true → ⊥) → r ≡ false
not_true true h = absurd (h refl)
not_true false h = refl

-- a test that each byte is a space is the test of padding
pub spaces_each : (l : List ℕ) (r : Bool) → IsTrue r ↔ EachIndex l (λ k. slice_index l k ≡ 32) → r ≡ spaces l
unfolding spaces
spaces_each [] r h = h.1 (λ k j. absurd (omega arith))
spaces_each (c ∷ l) r h = go (eqb c 32) refl (spaces_each l r)
  where
    each : c ≡ 32 → EachIndex l (λ k. slice_index l k ≡ 32) → EachIndex (c ∷ l) (λ k. slice_index (c ∷ l) k ≡ 32)
    each e f zero j = e
    each e f (suc k) j = f k (omega arith)

    go : (t : Bool) → eqb c 32 ≡ t → (IsTrue r ↔ EachIndex l (λ k. slice_index l k ≡ 32) → r ≡ spaces l) → r ≡ cond t (spaces l) false
    go true p later = later (λ q k j. h.0 q (suc k) (omega arith), λ f. h.1 (each (eqb-true c 32 p) f))
    go false p later = not_true r (λ q. eqb-false c 32 p (h.0 q 0 (omega arith)))

pub named_none : (l : List ℕ) → length l ≡ 0 → false ≡ named l
unfolding named
named_none [] h = refl
named_none (c ∷ l) h = absurd (omega arith)

pub named_first : (l : List ℕ) → 0 < length l → named l ≡ cond (name_byte (get_or l 0 0)) (padded (drop 1 l)) false
unfolding named
named_first [] h = absurd (omega arith)
named_first (c ∷ l) h = refl

pub padded_turn : (l : List ℕ) (i : ℕ) → i < length l → padded (drop i l) ≡ cond (name_byte (get_or l i 0)) (padded (drop (i + 1) l)) (spaces (drop i l))
unfolding padded spaces
padded_turn l i h = rw (drop-cons l i 0 h, add-one i)

pub padded_end : (l : List ℕ) (i : ℕ) → length l ≤ i → padded (drop i l) ≡ true
unfolding padded
padded_end l i h = rw (drop_of_length-le l h)
