-- The cases that speak of rows, from the rules: a record of three words, and the bits of each row. Assumes nothing.
use mathlib.Core.Path.{◌≡◌, refl, sym, subst}
use mathlib.Core.Logic.{◌⊎◌, inl, inr, ⊎_elim}
use mathlib.Core.List.{List, [], ◌∷◌}
use Prim.Native.Nat.{ℕ, zero, suc, ◌<◌}
use native.Mathlib.Omega.{arith}
use lib.ListN.{get_or}
use Rattle.rules.specs.declared.Op.TheVariants.{Both, Chain}
use Rattle.rules.specs.Bits.{bit, On}
use Rattle.rules.specs.Pattern.{pair}
use Rattle.rules.specs.Instances.{Has}
use Rattle.rules.proofs.Bits.{has_lt, bit_zero}
use Rattle.cases.specs.Cases.{A, B, Holds, rows}

-- the ticks of A and of B in the record of three words
abbrev words₁ : List ℕ
words₁ = 1 ∷ 1 ∷ 2 ∷ []

a_first : (t : ℕ) → On (get_or words₁ t 0) 0 → t < 2
unfolding bit
a_first zero h = omega arith
a_first (suc zero) h = omega arith
a_first (suc (suc zero)) h = absurd (omega arith)
a_first (suc (suc (suc t))) h = absurd (omega arith)

b_first : (t : ℕ) → On (get_or words₁ t 0) 1 → t ≡ 2
unfolding bit
b_first zero h = absurd (omega arith)
b_first (suc zero) h = absurd (omega arith)
b_first (suc (suc zero)) h = refl
b_first (suc (suc (suc t))) h = absurd (omega arith)

-- the starts of the last row: 0 and 1
three : (s : ℕ) → On 3 s → s < 2
three s h = has_lt 3 2 s (omega arith) h

pub chain_rows : Holds (rows (pair Chain A B) words₁ (0 ∷ 0 ∷ 3 ∷ []))
chain_rows zero h s = ((λ o. absurd (omega (arith, bit_zero s))), (λ x. absurd (omega (arith, b_first 0 x.3.1))))
chain_rows (suc zero) h s = ((λ o. absurd (omega (arith, bit_zero s))), (λ x. absurd (omega (arith, b_first 1 x.3.1))))
chain_rows (suc (suc zero)) h s = (to s, λ x. back s (omega (arith, x.2.0, a_first x.0 x.2.1)))
  where
    to : (s : ℕ) → On 3 s → Has (λ u. get_or words₁ u 0) (pair Chain A B) s 2
    to zero o = (0, 2, (refl, unfold bit in refl), (refl, unfold bit in refl), omega arith)
    to (suc zero) o = (1, 2, (refl, unfold bit in refl), (refl, unfold bit in refl), omega arith)
    to (suc (suc s)) o = absurd (omega (arith, three (suc (suc s)) o))

    back : (s : ℕ) → s < 2 → On 3 s
    back zero l = unfold bit in refl
    back (suc zero) l = unfold bit in refl
    back (suc (suc s)) l = absurd (omega arith)
chain_rows (suc (suc (suc t))) h s = absurd (omega arith)

abbrev words₂ : List ℕ
words₂ = 1 ∷ 2 ∷ 1 ∷ []

a_second : (t : ℕ) → On (get_or words₂ t 0) 0 → (t ≡ 0) ⊎ (t ≡ 2)
unfolding bit
a_second zero h = inl refl
a_second (suc zero) h = absurd (omega arith)
a_second (suc (suc zero)) h = inr refl
a_second (suc (suc (suc t))) h = absurd (omega arith)

b_second : (t : ℕ) → On (get_or words₂ t 0) 1 → t ≡ 1
unfolding bit
b_second zero h = absurd (omega arith)
b_second (suc zero) h = refl
b_second (suc (suc zero)) h = absurd (omega arith)
b_second (suc (suc (suc t))) h = absurd (omega arith)

-- an instance of `(A+B)` is (0,1) or (1,2)
both_one : (s t : ℕ) → Has (λ u. get_or words₂ u 0) (pair Both A B) s t → ((s ≡ 0) × (t ≡ 1)) ⊎ ((s ≡ 1) × (t ≡ 2))
both_one s t (s₁, t₁, s₂, t₂, x, y, es, et) = go (a_second t₁ x.1) (b_second t₂ y.1)
  where
    go : (t₁ ≡ 0) ⊎ (t₁ ≡ 2) → t₂ ≡ 1 → ((s ≡ 0) × (t ≡ 1)) ⊎ ((s ≡ 1) × (t ≡ 2))
    go (inl p) q = inl (omega (arith, x.0, y.0), omega arith)
    go (inr p) q = inr (omega (arith, x.0, y.0), omega arith)

-- the bits of 1 and of 2
on_one : (s : ℕ) → On 1 s → s ≡ 0
on_one s h = omega (arith, has_lt 1 1 s (omega arith) h)

one_low : On 1 0
unfolding bit
one_low = refl

two_low : On 2 1
unfolding bit
two_low = refl

on_two : (s : ℕ) → On 2 s → s ≡ 1
unfolding bit
on_two zero h = absurd (omega arith)
on_two (suc s) h = omega (arith, has_lt 2 2 (suc s) (omega arith) h)

pub both_rows : Holds (rows (pair Both A B) words₂ (0 ∷ 1 ∷ 2 ∷ []))
both_rows zero h s = (
  (λ o. absurd (omega (arith, bit_zero s))),
  (λ x. ⊎_elim (λ p. absurd (omega (arith, p.1))) (λ p. absurd (omega (arith, p.1))) (both_one s 0 x)),
)
both_rows (suc zero) h s = (
  (λ o. (0, 0, 1, 1, (refl, unfold bit in refl), (refl, unfold bit in refl), omega (arith, on_one s o), omega arith)),
  (λ x. ⊎_elim (λ p. subst (On 1) (sym p.0) one_low) (λ p. absurd (omega (arith, p.1))) (both_one s 1 x)),
)
both_rows (suc (suc zero)) h s = (
  (λ o. (2, 2, 1, 1, (refl, unfold bit in refl), (refl, unfold bit in refl), omega (arith, on_two s o), omega arith)),
  (λ x. ⊎_elim (λ p. absurd (omega (arith, p.1))) (λ p. subst (On 2) (sym p.0) two_low) (both_one s 2 x)),
)
both_rows (suc (suc (suc t))) h s = absurd (omega arith)
