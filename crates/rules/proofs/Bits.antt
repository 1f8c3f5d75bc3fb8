-- The laws of bits: of |, &, shifts and masks; equality by bits; leading zeros; ones; the test of one bit. Assumes nothing.
use mathlib.Core.Path.{◌≡◌, refl, sym, ap, ◌∙◌, subst}
use mathlib.Core.Logic.{◌↔◌}
use Prim.Native.Nat.{ℕ, zero, suc, ◌+◌, ◌-◌, ◌*◌, ◌/◌, ◌%◌, ◌^◌, ◌≤◌, ◌<◌, min, max}
use native.Mathlib.Nat.{mod-lt, add_comm, add-zero, pow-suc, mul_assoc, div-eq_of_lt, mul-mod_left, lt_of_lt_of_le, one-mul, div-one, div-eq_of_lt-le}
use native.Mathlib.Omega.{arith}
use native.Mathlib.Decide.{dec_lt}
use native.Mathlib.Numerals.{add-one}
use lib.Pow.{pow-add, pow_mono, shr-shr, shr_lt, shl-shr, field, mod-mod-pow, high, ones_split, ones_lt, pow-lt}
use lib.Arith.{digits_mod, lt-one}
use lib.Bits.{bit_and, bit_or, and_shr, or_shr, and_step, or_step, and_mask}
use lib.Dec.{eqb}
use mathlib.Core.Bool.{Bool, true, false}
use borrow.Author.Tests.{eqb-true, eq-eqb}
use lib.Count.{ones, count_leading_zeros, ones_step, leading_top}
use Rattle.rules.proofs.Impossible.{impossible}
use Rattle.rules.specs.Bits.{bit, On, ones_below}

half_lt : {n : ℕ} (k : ℕ) → n < 2 ^ suc k → n / 2 < 2 ^ k
half_lt {n} k h = shr_lt k 1 (subst (λ (x : ℕ). n < 2 ^ x) (sym (add-one k)) h)

pub bit_lt : (n s : ℕ) → bit n s < 2
unfolding bit
bit_lt n s = mod-lt (n / 2 ^ s) (omega arith)

-- ---- | and &

or_odd : (a b : ℕ) → bit_or a b % 2 ≡ max (a % 2) (b % 2)
or_odd a b =
    ap (λ (x : ℕ). x % 2) (or_step a b) ∙ digits_mod (bit_or (a / 2) (b / 2)) (omega arith)

and_odd : (a b : ℕ) → bit_and a b % 2 ≡ min (a % 2) (b % 2)
and_odd a b =
    ap (λ (x : ℕ). x % 2) (and_step a b) ∙ digits_mod (bit_and (a / 2) (b / 2)) (omega arith)

pub bit_of_or : (a b s : ℕ) → bit (bit_or a b) s ≡ max (bit a s) (bit b s)
unfolding bit
bit_of_or a b s = ap (λ (x : ℕ). x % 2) (or_shr a b s) ∙ or_odd (a / 2 ^ s) (b / 2 ^ s)

pub bit_of_and : (a b s : ℕ) → bit (bit_and a b) s ≡ min (bit a s) (bit b s)
unfolding bit
bit_of_and a b s = ap (λ (x : ℕ). x % 2) (and_shr a b s) ∙ and_odd (a / 2 ^ s) (b / 2 ^ s)

-- ---- shifts

pub bit_shr : (n k s : ℕ) → bit (n / 2 ^ k) s ≡ bit n (k + s)
unfolding bit
bit_shr n k s = ap (λ (x : ℕ). x % 2) (shr-shr n k s)

-- below the shift the bits are 0; from it on they are n's
pub bit_shl : (n k s : ℕ) → bit (n * 2 ^ k) (k + s) ≡ bit n s
unfolding bit
bit_shl n k s = ap (λ (x : ℕ). x % 2) (sym (shr-shr (n * 2 ^ k) k s) ∙ ap (λ (x : ℕ). x / 2 ^ s) (shl-shr n k))

-- the bits below k of a number are those of its low part
low_at : (n j s : ℕ) → bit (n % 2 ^ (j + 1 + s)) s ≡ bit n s
unfolding bit
low_at n j s = ap (λ (x : ℕ). x % 2) (field n (j + 1) s) ∙ mod-mod-pow (n / 2 ^ s) j 1

pub bit_low : (n k s : ℕ) → s < k → bit (n % 2 ^ k) s ≡ bit n s
bit_low n k s h =
    let e : k - s - 1 + 1 + s ≡ k = omega arith in
    subst (λ (x : ℕ). bit (n % 2 ^ x) s ≡ bit n s) e (low_at n (k - s - 1) s)

-- a number below 2 ^ k has no bit from k on
pub bit_high : (n k s : ℕ) → n < 2 ^ k → k ≤ s → bit n s ≡ 0
unfolding bit
bit_high n k s h l = ap (λ (x : ℕ). x % 2) (div-eq_of_lt (lt_of_lt_of_le h (pow_mono l)))

pub has_lt : (n k s : ℕ) → n < 2 ^ k → On n s → s < k
has_lt n k s h b = go (dec_lt s k)
  where
    go : Dec (s < k) → s < k
    go (yes l) = l
    go (no l) = absurd (omega (arith, bit_high n k s h (omega arith)))

shl_low_at : (n j s : ℕ) → bit (n * 2 ^ (j + 1 + s)) s ≡ 0
unfolding bit
shl_low_at n j s =
    ap (λ (x : ℕ). x % 2)
    (ap (λ (x : ℕ). n * x / 2 ^ s) (pow-add 2 (j + 1) s) ∙ ap (λ (x : ℕ). x / 2 ^ s) (sym (mul_assoc n (2 ^ (j + 1)) (2 ^ s)))
    ∙ shl-shr (n * 2 ^ (j + 1)) s ∙ ap (λ (x : ℕ). n * x) (pow-add 2 j 1) ∙ sym (mul_assoc n (2 ^ j) 2))
    ∙ mul-mod_left (n * 2 ^ j) 2

pub bit_shl_low : (n k s : ℕ) → s < k → bit (n * 2 ^ k) s ≡ 0
bit_shl_low n k s h =
    let e : k - s - 1 + 1 + s ≡ k = omega arith in
    subst (λ (x : ℕ). bit (n * 2 ^ x) s ≡ 0) e (shl_low_at n (k - s - 1) s)

-- ---- one bit, masks

pub bit_zero : (s : ℕ) → bit 0 s ≡ 0
bit_zero s = bit_high 0 0 s (omega arith) (omega arith)

one_low : bit 1 0 ≡ 1
unfolding bit
one_low = refl

-- 2 ^ t has bit t alone
pub bit_one_same : (t : ℕ) → bit (2 ^ t) t ≡ 1
bit_one_same t = subst (λ (x : ℕ). bit x t ≡ 1) (one-mul (2 ^ t)) (subst (λ (x : ℕ). bit (1 * 2 ^ t) x ≡ 1) (add-zero t) (bit_shl 1 t 0 ∙ one_low))

pub bit_one : (t s : ℕ) → On (2 ^ t) s → s ≡ t
bit_one t s h = go (dec_lt s t)
  where
    go : Dec (s < t) → s ≡ t
    go (yes l) = absurd (omega (arith, subst (λ (x : ℕ). bit x s ≡ 0) (one-mul (2 ^ t)) (bit_shl_low 1 t s l)))
    go (no l) = omega (arith, has_lt (2 ^ t) (suc t) s (pow-lt (omega arith)) h)

-- the k low bits set
mask_at : (j s : ℕ) → bit (2 ^ (j + 1 + s) - 1) s ≡ 1
unfolding bit
mask_at j s =
    ap (λ (x : ℕ). x % 2) (ap (λ (x : ℕ). x / 2 ^ s) (ones_split (j + 1) s) ∙ high (2 ^ (j + 1) - 1) s (ones_lt s) ∙ ones_split j 1)
    ∙ digits_mod (2 ^ j - 1) (omega arith)

pub bit_mask : (k s : ℕ) → s < k → bit (2 ^ k - 1) s ≡ 1
bit_mask k s h =
    let e : k - s - 1 + 1 + s ≡ k = omega arith in
    subst (λ (x : ℕ). bit (2 ^ x - 1) s ≡ 1) e (mask_at (k - s - 1) s)

pub bit_mask_high : (k s : ℕ) → k ≤ s → bit (2 ^ k - 1) s ≡ 0
bit_mask_high k s h = bit_high (2 ^ k - 1) k s (ones_lt k) h

-- ---- a number is its low bit and the rest

pub bit_step : (n s : ℕ) → bit n (s + 1) ≡ bit (n / 2) s
bit_step n s = ap (bit n) (add_comm s 1) ∙ sym (bit_shr n 1 s)

bit_odd : (n : ℕ) → bit n 0 ≡ n % 2
unfolding bit
bit_odd n = ap (λ (x : ℕ). x % 2) (div-one n)

-- two numbers of k bits with the same bits are equal
pub ext : (k a b : ℕ) → a < 2 ^ k → b < 2 ^ k → ((s : ℕ) → s < k → bit a s ≡ bit b s) → a ≡ b
ext zero a b ha hb h = lt-one ha ∙ sym (lt-one hb)
ext (suc k) a b ha hb h =
    let e : a / 2 ≡ b / 2 = ext k (a / 2) (b / 2) (half_lt k ha) (half_lt k hb) (λ s l. sym (bit_step a s) ∙ h (s + 1) (omega arith) ∙ bit_step b s) in
    let o : a % 2 ≡ b % 2 = sym (bit_odd a) ∙ h 0 (omega arith) ∙ bit_odd b in
    omega arith

-- ---- the highest bit, by the leading zeros

top_bit : (n j : ℕ) → 2 ^ j ≤ n → n < 2 ^ suc j → bit n j ≡ 1
unfolding bit
top_bit n j l h =
    let e : 2 ^ suc j ≡ 2 ^ j * 2 = pow-suc 2 j in
    let q : n / 2 ^ j ≡ 1 = div-eq_of_lt-le (2 ^ j) (omega (arith, one-mul (2 ^ j))) (omega arith) in
    ap (λ (x : ℕ). x % 2) q

-- a row that is not 0 has its highest bit at 63 less the leading zeros
pub top : (k n : ℕ) → 0 < n → n < 2 ^ k → (j : ℕ) × (count_leading_zeros k n + j + 1 ≡ k) × On n j × ((t : ℕ) → j < t → On n t → ⊥)
top k n p h =
    let t = leading_top k n p h in
    let e : count_leading_zeros k n + suc t.0 ≡ k = t.1 in
    (t.0, omega arith, top_bit n t.0 t.2 t.3, (λ i l b. omega (arith, has_lt n (suc t.0) i t.3 b)))

-- ---- the count of ones

below_low : (k n : ℕ) → ones_below (suc k) n ≡ n % 2 + ones_below k (n / 2)
unfolding ones_below
below_low zero n = ap (λ (x : ℕ). x + 0) (bit_odd n)
below_low (suc k) n =
    let e : bit n (suc k) ≡ bit (n / 2) k = ap (bit n) (sym (add-one k)) ∙ bit_step n k in
    omega (arith, below_low k n)

-- a number of k bits has as many ones as it has bits set below k
pub ones_are_below : (k n : ℕ) → n < 2 ^ k → ones n ≡ ones_below k n
unfolding ones_below ones
ones_are_below zero n h = ap ones (lt-one h)
ones_are_below (suc k) n h = ones_step n ∙ ap (λ (x : ℕ). n % 2 + x) (ones_are_below k (n / 2) (half_lt k h)) ∙ sym (below_low k n)

-- the same at 64 bits, as the code computes it
pub latest : (n : ℕ) → (n ≡ 0 → ⊥) → n < 2 ^ 64 → (count_leading_zeros 64 n ≤ 63) × On n (63 - count_leading_zeros 64 n) × ((t : ℕ) → 63 - count_leading_zeros 64 n < t → On n t → ⊥)
latest n p h =
    let t = top 64 n (omega arith) h in
    let e : t.0 ≡ 63 - count_leading_zeros 64 n = omega (arith, t.1) in
    (omega (arith, t.1), subst (On n) e t.2, (λ i l b. t.3 i (omega arith) b))

pub none : (n : ℕ) → n ≡ 0 → (s : ℕ) → On n s → ⊥
none n e s h = omega (arith, bit_zero s, ap (λ (x : ℕ). bit x s) e)

-- ---- a test of one bit, as `(n >> k) & 1 == 1`

pub tested : (n k : ℕ) → (eqb (bit_and (n / 2 ^ k) 1) 1 ≡ true) ↔ On n k
unfolding bit
tested n k = ((λ e. sym (and_mask (n / 2 ^ k) 1) ∙ eqb-true _ _ e), (λ h. eq-eqb _ _ (and_mask (n / 2 ^ k) 1 ∙ h)))

pub never : {b : Bool} → b ≡ true → b ≡ false → ⊥
never p q = impossible cc

pub tested_high : (n w k : ℕ) → n < 2 ^ w → w ≤ k → (false ≡ true) ↔ On n k
tested_high n w k h l = ((λ e. absurd (never e refl)), (λ b. absurd (omega (arith, has_lt n w k h b))))
