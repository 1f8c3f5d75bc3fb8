-- The number at the front of a line, both ways: what is written is read, and what is read was written. Assumes nothing.
use mathlib.Core.Path.{◌≡◌, refl, sym, ap, ◌∙◌}
use Prim.Native.Nat.{ℕ, zero, suc, ◌+◌, ◌*◌, ◌/◌, ◌%◌, ◌<◌}
use native.Mathlib.Omega.{arith}
use mathlib.Core.List.{List, [], ◌∷◌, ◌++◌}
use lib.Seq.{append_snoc}
use borrow.Author.Tests.{lt-ltb, le-ltb, ne_eqb}
use Rattle.decimal.specs.Decimal.{digits_in}
use Rattle.text.specs.Characters.{digit_of}
use Rattle.decimal.proofs.Branches.{either_way, either_is, by_option}
use Rattle.std.specs.Prelude.{Some, None}
use Rattle.std.proofs.lemmas.Option.{none-some, same_Some}
use Rattle.text.proofs.Bytes.{digit_byte, byte_digit}
use Rattle.decimal.specs.Decimal.{decimal}
use Rattle.line.specs.inner.Scan.{front_of, grow}
use Rattle.decimal.proofs.Decimals.{decimal_one, decimal_next}

module _ (c : ℕ) (s : List ℕ) where
  pub grow_digit : (v d : ℕ) → digit_of c ≡ Some d → grow v (c ∷ s) ≡ grow (v * 10 + d) s
  unfolding grow
  grow_digit v d q = simp q

  pub grow_other : (v : ℕ) → digit_of c ≡ None → grow v (c ∷ s) ≡ (v, c ∷ s)
  unfolding grow
  grow_other v q = simp q

  pub front_other : digit_of c ≡ None → front_of (c ∷ s) ≡ None
  unfolding front_of
  front_other q = simp q

  pub front_zero : digit_of c ≡ Some 0 → front_of (c ∷ s) ≡ Some (0, s)
  unfolding front_of
  front_zero q = simp q

  pub front_grow : (d : ℕ) → digit_of c ≡ Some d → 0 < d → front_of (c ∷ s) ≡ Some (grow d s)
  unfolding front_of
  front_grow d q p = simp (q, ne_eqb d 0 (λ e. omega arith))

grow_byte : (v d : ℕ) (s : List ℕ) → d < 10 → grow v ((d + 48) ∷ s) ≡ grow (v * 10 + d) s
grow_byte v d s h = grow_digit (d + 48) s v d (digit_byte d h)

-- the digits of a number are read to it
front_digits : (k n : ℕ) (s : List ℕ) → 0 < n → n < k → front_of (digits_in k n ++ s) ≡ Some (grow n s)
unfolding digits_in
front_digits zero n s p h = absurd (omega arith)
front_digits (suc k) n s p h =
    either_way n 10
    (λ l. simp (lt-ltb n 10 l) (front_grow (n + 48) s n (digit_byte n l) p))
    (λ l. simp (le-ltb n 10 l)
    (ap front_of (append_snoc (digits_in k (n / 10)) (n % 10 + 48) s)
    ∙ front_digits k (n / 10) ((n % 10 + 48) ∷ s) (omega arith) (omega arith)
    ∙ ap Some (grow_byte (n / 10) (n % 10) s (omega arith))
    ∙ ap (λ (v : ℕ). Some (grow v s)) (omega arith)))

grow_space : (v : ℕ) (s : List ℕ) → grow v (32 ∷ s) ≡ (v, 32 ∷ s)
unfolding grow digit_of
grow_space v s = refl

-- a number and a space
pub front_decimal : (t : ℕ) (s : List ℕ) → front_of (decimal t ++ (32 ∷ s)) ≡ Some (t, 32 ∷ s)
unfolding decimal digits_in front_of digit_of
front_decimal zero s = refl
front_decimal (suc t) s = front_digits (suc (suc t)) (suc t) (32 ∷ s) (omega arith) (omega arith) ∙ ap Some (grow_space (suc t) s)

-- what was read is the number's digits
same_parts : {v n : ℕ} {s r : List ℕ} → ◌≡◌ {A = ℕ × List ℕ} (v, s) (n, r) → decimal v ++ s ≡ decimal n ++ r
same_parts e = ap (λ (p : ℕ × List ℕ). decimal p.0 ++ p.1) e

grow_sound : (v : ℕ) (s : List ℕ) (n : ℕ) (r : List ℕ) → 0 < v → grow v s ≡ (n, r) → decimal v ++ s ≡ decimal n ++ r
unfolding grow
grow_sound v [] n r p e = same_parts e
grow_sound v (c ∷ s) n r p e =
    by_option (λ o. decimal v ++ (c ∷ s) ≡ decimal n ++ r) (digit_of c)
    (λ d q. let h = byte_digit c d q in
    sym (append_snoc (decimal v) c s)
    ∙ ap (λ (x : ℕ). (decimal v ++ (x ∷ [])) ++ s) (sym h.1)
    ∙ ap (λ (w : List ℕ). w ++ s) (sym (decimal_next v d p h.0))
    ∙ grow_sound (v * 10 + d) s n r (omega arith) (sym (grow_digit c s v d q) ∙ e))
    (λ q. same_parts (sym (grow_other c s v q) ∙ e))

pub front_sound : (s : List ℕ) (n : ℕ) (r : List ℕ) → front_of s ≡ Some (n, r) → s ≡ decimal n ++ r
unfolding front_of
front_sound [] n r e = absurd (none-some _ e)
front_sound (c ∷ s) n r e =
    by_option (λ o. c ∷ s ≡ decimal n ++ r) (digit_of c)
    (λ d q. sym (first d (byte_digit c d q))
    ∙ either_is d 0
    (λ z. ap (λ (x : ℕ). decimal x ++ s) z ∙ same_parts (same_Some _ _ (sym (front_zero c s (q ∙ ap Some z)) ∙ e)))
    (λ z. grow_sound d s n r (omega arith) (same_Some _ _ (sym (front_grow c s d q (omega arith)) ∙ e))))
    (λ q. absurd (none-some _ (sym (front_other c s q) ∙ e)))
  where
    first : (d : ℕ) → (d < 10) × (d + 48 ≡ c) → decimal d ++ s ≡ c ∷ s
    first d h = ap (λ (w : List ℕ). w ++ s) (decimal_one d h.0) ∙ ap (λ (x : ℕ). x ∷ s) h.1
