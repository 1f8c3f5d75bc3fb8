-- Bytes and what they stand for, both ways: letters, signs and digits. Assumes nothing.
use Rattle.std.proofs.Common.{◌≡◌, ℕ, ◌+◌, ◌<◌, refl, Option, Some, None, arith, eq-eqb, ne_eqb}
use Rattle.std.proofs.lemmas.Bool.Decides.{nat_tests}
use Rattle.rules.specs.declared.Op.{Op}
use Rattle.rules.specs.declared.Op.TheVariants.{Either, Both, Without, Chain}
use Rattle.rules.specs.Limits.{letters}
use Rattle.text.specs.Render.{letter_byte, op_byte}
use Rattle.text.specs.Characters.{letter_of, digit_of}
use Rattle.text.specs.declared.reader.Sign.{Sign}
use Rattle.text.specs.declared.reader.Sign.TheVariants.{Operator, Limit}
use Rattle.text.specs.inner.Machine.{sign_of}
use Rattle.decimal.proofs.Branches.{either_is}

pub letter_of_byte : (n : ℕ) → n < letters → letter_of (letter_byte n) ≡ Some n
unfolding letter_of letter_byte
letter_of_byte n h = grind (arith, nat_tests)

pub byte_letter : (c n : ℕ) → letter_of c ≡ Some n → (n < letters) × (letter_byte n ≡ c)
unfolding letter_of letter_byte
byte_letter c n h = grind (arith, nat_tests)

pub sign_byte : (op : Op) → sign_of (op_byte op) ≡ Some (Operator op)
unfolding sign_of
sign_byte Either = refl
sign_byte Both = refl
sign_byte Without = refl
sign_byte Chain = refl

-- what sign_of says of a byte, by cases
pub sign_cases : (C : Option Sign → Type 0) (c : ℕ) → ((op : Op) → c ≡ op_byte op → C (Some (Operator op))) → (c ≡ 64 → C (Some Limit)) → C None → C (sign_of c)
unfolding sign_of
sign_cases C c f g h =
    either_is c 124 (λ e. simp (eq-eqb c 124 e) (f Either e))
    (λ n1. either_is c 43 (λ e. simp (ne_eqb c 124 n1, eq-eqb c 43 e) (f Both e))
    (λ n2. either_is c 45 (λ e. simp (ne_eqb c 124 n1, ne_eqb c 43 n2, eq-eqb c 45 e) (f Without e))
    (λ n3. either_is c 59 (λ e. simp (ne_eqb c 124 n1, ne_eqb c 43 n2, ne_eqb c 45 n3, eq-eqb c 59 e) (f Chain e))
    (λ n4. either_is c 64 (λ e. simp (ne_eqb c 124 n1, ne_eqb c 43 n2, ne_eqb c 45 n3, ne_eqb c 59 n4, eq-eqb c 64 e) (g e))
    (λ n5. simp (ne_eqb c 124 n1, ne_eqb c 43 n2, ne_eqb c 45 n3, ne_eqb c 59 n4, ne_eqb c 64 n5) h)))))

pub digit_byte : (d : ℕ) → d < 10 → digit_of (d + 48) ≡ Some d
unfolding digit_of
digit_byte d h = grind (arith, nat_tests)

pub byte_digit : (c d : ℕ) → digit_of c ≡ Some d → (d < 10) × (d + 48 ≡ c)
unfolding digit_of
byte_digit c d h = grind (arith, nat_tests)
