-- Numbers in decimal: a digit, the last digit after those of the tenth, and how many digits there are. Assumes nothing.
use mathlib.Core.Path.{◌≡◌, sym, ap, ap₂, ◌∙◌}
use Prim.Native.Nat.{ℕ, zero, suc, ◌+◌, ◌*◌, ◌/◌, ◌%◌, ◌<◌, ◌≤◌}
use native.Mathlib.Omega.{arith}
use mathlib.Core.List.{List, [], ◌∷◌, ◌++◌}
use lib.ListN.{length, length-append}
use borrow.Author.Tests.{lt-ltb, le-ltb}
use Rattle.decimal.specs.Decimal.{digits_in, decimal}
use Rattle.decimal.proofs.Branches.{either_way}

-- 10 ^ k
abbrev pub tens : ℕ → ℕ
tens zero = 1
tens (suc k) = tens k * 10

digits_one : (k n : ℕ) → n < 10 → digits_in (suc k) n ≡ (n + 48) ∷ []
unfolding digits_in
digits_one k n h = simp (lt-ltb n 10 h)

digits_last : (k n : ℕ) → 10 ≤ n → digits_in (suc k) n ≡ digits_in k (n / 10) ++ ((n % 10 + 48) ∷ [])
unfolding digits_in
digits_last k n h = simp (le-ltb n 10 h)

-- more room for digits than the number itself changes nothing
digits_room : (j k n : ℕ) → n < j → n < k → digits_in j n ≡ digits_in k n
digits_room zero k n h g = absurd (omega arith)
digits_room (suc j) zero n h g = absurd (omega arith)
digits_room (suc j) (suc k) n h g =
    either_way n 10 (λ l. digits_one j n l ∙ sym (digits_one k n l))
    (λ l. digits_last j n l
    ∙ ap (λ (w : List ℕ). w ++ ((n % 10 + 48) ∷ [])) (digits_room j k (n / 10) (omega arith) (omega arith))
    ∙ sym (digits_last k n l))

pub decimal_one : (n : ℕ) → n < 10 → decimal n ≡ (n + 48) ∷ []
unfolding decimal
decimal_one n h = digits_one n n h

-- the last digit, after those of the tenth
pub decimal_last : (n : ℕ) → 10 ≤ n → decimal n ≡ decimal (n / 10) ++ ((n % 10 + 48) ∷ [])
unfolding decimal
decimal_last n l =
    digits_last n n l ∙ ap (λ (w : List ℕ). w ++ ((n % 10 + 48) ∷ [])) (digits_room n (suc (n / 10)) (n / 10) (omega arith) (omega arith))

-- a number below 10 ^ k needs room for k digits only
pub decimal_digits : (k n : ℕ) → n < tens (suc k) → decimal n ≡ digits_in (suc k) n
decimal_digits zero n h = decimal_one n (omega arith) ∙ sym (digits_one zero n (omega arith))
decimal_digits (suc k) n h =
    either_way n 10 (λ l. decimal_one n l ∙ sym (digits_one (suc k) n l))
    (λ l. decimal_last n l
    ∙ ap (λ (w : List ℕ). w ++ ((n % 10 + 48) ∷ [])) (decimal_digits k (n / 10) (omega arith))
    ∙ sym (digits_last (suc k) n l))

pub decimal_next : (v d : ℕ) → 0 < v → d < 10 → decimal (v * 10 + d) ≡ decimal v ++ ((d + 48) ∷ [])
decimal_next v d p h =
    decimal_last (v * 10 + d) (omega arith) ∙ ap₂ (λ (a b : ℕ). decimal a ++ ((b + 48) ∷ [])) (omega arith) (omega arith)

-- a number below 10 ^ k has at most k digits
pub decimal_length : (k n : ℕ) → n < tens (suc k) → length (decimal n) ≤ suc k
decimal_length zero n h = rw (decimal_one n (omega arith)) (omega arith)
decimal_length (suc k) n h =
    either_way n 10 (λ l. rw (decimal_one n l) (omega arith))
    (λ l. rw (decimal_last n l) (simp length-append (omega (arith, decimal_length k (n / 10) (omega arith)))))
