-- Bytes written before others: one part and another before it, and the last digit of a number and the others before it; and how many
-- are written. Assumes nothing.
use mathlib.Core.Path.{◌≡◌, sym, ap, ◌∙◌}
use Prim.Native.Nat.{ℕ, ◌+◌, min, ◌/◌, ◌%◌, ◌<◌, ◌≤◌}
use native.Mathlib.Omega.{arith}
use mathlib.Core.List.{List, [], ◌∷◌, ◌++◌, append_assoc}
use lib.ListN.{length, length-append}
use Rattle.decimal.specs.Decimal.{decimal}
use Rattle.decimal.specs.Before.{Before}
use Rattle.decimal.proofs.Decimals.{decimal_one, decimal_last}

module _ (n : ℕ) (a b c : List ℕ) where
  pub before_it : (vs ws : List ℕ) → Before n a b ws → Before n b c vs → Before n a c (vs ++ ws)
  before_it vs ws p q r =
      let both = length-append vs ws in
      let first : b ≡ ws ++ a = p (omega arith) in
      let count = ap length first ∙ length-append ws a in
      q (omega (arith, count)) ∙ ap (λ (w : List ℕ). vs ++ w) first ∙ sym (append_assoc vs ws a)

  pub last_digit : (k : ℕ) → 9 < k → Before n a b ((k % 10 + 48) ∷ []) → Before n b c (decimal (k / 10)) → Before n a c (decimal k)
  last_digit k h p q = rw (decimal_last k (omega arith)) (before_it _ _ p q)

pub one_digit : (n : ℕ) (a b : List ℕ) (k : ℕ) → k ≤ 9 → Before n a b ((k + 48) ∷ []) → Before n a b (decimal k)
one_digit n a b k h p = rw (decimal_one k (omega arith)) p

-- how many bytes are written, of which there are at most n
pub count_last : (n a b k : ℕ) → 9 < k → b ≡ min n (a + 1) → min n (b + length (decimal (k / 10))) ≡ min n (a + length (decimal k))
count_last n a b k h p = rw (decimal_last k (omega arith)) (simp length-append (omega (arith, p)))

pub count_one : (n a b k : ℕ) → k ≤ 9 → b ≡ min n (a + 1) → b ≡ min n (a + length (decimal k))
count_one n a b k h p = rw (decimal_one k (omega arith)) p
