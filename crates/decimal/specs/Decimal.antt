-- Numbers in decimal. Assumes nothing: these are definitions.
use Rattle.std.specs.Prelude.{ℕ, zero, suc, ◌+◌, ◌/◌, ◌%◌, cond, List, [], ◌∷◌, ◌++◌, ltb}

-- a number of at most `most` digits, with no leading zero except for 0 itself; 48 is `0`
unfoldable pub digits_in : ℕ → ℕ → List ℕ
digits_in zero n = []
digits_in (suc most) n = cond (ltb n 10) ((n + 48) ∷ []) (digits_in most (n / 10) ++ ((n % 10 + 48) ∷ []))

-- a number of any size: n has at most n + 1 digits
unfoldable pub decimal : ℕ → List ℕ
decimal n = digits_in (suc n) n
