-- Which letter or digit a byte is (docs/RULES.md, "Pattern text"). Assumes nothing: these are definitions.
use Rattle.std.specs.Prelude.{ℕ, ◌-◌, cond, Option, Some, None}
use Rattle.std.specs.Int.{is_in_range}

-- the event type of a letter: 0 to 25 for `A` to `Z`, and 26 to 31 for `a` to `f`
unfoldable pub letter_of : ℕ → Option ℕ
letter_of c = cond (is_in_range 65 90 c) (Some (c - 65)) (cond (is_in_range 97 102 c) (Some (c - 71)) None)

-- the value of a digit
unfoldable pub digit_of : ℕ → Option ℕ
digit_of c = cond (is_in_range 48 57 c) (Some (c - 48)) None
