-- Bits of a word. Assumes nothing: these are definitions.
use Rattle.std.specs.Prelude.{◌≡◌, ℕ, zero, suc, ◌+◌, ◌/◌, ◌%◌, ◌^◌}

-- bit n of a word, 0 or 1
unfoldable pub bit : ℕ → ℕ → ℕ
bit word n = word / 2 ^ n % 2

-- bit n of a word is set
abbrev pub On : ℕ → ℕ → Type 0
On word n = bit word n ≡ 1

-- how many of its bits below k are set
unfoldable pub ones_below : ℕ → ℕ → ℕ
ones_below zero word = 0
ones_below (suc k) word = bit word k + ones_below k word
