-- The text of a pattern (docs/RULES.md, "Pattern text"). Assumes nothing: these are definitions.
use Rattle.std.specs.Prelude.{ℕ, ◌+◌, ◌^◌, cond, List, [], ◌∷◌, ◌++◌, nat_lt}
use Rattle.rules.specs.declared.Op.{Op}
use Rattle.rules.specs.declared.Op.TheVariants.{Either, Both, Without, Chain}
use Rattle.rules.specs.Limits.{argument_bytes}
use Rattle.rules.specs.Pattern.{Pattern, event, pair, within}
use Rattle.decimal.specs.Decimal.{decimal}

-- the numbers of restrictions: 0 to 4,294,967,295
abbrev pub numbers : ℕ
numbers = 256 ^ argument_bytes

-- the digits that such a number can have
abbrev pub most_digits : ℕ
most_digits = 10

-- the bytes that the text of a valid body can have
abbrev pub most_printed : ℕ
most_printed = 807

-- an event type is written `A`..`Z`, then `a`..`f`
unfoldable pub letter_byte : ℕ → ℕ
letter_byte n = cond (nat_lt n 26) (n + 65) (n + 71)

-- an operator is written `|`, `+`, `-` or `;`
abbrev pub op_byte : Op → ℕ
op_byte Either = 124
op_byte Both = 43
op_byte Without = 45
op_byte Chain = 59

-- a letter, or `(` expression tail `)`; a tail is an operator and an expression, or `@` and a number; 40 is `(`, 41 is `)`, 64 is `@`
abbrev pub render : Pattern → List ℕ
render (event n) = letter_byte n ∷ []
render (pair op x y) = 40 ∷ render x ++ (op_byte op ∷ render y ++ (41 ∷ []))
render (within x n) = 40 ∷ render x ++ (64 ∷ decimal n ++ (41 ∷ []))
