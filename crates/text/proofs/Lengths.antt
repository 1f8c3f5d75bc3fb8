-- How long a pattern's text can be. Assumes nothing.
use Rattle.std.proofs.Common.{◌+◌, ◌-◌, ◌*◌, ◌≤◌, length, arith, length-append}
use Rattle.rules.specs.Limits.{most_entries}
use Rattle.rules.specs.Pattern.{Pattern, event, pair, within, size, Proper}
use Rattle.decimal.proofs.Decimals.{decimal_length}
use Rattle.text.specs.Render.{numbers, most_digits, most_printed, render}

-- a letter is one byte, and every further entry adds at most three and the digits of a number
render_length : (e : Pattern) → Proper numbers e → length (render e) + (most_digits + 2) ≤ size e * (most_digits + 3)
unfolding size
render_length (event n) p = omega arith
render_length (pair op x y) p = simp length-append (omega (arith, render_length x p.0, render_length y p.1))
render_length (within x n) p = simp length-append (omega (arith, render_length x p.0, decimal_length (most_digits - 1) n (omega (arith, p.1))))

pub printed_at_most : (e : Pattern) → Proper numbers e → size e ≤ most_entries → length (render e) ≤ most_printed
printed_at_most e p h = omega (arith, render_length e p)
