-- A tick's line has no line feed in it; so a line feed after it ends it. Assumes nothing.
use Prim.Native.Nat.{ℕ, zero, suc, ◌+◌, ◌-◌, ◌/◌, ◌%◌, ◌<◌, ◌≤◌}
use mathlib.Core.Path.{◌≡◌, refl, ap, ◌∙◌}
use mathlib.Core.Bool.{Bool, true, false, cond}
use mathlib.Core.List.{List, [], ◌∷◌, ◌++◌}
use native.Mathlib.Omega.{arith}
use lib.Dec.{ltb, eqb}
use lib.ListN.{length, get_or, take, drop, length-drop}
use lib.Seq.{split_at, get_or-drop, length-take-le}
use borrow.Author.Tests.{ne_eqb, eqb-true}
use Rattle.rules.specs.Bits.{bit}
use Rattle.decimal.specs.Decimal.{digits_in, decimal}
use Rattle.text.specs.Render.{letter_byte}
use Rattle.line.specs.Lines.{letter_if, letters_from, letters_of}
use Rattle.line.specs.Answer.{IsTick}
use Rattle.watching.specs.inner.Progress.{line_length}

-- no byte is a line feed
abbrev Feedless : List ℕ → Type 0
Feedless [] = Unit {0}
Feedless (c ∷ s) = (c ≡ 10 → ⊥) × Feedless s

feedless_append : (a b : List ℕ) → Feedless a → Feedless b → Feedless (a ++ b)
feedless_append [] b f g = g
feedless_append (c ∷ a) b f g = (f.0, feedless_append a b f.1 g)

feedless_if : (b : Bool) (a c : List ℕ) → Feedless a → Feedless c → Feedless (cond b a c)
feedless_if true a c f g = f
feedless_if false a c f g = g

feedless_digits : (most n : ℕ) → Feedless (digits_in most n)
unfolding digits_in
feedless_digits zero n = tt
feedless_digits (suc most) n =
    feedless_if (ltb n 10) ((n + 48) ∷ []) (digits_in most (n / 10) ++ ((n % 10 + 48) ∷ [])) (λ e. omega arith, tt)
    (feedless_append (digits_in most (n / 10)) ((n % 10 + 48) ∷ []) (feedless_digits most (n / 10)) (λ e. omega arith, tt))

feedless_letter : (n : ℕ) → Feedless (letter_byte n ∷ [])
unfolding letter_byte
feedless_letter n = go (ltb n 26)
  where
    go : (b : Bool) → Feedless (cond b (n + 65) (n + 71) ∷ [])
    go true = (λ e. omega arith, tt)
    go false = (λ e. omega arith, tt)

feedless_letters : (types n w : ℕ) → Feedless (letters_from types n w)
unfolding letters_from
feedless_letters zero n w = tt
feedless_letters (suc types) n w =
    feedless_append (letter_if w n) (letters_from types (n + 1) w)
    (feedless_if (eqb (bit w n) 1) (letter_byte n ∷ []) [] (feedless_letter n) tt) (feedless_letters types (n + 1) w)

feedless_decimal : (t : ℕ) → Feedless (decimal t)
unfolding decimal
feedless_decimal t = feedless_digits (suc t) t

feedless_tick : {s : List ℕ} {t w : ℕ} → IsTick s t w → Feedless s
feedless_tick {s} {t} {w} i =
    rw i.line.same (feedless_append (decimal t) (32 ∷ letters_of w) (feedless_decimal t) (λ e. omega arith, feedless_letters 32 0 w))

-- a line feed after such bytes is the first
feed_first : (s l : List ℕ) → Feedless s → line_length (s ++ (10 ∷ l)) ≡ length s
unfolding line_length
feed_first [] l f = refl
feed_first (c ∷ s) l f = simp (ne_eqb c 10 f.0) (ap suc (feed_first s l f.1))

-- so it ends the line
pub tick_ends : (input : List ℕ) (from end : ℕ) {t w : ℕ} → from ≤ end → end < length input → get_or input end 0 ≡ 10
    → IsTick (take (end - from) (drop from input)) t w → end ≡ from + line_length (drop from input)
tick_ends input from end f h e i =
    let k : end - from < length (drop from input) = omega (arith, length-drop from input) in
    let at : from + (end - from) ≡ end = omega arith in
    let here : get_or (drop from input) (end - from) 0 ≡ 10 = get_or-drop from input (end - from) 0 ∙ rw at e in
    let whole = split_at (drop from input) (end - from) 0 k in
    let first : line_length (drop from input) ≡ end - from =
    ap line_length (whole ∙ rw here) ∙ feed_first (take (end - from) (drop from input)) (drop (suc (end - from)) (drop from input)) (feedless_tick i)
    ∙ length-take-le (end - from) (drop from input) (omega arith) in
    omega (arith, first)

-- where the length of a line says so there is a line feed
pub feed_there : (l : List ℕ) → line_length l < length l → get_or l (line_length l) 0 ≡ 10
unfolding line_length
feed_there [] h = absurd (omega arith)
feed_there (c ∷ l) h = go (eqb c 10) refl h (feed_there l)
  where
    go : (b : Bool) → eqb c 10 ≡ b → cond b 0 (suc (line_length l)) < suc (length l)
        → (line_length l < length l → get_or l (line_length l) 0 ≡ 10) → get_or (c ∷ l) (cond b 0 (suc (line_length l))) 0 ≡ 10
    go true e h k = eqb-true c 10 e
    go false e h k = k (omega arith)
