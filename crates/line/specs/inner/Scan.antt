-- Reading a line a byte at a time, into a tick of any size and a word, for the proof of the reader; no public contract cites it.
-- Assumes nothing: these are definitions.
use Rattle.std.specs.Prelude.{ℕ, ◌+◌, ◌*◌, ◌^◌, cond, List, [], ◌∷◌, ltb, eqb, Option, Some, None}
use Rattle.std.specs.Option.{option_map, option_and_then, option_map_or}
use Rattle.text.specs.Characters.{letter_of, digit_of}
use Rattle.line.specs.declared.Tick.{Tick}

-- v with the digits that follow it, and what follows these
unfoldable pub grow : ℕ → List ℕ → ℕ × List ℕ
grow v [] = (v, [])
grow v (c ∷ s) = option_map_or (λ d. grow (v * 10 + d) s) (digit_of c) (v, c ∷ s)

-- the number at the front of a line, and what follows it; a number that begins with 0 ends there
unfoldable pub front_of : List ℕ → Option (ℕ × List ℕ)
front_of [] = None
front_of (c ∷ s) = option_map (λ d. cond (eqb d 0) (0, s) (grow d s)) (digit_of c)

-- the word w with the letters that follow, each of type n or later, in type order and none twice; none where they are not so, or the word is empty
unfoldable pub word_from : ℕ → ℕ → List ℕ → Option ℕ
word_from n w [] = cond (eqb w 0) None (Some w)
word_from n w (c ∷ s) = option_and_then (λ k. cond (ltb k n) None (word_from (k + 1) (w + 2 ^ k) s)) (letter_of c)

-- the word of a whole run of letters
abbrev pub word_of : List ℕ → Option ℕ
word_of s = word_from 0 0 s

-- a line's tick, of any size, and its word
abbrev pub with_word : ℕ → Option ℕ → Option Tick
with_word t w = option_map (λ x. record { t = t; events = x }) w

-- what a number and what follows it make
abbrev pub after_number : ℕ → List ℕ → Option Tick
after_number t [] = None
after_number t (c ∷ s) = cond (eqb c 32) (with_word t (word_of s)) None

abbrev pub after_front : Option (ℕ × List ℕ) → Option Tick
after_front front = option_and_then (λ p. after_number p.0 p.1) front

unfoldable pub parse : List ℕ → Option Tick
parse s = after_front (front_of s)
