-- The lines of the watch program (docs/RULES.md, "The watch program"). Assumes nothing: these are definitions.
use Rattle.std.specs.Prelude.{ℕ, zero, suc, ◌+◌, cond, List, [], ◌∷◌, ◌++◌, eqb}
use Rattle.rules.specs.Limits.{letters}
use Rattle.rules.specs.Bits.{bit}
use Rattle.decimal.specs.Decimal.{decimal}
use Rattle.text.specs.Render.{letter_byte}

-- the bytes that a tick's line may have
abbrev pub most_line : ℕ
most_line = 1024

-- the digits that a number of 64 bits can have
abbrev pub most_digits : ℕ
most_digits = 20

-- the bytes that the line of a window or of a refusal can have
abbrev pub most_written : ℕ
most_written = 60

-- the bytes that the tally's line can have; no line is longer
abbrev pub most_tally : ℕ
most_tally = 60

-- the letter of event type n, if a word of events has it
abbrev pub letter_if : ℕ → ℕ → List ℕ
letter_if w n = cond (eqb (bit w n) 1) (letter_byte n ∷ []) []

-- the letters of a word's events in type order, for `types` types from type n on
unfoldable pub letters_from : ℕ → ℕ → ℕ → List ℕ
letters_from zero n w = []
letters_from (suc types) n w = letter_if w n ++ letters_from types (n + 1) w

-- the letters of a word's events, in type order, none twice
abbrev pub letters_of : ℕ → List ℕ
letters_of w = letters_from letters 0 w

-- a tick, one space, and the letters of its events; 32 is the space
abbrev pub tick_line : ℕ → ℕ → List ℕ
tick_line t w = decimal t ++ (32 ∷ letters_of w)

-- `start end`; 10 is the line feed
abbrev pub window_line : ℕ → ℕ → List ℕ
window_line start end = decimal start ++ (32 ∷ decimal end ++ (10 ∷ []))

-- `windows `
abbrev pub windows_word : List ℕ
windows_word = 119 ∷ 105 ∷ 110 ∷ 100 ∷ 111 ∷ 119 ∷ 115 ∷ 32 ∷ []

-- ` ticks `
abbrev pub ticks_word : List ℕ
ticks_word = 32 ∷ 116 ∷ 105 ∷ 99 ∷ 107 ∷ 115 ∷ 32 ∷ []

-- `refused line `
abbrev pub refused_word : List ℕ
refused_word = 114 ∷ 101 ∷ 102 ∷ 117 ∷ 115 ∷ 101 ∷ 100 ∷ 32 ∷ 108 ∷ 105 ∷ 110 ∷ 101 ∷ 32 ∷ []

-- ` code `
abbrev pub code_word : List ℕ
code_word = 32 ∷ 99 ∷ 111 ∷ 100 ∷ 101 ∷ 32 ∷ []

-- a word, a number, a word, a number and the line feed
abbrev pub numbers_line : List ℕ → ℕ → List ℕ → ℕ → List ℕ
numbers_line one a two b = one ++ (decimal a ++ (two ++ (decimal b ++ (10 ∷ []))))

-- `windows N ticks T`
abbrev pub tally_line : ℕ → ℕ → List ℕ
tally_line windows ticks = numbers_line windows_word windows ticks_word ticks

-- `refused line L code R`
abbrev pub refused_line : ℕ → ℕ → List ℕ
refused_line line code = numbers_line refused_word line code_word code
