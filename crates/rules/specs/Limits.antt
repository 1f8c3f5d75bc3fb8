-- The limits of docs/RULES.md, each by a name. Assumes nothing: these are definitions.
use Rattle.std.specs.Prelude.{ℕ, ◌^◌}

-- event types: 0 to 31
abbrev pub letters : ℕ
letters = 32

-- bytes of an entry's argument
abbrev pub argument_bytes : ℕ
argument_bytes = 4

-- entries of a body: 1 to 63
abbrev pub most_entries : ℕ
most_entries = 63

-- bytes of a pattern's text
abbrev pub most_text : ℕ
most_text = 1024

-- patterns of a file, a writer or a set: 1 to 16
abbrev pub most_patterns : ℕ
most_patterns = 16

-- event words that the plain evaluator takes
abbrev pub most_words : ℕ
most_words = 64

-- ticks: 0 to 4,294,967,295
abbrev pub ticks : ℕ
ticks = 2 ^ 32
