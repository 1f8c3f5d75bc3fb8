-- What the functions that take a chunk promise each other; no public call cites these. Assumes nothing: these are definitions.
use Rattle.std.specs.Prelude.{ℕ, suc, ◌+◌, ◌-◌, ◌<◌, ◌≤◌, ◌≡◌, cond, List, [], ◌∷◌, ◌++◌, eqb, length, take, drop}
use Rattle.line.specs.Lines.{most_written}
use Rattle.line.specs.Answer.{IsWritten}
use Rattle.watching.specs.declared.Run.{Run}
use Rattle.watching.specs.declared.Taken.{Taken}
use Rattle.watching.specs.declared.Chunked.{Chunked}
use Rattle.watching.specs.Whole.{Takes}
use Rattle.watching.specs.Chunk.{most_held, TakesBytes, held_in, last_lines}

-- the bytes before the first line feed, all if there is none
unfoldable pub line_length : List ℕ → ℕ
line_length [] = 0
line_length (c ∷ input) = cond (eqb c 10) 0 (suc (line_length input))

-- no line ends in an input
abbrev pub Unended : List ℕ → Type 0
Unended input = line_length input ≡ length input

-- the line that begins at `from` ends at `end`, and there is a line feed
pub record LineEnds (input : List ℕ) (from end : ℕ) : Type 0 where
  pub place : end ≡ from + line_length (drop from input)
  pub inside : end < length input

-- the first bytes of p with a piece behind them, as many as are held, stand first in p'
pub record Appended (p : List ℕ) (from : ℕ) (piece p' : List ℕ) (n : ℕ) : Type 0 where
  pub counts : n ≡ length (take most_held (take from p ++ piece))
  pub holds : p' ≡ take most_held (take from p ++ piece) ++ drop n p

-- bytes are written to d from `at` on, up to n
pub record WritesOn (bytes d d' : List ℕ) (at n : ℕ) : Type 0 where
  pub counts : n ≡ at + length bytes
  pub fits : n ≤ length d
  pub written : d' ≡ take at d ++ (bytes ++ drop n d)

-- lines of an input taken from the place `from` on, with h held, and their output written to d from `at` on: whatever taking the rest of the input
-- gives from there, with the room left, taking the input from `from` on gives after these bytes
pub record Progress (run : Run) (h : List ℕ) (from at : ℕ) (input s s' d d' : List ℕ) (r : Chunked) : Type 0 where
  pub bytes : List ℕ
  pub leads : {run'' : Run} {h'' s'' rest left : List ℕ} → TakesBytes (length d - r.written) r.run [] s' (drop r.used input) run'' h'' s'' rest left
      → TakesBytes (length d - at) run h s (drop from input) run'' h'' s'' (bytes ++ rest) left
  pub none : r.held ≡ 0
  pub inside : r.used ≤ length input
  pub writes : WritesOn bytes d d' at r.written

-- lines can be taken: nothing is held, and the places are inside the input and the output
pub record Ready (input d : List ℕ) (r : Chunked) : Type 0 where
  pub none : r.held ≡ 0
  pub inside : r.used ≤ length input
  pub fits : r.written ≤ length d

-- the next line can be taken: it ends at `end`, and there is room for what it writes
pub record LineReady (input d : List ℕ) (end : ℕ) (r : Chunked) : Type 0 where
  pub ready : Ready input d r
  pub ends : LineEnds input r.used end
  pub room : r.written + most_written ≤ length d

-- lines are taken as long as there is room
pub record LinesTaken (input s s' d d' : List ℕ) (r r' : Chunked) : Type 0 where
  pub progress : Progress r.run [] r.used r.written input s s' d d' r'
  pub stops : most_written ≤ length d - r'.written → Unended (drop r'.used input)

-- the line that a line feed at `end` ends, after the bytes held, can be taken
pub record JoinReady (held : ℕ) (chunk : List ℕ) (end : ℕ) (p d : List ℕ) : Type 0 where
  pub few : held ≤ most_held
  pub part : most_held ≤ length p
  pub ends : LineEnds chunk 0 end
  pub room : most_written ≤ length d

-- what is left of a chunk is held
pub record HeldRest (chunk p p' : List ℕ) (r r' : Chunked) : Type 0 where
  pub run : r'.run ≡ r.run
  pub used : r'.used ≡ length chunk
  pub written : r'.written ≡ r.written
  pub held : Appended p 0 (drop r.used chunk) p' r'.held

-- the last line taken, if there is one
pub record LastTaken (run : Run) (held : ℕ) (p s s' d d' : List ℕ) (r : Taken) : Type 0 where
  pub bytes : List ℕ
  pub takes : Takes run s (last_lines run (held_in held p)) r.run s' bytes
  pub written : IsWritten bytes d d' r.written
