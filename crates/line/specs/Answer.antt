-- What reading and writing a line answer (docs/RULES.md, "The watch program", "Refusals"); and what the caller's slice holds afterwards.
-- Assumes nothing: these are definitions.
use Rattle.std.specs.Prelude.{ℕ, ◌^◌, ◌<◌, ◌≤◌, ◌≡◌, List, ◌++◌, length, drop, Result, Ok, Err}
use Rattle.rules.specs.Limits.{letters, ticks}
use Rattle.refusal.specs.declared.Refusal.{Refusal}
use Rattle.refusal.specs.declared.Refusal.TheVariants.{Line, Range, Room}
use Rattle.line.specs.Lines.{most_line, tick_line}
use Rattle.line.specs.declared.Tick.{Tick}

-- s is the line of a tick t of any size, with the events of the word w, at least one
pub record LineOf (s : List ℕ) (t w : ℕ) : Type 0 where
  pub some : 0 < w
  pub fits : w < 2 ^ letters
  pub same : s ≡ tick_line t w

-- the line of a tick
pub record IsTick (s : List ℕ) (t w : ℕ) : Type 0 where
  pub short : length s ≤ most_line
  pub line : LineOf s t w
  pub range : t < ticks

-- 10: the line is well formed, and its tick is over 4,294,967,295
pub record IsRange (s : List ℕ) : Type 0 where
  pub short : length s ≤ most_line
  pub tick : ℕ
  pub events : ℕ
  pub line : LineOf s tick events
  pub over : ticks ≤ tick

-- a line is refused with these, and with no other; 14: it is over 1,024 bytes, or the line of no tick of any size
pub data RefusedLine (s : List ℕ) : Refusal → Type 0 where
  long : most_line < length s → RefusedLine s Line
  malformed : ((t w : ℕ) → LineOf s t w → ⊥) → RefusedLine s Line
  range : IsRange s → RefusedLine s (Range 0)

-- the answer to reading the line s
abbrev pub LineReadOf : List ℕ → Result Tick Refusal → Type 0
LineReadOf s (Ok r) = IsTick s r.t r.events
LineReadOf s (Err r) = RefusedLine s r

-- the line's bytes are written to d, which holds d' afterwards: the line, and then what stood there before
pub record IsWritten (bytes d d' : List ℕ) (n : ℕ) : Type 0 where
  pub counts : n ≡ length bytes
  pub fits : n ≤ length d
  pub written : d' ≡ bytes ++ drop n d

-- 8: the slice d for the line is too short; the place is the length needed
pub record IsRoom (bytes d : List ℕ) (need : ℕ) : Type 0 where
  pub needs : need ≡ length bytes
  pub lacks : length d < need

-- this is the only refusal of a line to write
pub data RefusedWriting (bytes d : List ℕ) : Refusal → Type 0 where
  room : {need : ℕ} → IsRoom bytes d need → RefusedWriting bytes d (Room need)

-- the answer to writing a line's bytes to the slice d, which holds d' afterwards; a refusal changes nothing
abbrev pub LineWrittenOf : List ℕ → List ℕ → List ℕ → Result ℕ Refusal → Type 0
LineWrittenOf bytes d d' (Ok n) = IsWritten bytes d d' n
LineWrittenOf bytes d d' (Err r) = RefusedWriting bytes d r × (d' ≡ d)
