-- What is claimed of reading and writing lines. Assumes nothing: these are definitions.
use Rattle.std.specs.Prelude.{ℕ, ◌^◌, ◌<◌, ◌≤◌, ◌≡◌, ◌⊎◌, ◌↔◌, List, ◌++◌, length, drop, Result, Ok, Err}
use Rattle.rules.specs.Limits.{letters, ticks}
use Rattle.refusal.specs.declared.Refusal.{Refusal}
use Rattle.refusal.specs.declared.Refusal.TheVariants.{Line, Range, Room}
use Rattle.line.specs.Lines.{most_line, most_written, most_tally, tick_line, window_line, tally_line, refused_line}
use Rattle.line.specs.Answer.{LineOf, IsRange, LineReadOf, LineWrittenOf}
use Rattle.line.specs.declared.Tick.{Tick}

-- only one answer meets what reading promises
abbrev pub OneReading : Type 0
OneReading = (s : List ℕ) (r₁ r₂ : Result Tick Refusal) → LineReadOf s r₁ → LineReadOf s r₂ → r₁ ≡ r₂

-- only one answer and one slice meet what writing promises
abbrev pub OneWriting : Type 0
OneWriting =
    (bytes d d₁ d₂ : List ℕ) (r₁ r₂ : Result ℕ Refusal)
    → LineWrittenOf bytes d d₁ r₁
    → LineWrittenOf bytes d d₂ r₂
    → (r₁ ≡ r₂) × (d₁ ≡ d₂)

-- two different ticks, or the same tick with different events, have different lines
abbrev pub OneTick : Type 0
OneTick = (s : List ℕ) (t w t' w' : ℕ) → LineOf s t w → LineOf s t' w' → (t ≡ t') × (w ≡ w')

-- the line written of a tick is read back to the tick and its events
abbrev pub ReadBack : Type 0
ReadBack = (t w : ℕ) (r : Result Tick Refusal) → t < ticks → 0 < w → w < 2 ^ letters → LineReadOf (tick_line t w) r → r ≡ Ok (record { t = t; events = w })

-- a line is malformed exactly if it is over 1,024 bytes or the line of no tick of any size
abbrev pub LineExactly : Type 0
LineExactly =
    (s : List ℕ) (r : Result Tick Refusal)
    → LineReadOf s r
    → (r ≡ Err Line) ↔ ((most_line < length s) ⊎ ((t w : ℕ) → LineOf s t w → ⊥))

-- a tick is out of range exactly if its line is well formed and it is over 4,294,967,295
abbrev pub RangeExactly : Type 0
RangeExactly = (s : List ℕ) (r : Result Tick Refusal) → LineReadOf s r → (r ≡ Err (Range 0)) ↔ IsRange s

-- a line is written where there is room for it
abbrev pub WrittenFits : Type 0
WrittenFits =
    (bytes d d' : List ℕ) (r : Result ℕ Refusal)
    → LineWrittenOf bytes d d' r
    → length bytes ≤ length d
    → (r ≡ Ok (length bytes)) × (d' ≡ bytes ++ drop (length bytes) d)

-- and refused, with nothing changed, where there is not
abbrev pub WrittenLacks : Type 0
WrittenLacks =
    (bytes d d' : List ℕ) (r : Result ℕ Refusal)
    → LineWrittenOf bytes d d' r
    → length d < length bytes
    → (r ≡ Err (Room (length bytes))) × (d' ≡ d)

-- a line with numbers of 64 bits never has more bytes than its bound
abbrev pub AtMostWritten : Type 0
AtMostWritten =
    (a b : ℕ) → a < 2 ^ 64 → b < 2 ^ 64
    → (length (window_line a b) ≤ most_written) × (length (tally_line a b) ≤ most_tally) × (length (refused_line a b) ≤ most_written)
