-- What the functions that take many ticks at once promise each other; no public call cites these. Assumes nothing: these are definitions.
use Rattle.std.specs.Prelude.{ℕ, zero, suc, ◌+◌, ◌-◌, ◌*◌, ◌^◌, ◌<◌, ◌≤◌, ◌≡◌, List, [], ◌∷◌, ◌++◌, length, get_or, take, drop, Ok, Some, None, Option}
use Rattle.rules.specs.Limits.{ticks}
use Rattle.line.specs.Lines.{most_written}
use Rattle.line.specs.Answer.{IsTick, IsWritten}
use Rattle.watching.specs.declared.Run.{Run}
use Rattle.watching.specs.declared.Taken.{Taken}
use Rattle.watching.specs.declared.batch.Gathered.{Gathered}
use Rattle.watching.specs.Answer.{Acted}
use Rattle.watching.specs.inner.Progress.{line_length, LineEnds}
use Rattle.watching.specs.Answer.{LineAnswer}
use Rattle.watching.specs.declared.batch.Found.{Found}

-- the number of lines read at once
abbrev pub most_ticks : ℕ
most_ticks = 64

-- the bytes that they may write
abbrev pub most_reported : ℕ
most_reported = 3840

-- ---- reading

-- the line from a place on is that of a tick t with the events w, and ends at `end`
pub record IsFound (input : List ℕ) (from t w end : ℕ) : Type 0 where
  pub ends : LineEnds input from end
  pub read : IsTick (take (end - from) (drop from input)) t w

-- what is found from a place on: nothing is promised of a line that is not a tick's
abbrev pub FoundAt : List ℕ → ℕ → Option Found → Type 0
FoundAt input from (Some f) = IsFound input from f.tick.t f.tick.events f.end
FoundAt input from None = Unit {0}

-- a line may end at `end`: there is a line feed, or the end of the input
pub record MayEnd (input : List ℕ) (from end : ℕ) : Type 0 where
  pub after : from ≤ end
  pub inside : end ≤ length input
  pub feed : end < length input → get_or input end 0 ≡ 10

-- lines that an input begins with, each that of a tick: the ticks, their events, and the input after them
pub data TickLines : List ℕ → List ℕ → List ℕ → List ℕ → Type 0 where
  none : {input : List ℕ} → TickLines input [] [] input
  more : {input ts ws left : List ℕ} (t w : ℕ) → line_length input < length input → IsTick (take (line_length input) input) t w
      → TickLines (drop (suc (line_length input)) input) ts ws left → TickLines input (t ∷ ts) (w ∷ ws) left

-- lines read from a place on: their ticks stand first in ts, and their events in ws
pub record Gathers (input : List ℕ) (from : ℕ) (ts ws : List ℕ) (r : Gathered) : Type 0 where
  pub few : r.count ≤ most_ticks
  pub inside : r.used ≤ length input
  pub lines : TickLines (drop from input) (take r.count ts) (take r.count ws) (drop r.used input)

-- ---- reporting

-- a run takes ticks, and its tally is far from full
pub record FarFromFull (run : Run) : Type 0 where
  pub phase : run.phase ≡ 1
  pub windows : run.tally.windows < 2 ^ 63
  pub ticks : run.tally.ticks < 2 ^ 63

-- the answer to a tick t: 0 for none, or start + 1 of the window that ends there
abbrev pub answer_at : ℕ → ℕ → LineAnswer
answer_at t zero = Ok None
answer_at t (suc start) = Ok (Some (start, t))

-- ticks reported by their answers, one after the other; none is refused
pub data AllReported : Run → List ℕ → List ℕ → Run → List ℕ → Type 0 where
  none : {run : Run} → AllReported run [] [] run []
  more : {run run₁ run' : Run} {ts answers bytes rest : List ℕ} (t a : ℕ) → Acted run (answer_at t a) run₁ bytes → run₁.phase ≡ 1
      → AllReported run₁ ts answers run' rest → AllReported run (t ∷ ts) (a ∷ answers) run' (bytes ++ rest)

-- an answer a at a tick t in range is 0, or start + 1 of a start no later than t
pub record Fair (t a : ℕ) : Type 0 where
  pub range : t < ticks
  pub within : a ≤ t + 1

-- n ticks more do not fill the tally
pub record Holds (run : Run) (n : ℕ) : Type 0 where
  pub windows : run.tally.windows + n < 2 ^ 64
  pub ticks : run.tally.ticks + n * 2 ^ 32 < 2 ^ 64

-- an answer can be reported
pub record ReportReady (run : Run) (t a : ℕ) (d : List ℕ) : Type 0 where
  pub fair : Fair t a
  pub holds : Holds run 1
  pub room : most_written ≤ length d

-- it is reported, and the tally grows by a window at most
pub record IsReported (run : Run) (t a : ℕ) (d d' : List ℕ) (r : Taken) : Type 0 where
  pub bytes : List ℕ
  pub acted : Acted run (answer_at t a) r.run bytes
  pub phase : r.run.phase ≡ 1
  pub short : length bytes ≤ most_written
  pub written : IsWritten bytes d d' r.written
  pub windows : r.run.tally.windows ≤ run.tally.windows + 1
  pub ticks : r.run.tally.ticks ≤ run.tally.ticks + 2 ^ 32

-- answers can be reported
pub record ReportAllReady (run : Run) (ts answers d : List ℕ) : Type 0 where
  pub fair : (i : ℕ) → i < length ts → Fair (get_or ts i 0) (get_or answers i 0)
  pub enough : length ts ≤ length answers
  pub holds : Holds run (length ts)
  pub room : most_written * length ts ≤ length d

-- they are reported
pub record IsAllReported (run : Run) (ts answers d d' : List ℕ) (r : Taken) : Type 0 where
  pub bytes : List ℕ
  pub reports : AllReported run ts (take (length ts) answers) r.run bytes
  pub written : IsWritten bytes d d' r.written
