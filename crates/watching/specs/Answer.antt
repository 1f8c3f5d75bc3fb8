-- What a line does to a run, by the promises of reading, opening, ticking and adding; and what is written for it (docs/RULES.md, "The watch
-- program"). Assumes nothing: these are definitions.
use Rattle.std.specs.Prelude.{ℕ, ◌<◌, ◌≡◌, List, [], take, replicate, Ok, Err, Some, None, Result, Option}
use Rattle.refusal.specs.declared.Refusal.{Refusal}
use Rattle.refusal.specs.Table.{number_of}
use Rattle.text.specs.Answer.{ReadingOf}
use Rattle.watcher.specs.Answer.{OpenAnswers, TickAnswers}
use Rattle.tally.specs.declared.Tally.{Tally}
use Rattle.tally.specs.Tallied.{added_to}
use Rattle.line.specs.Lines.{window_line, refused_line}
use Rattle.line.specs.Answer.{LineReadOf, IsWritten}
use Rattle.watching.specs.declared.Run.{Run}
use Rattle.watching.specs.declared.Taken.{Taken}
use Rattle.watching.specs.Runs.{next_line, next_run, ended}

-- what a line answers: nothing to report, a window by its start and end, or why the line is refused
abbrev pub LineAnswer : Type 0
LineAnswer = Result (Option (ℕ × ℕ)) Refusal

-- room for the longest body
abbrev pub no_body : List ℕ
no_body = replicate 315 0

-- line 1 is read as a pattern's text into a body, and the state is opened with that; the line is refused as reading or opening is
pub data FirstLine (l s s' : List ℕ) : LineAnswer → Type 0 where
  unread : {body : List ℕ} {r : Refusal} → ReadingOf l no_body body (Err r) → s' ≡ s → FirstLine l s s' (Err r)
  unopened : {body : List ℕ} {bytes : ℕ} {r : Refusal} → ReadingOf l no_body body (Ok bytes)
      → OpenAnswers (take bytes body) s s' (Err r) → FirstLine l s s' (Err r)
  opened : {body : List ℕ} {bytes : ℕ} → ReadingOf l no_body body (Ok bytes) → OpenAnswers (take bytes body) s s' (Ok tt)
      → FirstLine l s s' (Ok None)

-- a further line is read as a tick t with the events w, and the state takes that; the line is refused as reading (14, then 10) or the tick (11) is
pub data FurtherLine (l s s' : List ℕ) : LineAnswer → Type 0 where
  unread : {r : Refusal} → LineReadOf l (Err r) → s' ≡ s → FurtherLine l s s' (Err r)
  unticked : {t w : ℕ} {r : Refusal} → LineReadOf l (Ok (record { t = t; events = w })) → TickAnswers s s' t w (Err r) → FurtherLine l s s' (Err r)
  window : {t w start : ℕ} → LineReadOf l (Ok (record { t = t; events = w })) → TickAnswers s s' t w (Ok (Some start)) → FurtherLine l s s' (Ok (Some (start, t)))
  nothing : {t w : ℕ} → LineReadOf l (Ok (record { t = t; events = w })) → TickAnswers s s' t w (Ok None) → FurtherLine l s s' (Ok None)

-- `refused line L code R`, where L is the line after those taken
abbrev pub refusing : Run → Refusal → List ℕ
refusing run r = refused_line (next_line run.line) (number_of r)

-- an answer acted on: the run after it, and the bytes written. A window is added to the tally, and refused if that is full
pub data Acted (run : Run) : LineAnswer → Run → List ℕ → Type 0 where
  silent : Acted run (Ok None) (next_run run run.tally) []
  added : {start t : ℕ} {tally : Tally} → added_to run.tally start t ≡ Ok tally
      → Acted run (Ok (Some (start, t))) (next_run run tally) (window_line start t)
  full : {start t : ℕ} {r : Refusal} → added_to run.tally start t ≡ Err r → Acted run (Ok (Some (start, t))) (ended run) (refusing run r)
  refused : {r : Refusal} → Acted run (Err r) (ended run) (refusing run r)

-- a line l taken, where the state s becomes s': the run after it, and the bytes written. After a refusal nothing is done
pub data LineTaken (run : Run) (l s s' : List ℕ) : Run → List ℕ → Type 0 where
  first : {a : LineAnswer} {run' : Run} {bytes : List ℕ} → run.phase ≡ 0 → FirstLine l s s' a → Acted run a run' bytes
      → LineTaken run l s s' run' bytes
  further : {a : LineAnswer} {run' : Run} {bytes : List ℕ} → run.phase ≡ 1 → FurtherLine l s s' a → Acted run a run' bytes
      → LineTaken run l s s' run' bytes
  after : 1 < run.phase → s' ≡ s → LineTaken run l s s' run []

-- the promise of taking a line: its bytes are written to d, which holds d' afterwards
pub record IsTaken (run : Run) (l s s' d d' : List ℕ) (taken : Taken) : Type 0 where
  pub bytes : List ℕ
  pub line : LineTaken run l s s' taken.run bytes
  pub written : IsWritten bytes d d' taken.written

-- the promise of acting on an answer
pub record IsActed (run : Run) (a : LineAnswer) (d d' : List ℕ) (taken : Taken) : Type 0 where
  pub bytes : List ℕ
  pub acted : Acted run a taken.run bytes
  pub written : IsWritten bytes d d' taken.written
