-- A run of the watch program (docs/RULES.md, "The watch program"): how far it is, and the run after a line. Assumes nothing: these are definitions.
use Rattle.std.specs.Prelude.{◌≡◌, ◌<◌, ℕ, ◌+◌, ◌-◌, ◌^◌, min, cond, List, [], eqb}
use Rattle.tally.specs.declared.Tally.{Tally}
use Rattle.line.specs.Lines.{tally_line}
use Rattle.watching.specs.declared.Phase.{Phase}
use Rattle.watching.specs.declared.Phase.TheVariants.{Fresh, Running, Ended}
use Rattle.watching.specs.declared.Run.{Run}

-- the phase number of a run that is as far as this
abbrev pub IsPhase : ℕ → Phase → Type 0
IsPhase n Fresh = n ≡ 0
IsPhase n Running = n ≡ 1
IsPhase n Ended = 1 < n

-- before line 1
abbrev pub fresh : Run
fresh = record { phase = 0; line = 0; tally = record { windows = 0; ticks = 0 } }

-- the number of the next line; it stays at the largest number of 64 bits
abbrev pub next_line : ℕ → ℕ
next_line n = min (n + 1) (2 ^ 64 - 1)

-- the run after a line that is not refused, with this tally
abbrev pub next_run : Run → Tally → Run
next_run run tally = record { phase = 1; line = next_line run.line; tally = tally }

-- the run after a line that is refused
abbrev pub ended : Run → Run
ended run = record { phase = 2; line = next_line run.line; tally = run.tally }

-- the tally's line, which is the last; none if a refusal ended the run
abbrev pub finish_line : Run → List ℕ
finish_line run = cond (eqb run.phase 1) (tally_line run.tally.windows run.tally.ticks) []
