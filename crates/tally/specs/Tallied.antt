-- What adding a window to a tally gives (docs/RULES.md, "The tally", "Refusals": 10, 13). Assumes nothing: these are definitions.
use Rattle.std.specs.Prelude.{Result, Ok, Err, Bool, ◌||◌, cond, ℕ, ◌+◌, ◌-◌, ◌^◌, ltb, leb}
use Rattle.rules.specs.Limits.{ticks}
use Rattle.refusal.specs.declared.Refusal.{Refusal}
use Rattle.refusal.specs.declared.Refusal.TheVariants.{Range, Full}
use Rattle.tally.specs.declared.Tally.{Tally}

-- the window ends before it starts, or past the last tick
abbrev pub outside : ℕ → ℕ → Bool
outside start end = ltb end start || leb ticks end

-- the tally with the window counted
abbrev pub more : Tally → ℕ → ℕ → Tally
more tally start end = record { windows = tally.windows + 1; ticks = tally.ticks + (end - start + 1) }

-- a number of the tally would pass 64 bits
abbrev pub over : Tally → Bool
over tally = leb (2 ^ 64) tally.windows || leb (2 ^ 64) tally.ticks

-- Range, then Full, else the tally with the window counted
unfoldable pub added_to : Tally → ℕ → ℕ → Result Tally Refusal
added_to tally start end = cond (outside start end) (Err (Range 0)) (cond (over (more tally start end)) (Err Full) (Ok (more tally start end)))

-- what the caller is told: that the window was added, or why it is refused
abbrev pub answer_of : Result Tally Refusal → Result (Unit {0}) Refusal
answer_of (Ok tally) = Ok tt
answer_of (Err r) = Err r

-- the tally afterwards: a refused window leaves it as it was
abbrev pub after : Tally → Result Tally Refusal → Tally
after tally (Ok new) = new
after tally (Err r) = tally
