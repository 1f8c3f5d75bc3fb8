-- What reading the number of a line promises; no public contract cites this. Assumes nothing: these are definitions.
use Rattle.std.specs.Prelude.{ℕ, ◌≤◌, min, ◌≡◌, List, length, drop, Option, Some, None}
use Rattle.rules.specs.Limits.{ticks}
use Rattle.line.specs.inner.Scan.{front_of}
use Rattle.line.specs.declared.reader.Number.{Number}

-- a number of any size stands before `end`; a value over 2 ^ 32 is given as 2 ^ 32
pub record IsNumber (s : List ℕ) (end value : ℕ) : Type 0 where
  pub tick : ℕ
  pub front : front_of s ≡ Some (tick, drop end s)
  pub capped : value ≡ min tick ticks
  pub inside : end ≤ length s

abbrev pub NumberOf : List ℕ → Option Number → Type 0
NumberOf s (Some r) = IsNumber s r.end r.value
NumberOf s None = front_of s ≡ None
