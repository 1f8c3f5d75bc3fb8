-- A history is the list of accepted ticks with their events; the record it makes has no events at ticks never given.
-- Assumes nothing: these are definitions.
use Rattle.std.specs.Prelude.{List, [], ◌∷◌, ℕ, suc, ◌≤◌}
use Rattle.std.proofs.Math.Decide.{ℕ_discrete}
use Rattle.rules.specs.Decisions.{pick}
use Rattle.rules.specs.Instances.{Record}

-- a tick and its word of events
abbrev pub Tick : Type 0
Tick = ℕ × ℕ

-- the ticks are τ or later, and rise strictly
abbrev pub Rising : ℕ → List Tick → Type 0
Rising τ [] = Unit {0}
Rising τ (k ∷ h) = (τ ≤ k.0) × Rising (suc k.0) h

-- the next tick allowed after those of h, where it was τ before them
abbrev pub next_tick : ℕ → List Tick → ℕ
next_tick τ [] = τ
next_tick τ (k ∷ h) = next_tick (suc k.0) h

-- the record of a history
unfoldable pub record_of : List Tick → Record
record_of [] u = 0
record_of (k ∷ h) u = pick (ℕ_discrete u k.0) k.1 (record_of h u)
