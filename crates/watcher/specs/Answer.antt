-- What the watcher's calls promise, by cases of the answer (docs/RULES.md, "Room and state", "Refusals").
-- Assumes nothing: these are definitions.
use Rattle.std.specs.Prelude.{◌≡◌, Result, Ok, Err, Option, Some, None, List, ◌++◌, ℕ, suc, ◌≤◌, ◌<◌, length, drop}
use Rattle.rules.specs.Limits.{argument_bytes, ticks}
use Rattle.rules.specs.Pattern.{Pattern}
use Rattle.detector.specs.Memory.{fresh}
use Rattle.detector.specs.Step.{answer, next}
use Rattle.refusal.specs.declared.Refusal.{Refusal}
use Rattle.refusal.specs.declared.Refusal.TheVariants.{Room, State, Range, Late}
use Rattle.body.specs.Check.{check_of}
use Rattle.body.specs.Claim.{BodyOf}
use Rattle.watcher.specs.State.{state_of, room_of, InForm}

-- the room of a body: the formula, or the body's refusal
abbrev pub RoomAnswers : List ℕ → Result ℕ Refusal → Type 0
RoomAnswers b (Ok n) = (e : Pattern) × BodyOf argument_bytes b e × (n ≡ room_of e)
RoomAnswers b (Err r) = check_of argument_bytes b ≡ Err r

-- opened: the words of a fresh memory stand first, and the words beyond are kept
pub record IsOpened (b old new : List ℕ) : Type 0 where
  pub pattern : Pattern
  pub body : BodyOf argument_bytes b pattern
  pub room : room_of pattern ≤ length old
  pub words : new ≡ state_of pattern 0 (fresh pattern) ++ drop (room_of pattern) old

-- opening is refused as the body is; or, where that is sound, for want of room, with the words needed
pub data OpenRefused (b old : List ℕ) (r : Refusal) : Type 0 where
  unsound : check_of argument_bytes b ≡ Err r → OpenRefused b old r
  short : (e : Pattern) → BodyOf argument_bytes b e → length old < room_of e → r ≡ Room (room_of e) → OpenRefused b old r

-- the promise of opening
abbrev pub OpenAnswers : List ℕ → List ℕ → List ℕ → Result (Unit {0}) Refusal → Type 0
OpenAnswers b old new (Ok _) = IsOpened b old new
OpenAnswers b old new (Err r) = OpenRefused b old r × (new ≡ old)

-- a state takes a tick: it is in form, and the tick is in range and not below the next allowed
pub record TickReady (s : List ℕ) (t : ℕ) : Type 0 where
  pub form : InForm s
  pub late : form.next ≤ t
  pub range : t < ticks

-- an accepted tick: the answer is the detector's on the memory that the state holds, and the words become those of the memory after it
pub record IsTicked (s s' : List ℕ) (t w a : ℕ) : Type 0 where
  pub range : t < ticks
  pub form : InForm s
  pub late : form.next ≤ t
  pub answered : a ≡ answer form.pattern form.memory t w
  pub words : s' ≡ state_of form.pattern (suc t) (next form.pattern form.memory t w) ++ form.beyond

-- a tick is refused if it is over the limit; else if the state is not in form; else if it is below the next allowed
pub data TickRefused (s : List ℕ) (t : ℕ) (r : Refusal) : Type 0 where
  over : ticks ≤ t → r ≡ Range 0 → TickRefused s t r
  broken : t < ticks → (InForm s → ⊥) → r ≡ State 0 → TickRefused s t r
  below : t < ticks → (f : InForm s) → t < f.next → r ≡ Late 0 → TickRefused s t r

-- the promise of a tick at t with the events w
abbrev pub TickAnswers : List ℕ → List ℕ → ℕ → ℕ → Result (Option ℕ) Refusal → Type 0
TickAnswers s s' t w (Ok (Some start)) = IsTicked s s' t w (suc start)
TickAnswers s s' t w (Ok None) = IsTicked s s' t w 0
TickAnswers s s' t w (Err r) = TickRefused s t r × (s' ≡ s)
