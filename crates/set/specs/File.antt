-- A set opened from a pattern file (docs/RULES.md, "Sets" and "Refusals": 4, 5, 6, 7 of the file, then 8). Assumes nothing: these are definitions.
use Rattle.std.specs.Prelude.{◌≡◌, List, [], ◌∷◌, ◌++◌, ℕ, ◌+◌, ◌≤◌, ◌<◌, length, drop, Err, Ok, Result}
use Rattle.rules.specs.Limits.{argument_bytes}
use Rattle.rules.specs.Lists.{All}
use Rattle.rules.specs.Pattern.{Pattern, size}
use Rattle.detector.specs.Memory.{fresh}
use Rattle.refusal.specs.declared.Refusal.{Refusal}
use Rattle.refusal.specs.declared.Refusal.TheVariants.{Room}
use Rattle.body.specs.Postfix.{encode, Bodied}
use Rattle.file.specs.Check.{file_check}
use Rattle.file.specs.Claim.{PartsOf}
use Rattle.watcher.specs.State.{state_of, room_of}

-- the numbers of entries of patterns, in order
unfoldable pub sizes : List Pattern → List ℕ
sizes [] = []
sizes (e ∷ es) = size e ∷ sizes es

-- their bodies end to end
unfoldable pub bodies_of : List Pattern → List ℕ
bodies_of [] = []
bodies_of (e ∷ es) = encode argument_bytes e ++ bodies_of es

-- the words of all their states
unfoldable pub rooms_of : List Pattern → ℕ
rooms_of [] = 0
rooms_of (e ∷ es) = room_of e + rooms_of es

-- their states as opened, each beginning where the previous ends
unfoldable pub states_of : List Pattern → List ℕ
states_of [] = []
states_of (e ∷ es) = state_of e 0 (fresh e) ++ states_of es

-- a file holds patterns
pub record Holds (f : List ℕ) (es : List Pattern) : Type 0 where
  pub names : List ℕ
  pub parts : PartsOf f names (sizes es) (bodies_of es)
  pub bodied : All (Bodied argument_bytes) es

-- the room of a file: that of all its patterns, or the file's refusal
abbrev pub SetRoomAnswers : List ℕ → Result ℕ Refusal → Type 0
SetRoomAnswers f (Ok n) = (es : List Pattern) × Holds f es × (n ≡ rooms_of es)
SetRoomAnswers f (Err r) = file_check f ≡ Err r

-- opened: the states of the file's patterns stand first, and the words beyond are kept
pub record IsSetOpened (f old new : List ℕ) : Type 0 where
  pub patterns : List Pattern
  pub file : Holds f patterns
  pub room : rooms_of patterns ≤ length old
  pub words : new ≡ states_of patterns ++ drop (rooms_of patterns) old

-- opening is refused as the file is; or, where that is sound, for want of room, with the words needed
pub data SetOpenRefused (f old : List ℕ) (r : Refusal) : Type 0 where
  unsound : file_check f ≡ Err r → SetOpenRefused f old r
  short : (es : List Pattern) → Holds f es → length old < rooms_of es → r ≡ Room (rooms_of es) → SetOpenRefused f old r

-- the promise of opening a set
abbrev pub SetOpenAnswers : List ℕ → List ℕ → List ℕ → Result (Unit {0}) Refusal → Type 0
SetOpenAnswers f old new (Ok _) = IsSetOpened f old new
SetOpenAnswers f old new (Err r) = SetOpenRefused f old r × (new ≡ old)
