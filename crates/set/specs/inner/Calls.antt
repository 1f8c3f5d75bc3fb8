-- What the functions of a set promise each other; no public call cites these. Assumes nothing: these are definitions.
use Rattle.std.specs.Prelude.{◌≡◌, List, ℕ, ◌+◌, ◌≤◌, ◌<◌, length, get_or, take, drop, Err, Ok, Result, Some}
use Rattle.rules.specs.Limits.{argument_bytes, most_patterns, ticks}
use Rattle.rules.specs.Pattern.{Pattern}
use Rattle.detector.specs.Memory.{fresh}
use Rattle.body.specs.Claim.{BodyOf}
use Rattle.refusal.specs.declared.Refusal.{Refusal}
use Rattle.file.specs.declared.Place.{Place}
use Rattle.file.specs.Check.{file_check}
use Rattle.file.specs.Place.{body_place}
use Rattle.watcher.specs.State.{next_of, state_of, room_of}
use Rattle.watcher.specs.inner.Walk.{extent}
use Rattle.set.specs.Set.{Fault, SetTicked}
use Rattle.set.specs.File.{Holds, rooms_of}

-- a file is sound
abbrev pub SoundFile : List ℕ → Type 0
SoundFile f = file_check f ≡ Ok tt

-- n words are those of the states of a sound file's patterns
pub record RoomSummed (f : List ℕ) (n : ℕ) : Type 0 where
  pub patterns : List Pattern
  pub file : Holds f patterns
  pub room : n ≡ rooms_of patterns

-- e is pattern number i of a file: the place that the contents say holds its body
pub record PatternAt (f : List ℕ) (i : ℕ) (e : Pattern) : Type 0 where
  pub place : Place
  pub found : body_place f i ≡ Some place
  pub within : place.from + place.long ≤ length f
  pub body : BodyOf argument_bytes (take place.long (drop place.from f)) e

-- the file has a pattern number i
pub record HasPattern (f : List ℕ) (i : ℕ) : Type 0 where
  pub pattern : Pattern
  pub at : PatternAt f i pattern

-- b is the body of pattern number i
pub record BodyAt (f : List ℕ) (i : ℕ) (b : List ℕ) : Type 0 where
  pub body : (e : Pattern) → PatternAt f i e → BodyOf argument_bytes b e

-- n is the room of pattern number i
pub record RoomAt (f : List ℕ) (i n : ℕ) : Type 0 where
  pub room : (e : Pattern) → PatternAt f i e → n ≡ room_of e

-- a slice has exactly the room of pattern number i
pub record HasRoom (f : List ℕ) (i : ℕ) (s : List ℕ) : Type 0 where
  pub pattern : Pattern
  pub at : PatternAt f i pattern
  pub room : length s ≡ room_of pattern

-- it holds the state of pattern number i, as opened
pub record OpenedAt (f : List ℕ) (i : ℕ) (s : List ℕ) : Type 0 where
  pub state : (e : Pattern) → PatternAt f i e → s ≡ state_of e 0 (fresh e)

-- a sound file, with room for its states
pub record OpenReady (f s : List ℕ) : Type 0 where
  pub needed : ℕ
  pub summed : RoomSummed f needed
  pub room : needed ≤ length s

-- a state in form stands from one place to another
pub record PartAt (s : List ℕ) (from to : ℕ) : Type 0 where
  pub words : ℕ
  pub form : extent (drop from s) ≡ Some words
  pub end : to ≡ from + words

-- and it may take a tick
pub record PartReady (s : List ℕ) (t from to : ℕ) : Type 0 where
  pub part : PartAt s from to
  pub late : next_of (drop from s) ≤ t

-- n states that may take a tick; state k begins at place k of the ends
pub record PartsReady (n : ℕ) (s : List ℕ) (t : ℕ) (ends : List ℕ) : Type 0 where
  pub first : get_or ends 0 0 ≡ 0
  pub each : (k : ℕ) → k < n → PartReady s t (get_or ends k 0) (get_or ends (k + 1) 0)

-- n states were judged at t: where they end, or the fault of one
abbrev pub Judged : ℕ → List ℕ → ℕ → Result (List ℕ) Refusal → Type 0
Judged n s t (Ok ends) = PartsReady n s t ends
Judged n s t (Err r) = Fault n s t r

-- they may take the tick
pub record Ready (n : ℕ) (s : List ℕ) (t : ℕ) (ends old : List ℕ) : Type 0 where
  pub range : t < ticks
  pub few : n ≤ most_patterns
  pub long : length ends ≡ most_patterns + 1
  pub room : n ≤ length old
  pub parts : PartsReady n s t ends

-- they took it
pub record Done (n : ℕ) (s : List ℕ) (t w : ℕ) (old s' new : List ℕ) : Type 0 where
  pub taken : SetTicked t w n s s' (take n new)
  pub kept : drop n new ≡ drop n old
