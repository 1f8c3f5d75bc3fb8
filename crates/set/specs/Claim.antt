-- What is claimed of sets: each pattern is watched as if alone, so its reports are the rules' own; and no second outcome meets a promise. Assumes nothing: these are definitions.
use Rattle.std.specs.Prelude.{◌≡◌, List, [], ◌∷◌, ◌++◌, ℕ, ◌≤◌, ◌<◌, length, drop, Ok, Result}
use Rattle.rules.specs.Limits.{argument_bytes, ticks}
use Rattle.rules.specs.Pattern.{Pattern}
use Rattle.rules.specs.Instances.{Record, Has, Latest}
use Rattle.rules.specs.History.{Tick, next_tick, record_of}
use Rattle.body.specs.Postfix.{encode}
use Rattle.refusal.specs.declared.Refusal.{Refusal}
use Rattle.set.specs.Set.{IsSetTicked, SetAnswers}
use Rattle.set.specs.File.{Holds, IsSetOpened, SetRoomAnswers, SetOpenAnswers}
use Rattle.watcher.specs.State.{room_of}
use Rattle.watcher.specs.Claim.{Watched}

-- a slice that was opened from a file with the patterns es and then only ticked, in all its states: the ticks accepted so far, and its words now
pub data SetWatched (f : List ℕ) (es : List Pattern) : List Tick → List ℕ → Type 0 where
  opened : {old s : List ℕ} → Holds f es → IsSetOpened f old s → SetWatched f es [] s
  ticked : {h : List Tick} {s s' old new : List ℕ} (t w : ℕ) → SetWatched f es h s → IsSetTicked (length es) s old t w s' new
      → SetWatched f es (h ++ ((t, w) ∷ [])) s'

-- each pattern has a part of the slice, beginning where the previous one ends: exactly the words of its state, as if it were watched alone
abbrev pub EachAlone : List Pattern → List Tick → List ℕ → Type 0
EachAlone [] h s = Unit {0}
EachAlone (e ∷ es) h s = (p : List ℕ) × (r : List ℕ) × (s ≡ p ++ r) × (length p ≡ room_of e) × Watched (encode argument_bytes e) h p × EachAlone es h r

abbrev pub SetAlone : Type 0
SetAlone = (f : List ℕ) (es : List Pattern) (h : List Tick) (s : List ℕ) → SetWatched f es h s → EachAlone es h s

-- one answer a pattern, the rules' at t in a record
abbrev pub AllLatest : Record → ℕ → List Pattern → List ℕ → Type 0
AllLatest r t [] [] = Unit {0}
AllLatest r t [] (a ∷ l) = ⊥
AllLatest r t (e ∷ es) [] = ⊥
AllLatest r t (e ∷ es) (a ∷ l) = Latest (Has r e) t a × AllLatest r t es l

-- so at each tick that rises and is in range, where the answers have room, none is refused, and each pattern's answer is the rules'
abbrev pub SetAgrees : Type 0
SetAgrees =
    (f : List ℕ) (es : List Pattern) (h : List Tick) (s : List ℕ) → SetWatched f es h s
    → (s' old new : List ℕ) (t w : ℕ) (r : Result (Unit {0}) Refusal) → next_tick 0 h ≤ t → t < ticks → length es ≤ length old
    → SetAnswers (length es) s old t w s' new r
    → (r ≡ Ok tt) × (l : List ℕ) × (new ≡ l ++ drop (length es) old) × AllLatest (record_of (h ++ ((t, w) ∷ []))) t es l

-- no second answer, slice or answers meet the promise of a set's tick
abbrev pub OneSetTick : Type 0
OneSetTick =
    (count : ℕ) (s old s' s'' new new' : List ℕ) (t w : ℕ) (r r' : Result (Unit {0}) Refusal)
    → SetAnswers count s old t w s' new r → SetAnswers count s old t w s'' new' r' → (r ≡ r') × (s' ≡ s'') × (new ≡ new')

-- no second answer and no second slice meet the promise of opening a set
abbrev pub OneSetOpening : Type 0
OneSetOpening =
    (f old new new' : List ℕ) (r r' : Result (Unit {0}) Refusal) → SetOpenAnswers f old new r → SetOpenAnswers f old new' r' → (r ≡ r') × (new ≡ new')

-- and no second answer that of its room
abbrev pub OneSetRoom : Type 0
OneSetRoom = (f : List ℕ) (r r' : Result ℕ Refusal) → SetRoomAnswers f r → SetRoomAnswers f r' → r ≡ r'
