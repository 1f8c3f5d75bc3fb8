-- What is claimed of the watcher: its reports are the rules' own (docs/RULES.md, "The algebra"), on the promises of its calls. Assumes nothing: these are definitions.
use Rattle.std.specs.Prelude.{◌≡◌, ◌↔◌, true, Result, Ok, Err, Option, Some, None, List, [], ◌∷◌, ◌++◌, ℕ, suc, ◌≤◌, ◌<◌, length, drop}
use Rattle.rules.specs.Limits.{argument_bytes, ticks}
use Rattle.rules.specs.Lists.{All}
use Rattle.rules.specs.Pattern.{Pattern}
use Rattle.rules.specs.Instances.{Has, Latest}
use Rattle.rules.specs.History.{Tick, Rising, next_tick, record_of}
use Rattle.body.specs.Claim.{BodyOf}
use Rattle.refusal.specs.declared.Refusal.{Refusal}
use Rattle.watcher.specs.State.{room_of, InForm}
use Rattle.watcher.specs.Answer.{RoomAnswers, OpenAnswers, TickAnswers}
use Rattle.watcher.specs.inner.Walk.{formed, extent}
use Rattle.watcher.specs.Feed.{paired, AllTicked, FeedAnswers}

-- a slice that was opened with a body and then only ticked: the ticks accepted so far, in order, and its words now
pub data Watched (b : List ℕ) : List Tick → List ℕ → Type 0 where
  opened : {old s : List ℕ} → OpenAnswers b old s (Ok tt) → Watched b [] s
  window : {h : List Tick} {s s' : List ℕ} (t w start : ℕ) → Watched b h s → TickAnswers s s' t w (Ok (Some start)) → Watched b (h ++ ((t, w) ∷ [])) s'
  nothing : {h : List Tick} {s s' : List ℕ} (t w : ℕ) → Watched b h s → TickAnswers s s' t w (Ok None) → Watched b (h ++ ((t, w) ∷ [])) s'

-- start + 1 of the window reported, or 0
abbrev pub reported : ℕ → Result (Option ℕ) Refusal → Type 0
reported a (Ok (Some start)) = a ≡ suc start
reported a (Ok None) = a ≡ 0
reported a (Err r) = ⊥

-- at each tick that rises and is in range the report is a window exactly if the rules have an instance ending there, and its start is the latest;
-- so no such tick is refused
abbrev pub Agrees : Type 0
Agrees =
    (b : List ℕ) (e : Pattern) → BodyOf argument_bytes b e → (h : List Tick) (s s' : List ℕ) → Watched b h s
    → (t w : ℕ) (r : Result (Option ℕ) Refusal) → next_tick 0 h ≤ t → t < ticks → TickAnswers s s' t w r
    → (a : ℕ) × reported a r × Latest (Has (record_of (h ++ ((t, w) ∷ []))) e) t a

-- and the state stays in form
abbrev pub StaysInForm : Type 0
StaysInForm = (b : List ℕ) (h : List Tick) (s : List ℕ) → Watched b h s → InForm s

-- the form judged is the form stated
abbrev pub FormedExactly : Type 0
FormedExactly = (s : List ℕ) → (formed s ≡ true) ↔ InForm s

-- words are counted exactly if the state is in form, and they are those of its pattern
abbrev pub ExtentExactly : Type 0
ExtentExactly = (s : List ℕ) → (((n : ℕ) × (extent s ≡ Some n)) ↔ InForm s) × ((f : InForm s) → extent s ≡ Some (room_of f.pattern))

-- no second answer and no second slice meet the promise of a tick
abbrev pub OneTick : Type 0
OneTick = (s s' s'' : List ℕ) (t w : ℕ) (r r' : Result (Option ℕ) Refusal) → TickAnswers s s' t w r → TickAnswers s s'' t w r' → (r ≡ r') × (s' ≡ s'')

-- no second answer and no second slice meet the promise of opening
abbrev pub OneOpening : Type 0
OneOpening =
    (b old new new' : List ℕ) (r r' : Result (Unit {0}) Refusal) → OpenAnswers b old new r → OpenAnswers b old new' r' → (r ≡ r') × (new ≡ new')

-- and no second answer that of the room
abbrev pub OneRoom : Type 0
OneRoom = (b : List ℕ) (r r' : Result ℕ Refusal) → RoomAnswers b r → RoomAnswers b r' → r ≡ r'

-- feeding is watching: ticks taken one after the other are added to the history
abbrev pub FedWatched : Type 0
FedWatched = (b : List ℕ) (h k : List Tick) (s s' l : List ℕ) → Watched b h s → AllTicked s k l s' → Watched b (h ++ k) s'

-- an answer for each tick, the rules' in the record up to it
abbrev pub AllRight : Pattern → List Tick → List Tick → List ℕ → Type 0
AllRight e h [] [] = Unit {0}
AllRight e h [] (a ∷ l) = ⊥
AllRight e h (k ∷ ks) [] = ⊥
AllRight e h (k ∷ ks) (a ∷ l) = Latest (Has (record_of (h ++ (k ∷ []))) e) k.0 a × AllRight e (h ++ (k ∷ [])) ks l

-- ticks that rise and are in range, as many as their events, with room for their answers, are not refused, and their answers are the rules'
abbrev pub FedAgrees : Type 0
FedAgrees =
    (b : List ℕ) (e : Pattern) → BodyOf argument_bytes b e → (h : List Tick) (s s' : List ℕ) → Watched b h s
    → (ts ws old new : List ℕ) (r : Result (Unit {0}) Refusal) → length ts ≡ length ws → length ts ≤ length old
    → Rising (next_tick 0 h) (paired ts ws) → All (λ t. t < ticks) ts → FeedAnswers s ts ws old s' new r
    → (r ≡ Ok tt) × (l : List ℕ) × (new ≡ l ++ drop (length ts) old) × AllRight e h (paired ts ws) l

-- and no second answer, slice or answers meet the promise of feeding
abbrev pub OneFeeding : Type 0
OneFeeding =
    (s ts ws old s' s'' new new' : List ℕ) (r r' : Result (Unit {0}) Refusal) → FeedAnswers s ts ws old s' new r → FeedAnswers s ts ws old s'' new' r'
    → (r ≡ r') × (s' ≡ s'') × (new ≡ new')
