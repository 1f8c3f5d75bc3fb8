-- Many ticks: a state stays in form after each, so all are taken if none is over the limit or below the next allowed; and a turn of the loop that
-- takes them leads to the end of all. Assumes nothing.
use Rattle.std.specs.Prelude.{Err, Ok}
use Prim.Native.Nat.{ℕ, suc, ◌+◌, ◌≤◌, ◌<◌}
use mathlib.Core.Path.{◌≡◌, refl, sym, ◌∙◌}
use mathlib.Core.Bool.{true, false}
use mathlib.Core.List.{List, [], ◌∷◌, ◌++◌, append_assoc, append-nil}
use native.Mathlib.Decide.{dec_le, dec_lt}
use native.Mathlib.Numerals.{add-one}
use native.Mathlib.Omega.{arith}
use lib.ListN.{length, get_or, take, drop, set, length-set, take-append-drop, drop_of_length-le}
use lib.Seq.{drop-cons, drop-set-lt, take-suc-set}
use Rattle.rules.proofs.Lists.{drop_at}
use Rattle.rules.proofs.Impossible.{impossible}
use Rattle.rules.specs.Decisions.{pick}
use Rattle.rules.specs.Limits.{ticks}
use Rattle.rules.proofs.Decisions.{pick_yes, pick_no}
use Rattle.detector.specs.Step.{next}
use Rattle.detector.proofs.Form.{in_form}
use Rattle.refusal.specs.declared.Refusal.{Refusal}
use Rattle.refusal.specs.declared.Refusal.TheVariants.{State, Range, Late}
use Rattle.watcher.specs.State.{next_of, InForm}
use Rattle.watcher.specs.Answer.{IsTicked}
use Rattle.watcher.specs.inner.Walk.{formed, answer_of, words_after, answers_fed, words_fed}
use Rattle.watcher.specs.Feed.{paired, AllTicked, none, more, first_fault, IsFed, FeedRefused, broken, faulty}
use Rattle.watcher.specs.inner.Step.{StepsReady, FeedReady, FeedDone}
use Rattle.watcher.proofs.States.{next_word}
use Rattle.watcher.proofs.Judges.{formed_exactly}
use Rattle.watcher.proofs.Calls.{walked_as_ticked}

-- a state stays in form
abbrev pub ticked_form : {s s' : List ℕ} {t w a : ℕ} → IsTicked s s' t w a → InForm s'
ticked_form {s} {s'} {t} {w} {a} i =
    let f : InForm s = i.form in
    record {
      pattern = f.pattern;
      next = suc t;
      memory = next f.pattern f.memory t w;
      beyond = f.beyond;
      bodied = f.bodied;
      early = omega (arith, i.range);
      form = in_form t w f.next i.late f.pattern f.memory f.form;
      same = i.words;
    }

-- the walk of a tick leaves a state in form, and the next tick allowed
module _ (s : List ℕ) (t w : ℕ) (r : t < ticks) (q : formed s ≡ true) (l : next_of s ≤ t) where
  pub walked_formed : formed (words_after t w s) ≡ true
  walked_formed = (formed_exactly (words_after t w s)).1 (ticked_form (walked_as_ticked s t w r q l))

  pub walked_next : get_or (words_after t w s) 1 0 ≡ t + 1
  walked_next = next_word (ticked_form (walked_as_ticked s t w r q l)) ∙ sym (add-one t)

-- a first tick without fault: it is in range and allowed, and so on
record Faultless (i τ t : ℕ) (ts : List ℕ) : Type 0 where
  range : t < ticks
  late : τ ≤ t
  rest : first_fault (i + 1) (t + 1) ts ≡ Ok tt

faultless : (i τ t : ℕ) (ts : List ℕ) → first_fault i τ (t ∷ ts) ≡ Ok tt → Faultless i τ t ts
unfolding first_fault
faultless i τ t ts q = go (dec_le ticks t) (dec_lt t τ) q
  where
    go : (d : Dec (ticks ≤ t)) (e : Dec (t < τ)) → pick d (Err (Range i)) (pick e (Err (Late i)) (first_fault (i + 1) (t + 1) ts)) ≡ Ok tt
        → Faultless i τ t ts
    go (yes h) e q = impossible cc
    go (no h) (yes l) q = impossible cc
    go (no h) (no l) q = record { range = omega arith; late = omega arith; rest = q }

-- the first tick's fault, by a loop's tests
module _ (ts : List ℕ) (i τ : ℕ) where
  pub fault_end : length ts ≤ i → first_fault i τ (drop i ts) ≡ Ok tt
  unfolding first_fault
  fault_end h = rw (drop_of_length-le ts h)

  module _ (h : i < length ts) where
    pub fault_range : ticks ≤ get_or ts i 0 → first_fault i τ (drop i ts) ≡ Err (Range i)
    unfolding first_fault
    fault_range k = rw (drop_at ts i h) (pick_yes (dec_le ticks (get_or ts i 0)) _ _ k)

    pub fault_late : get_or ts i 0 < ticks → get_or ts i 0 < τ → first_fault i τ (drop i ts) ≡ Err (Late i)
    unfolding first_fault
    fault_late k l = rw (drop_at ts i h) (pick_no (dec_le ticks (get_or ts i 0)) _ _ (λ z. omega arith) ∙ pick_yes (dec_lt (get_or ts i 0) τ) _ _ l)

    pub fault_none : get_or ts i 0 < ticks → τ ≤ get_or ts i 0 → first_fault i τ (drop i ts) ≡ first_fault (i + 1) (get_or ts i 0 + 1) (drop (i + 1) ts)
    unfolding first_fault
    fault_none k l = rw (drop_at ts i h) (pick_no (dec_le ticks (get_or ts i 0)) _ _ (λ z. omega arith) ∙ pick_no (dec_lt (get_or ts i 0) τ) _ _ (λ z. omega arith))

-- so all are taken
pub all_ticked : (ts ws s : List ℕ) (i : ℕ) → length ts ≡ length ws → formed s ≡ true → first_fault i (next_of s) ts ≡ Ok tt
    → AllTicked s (paired ts ws) (answers_fed (paired ts ws) s) (words_fed (paired ts ws) s)
unfolding paired answers_fed words_fed
all_ticked [] ws s i e f q = none
all_ticked (t ∷ ts) [] s i e f q = absurd (omega arith)
all_ticked (t ∷ ts) (w ∷ ws) s i e f q =
    let x = faultless i (next_of s) t ts q in
    more t w (answer_of t w s) (walked_as_ticked s t w x.range f x.late)
    (all_ticked ts ws (words_after t w s) (i + 1) (omega arith) (walked_formed s t w x.range f x.late)
    (rw (walked_next s t w x.range f x.late) x.rest))

-- before tick i: s is the state and new the answers, so far
pub record Feeds (s₀ ts ws old s new : List ℕ) (i : ℕ) : Type 0 where
  pub inside : i ≤ length ts
  pub state_long : length s ≡ length s₀
  pub long : length new ≡ length old
  pub form : formed s ≡ true
  pub sound : first_fault i (next_of s) (drop i ts) ≡ Ok tt
  pub words : words_fed (paired (drop i ts) (drop i ws)) s ≡ words_fed (paired ts ws) s₀
  pub answers : take i new ++ answers_fed (paired (drop i ts) (drop i ws)) s ≡ answers_fed (paired ts ws) s₀
  pub kept : drop (length ts) new ≡ drop (length ts) old

pub feeds_start : {s ts ws old : List ℕ} → FeedReady s ts ws old → Feeds s ts ws old s old 0
feeds_start r = record {
  inside = omega arith;
  state_long = refl;
  long = refl;
  form = r.form;
  sound = r.sound;
  words = refl;
  answers = refl;
  kept = refl;
}

module _ {s₀ ts ws old s new : List ℕ} {i : ℕ} (r : FeedReady s₀ ts ws old) (x : Feeds s₀ ts ws old s new i) where
  -- the end
  pub feeds_end : length ts ≤ i → FeedDone s₀ ts ws old s new
  unfolding paired answers_fed words_fed
  feeds_end h =
      let e : i ≡ length ts = omega (arith, x.inside) in
      let d : drop i ts ≡ [] = drop_of_length-le ts h in
      let a : take i new ≡ answers_fed (paired ts ws) s₀ = sym (append-nil (take i new)) ∙ rw d at x.answers in
      record {
        words = rw d at x.words;
        answers = sym (take-append-drop (length ts) new) ∙ rw (x.kept, ← e, a);
      }

  module _ (h : i < length ts) where
    first : Faultless i (next_of s) (get_or ts i 0) (drop (i + 1) ts)
    first = faultless i (next_of s) (get_or ts i 0) (drop (i + 1) ts) (rw (drop_at ts i h) at x.sound)

    pairs : paired (drop i ts) (drop i ws) ≡ (get_or ts i 0, get_or ws i 0) ∷ paired (drop (i + 1) ts) (drop (i + 1) ws)
    unfolding paired
    pairs = let k : i < length ws = omega (arith, r.even) in rw (add-one i, drop-cons ts i 0 h, drop-cons ws i 0 k)

    -- the next tick may be taken
    pub feeds_ready : StepsReady s (get_or ts i 0)
    feeds_ready = record { form = x.form; late = first.late; range = first.range }

    -- a tick is taken, and its answer written
    pub feeds_more : (s' : List ℕ) (a : ℕ) → length s' ≡ length s → a ≡ answer_of (get_or ts i 0) (get_or ws i 0) s
        → s' ≡ words_after (get_or ts i 0) (get_or ws i 0) s
        → Feeds s₀ ts ws old s' (set new i a) (i + 1)
    unfolding answers_fed words_fed
    feeds_more s' a l p q =
        let k : i < length new = omega (arith, x.long, r.room) in
        record {
          inside = omega arith;
          state_long = l ∙ x.state_long;
          long = length-set new i a ∙ x.long;
          form = rw q (walked_formed s (get_or ts i 0) (get_or ws i 0) first.range x.form first.late);
          sound = rw (q, walked_next s (get_or ts i 0) (get_or ws i 0) first.range x.form first.late) first.rest;
          words = rw q (rw pairs at x.words);
          answers =
              rw (add-one i, take-suc-set new i a k, append_assoc (take i new) (a ∷ []), ← add-one i, p, q) (rw pairs at x.answers);
          kept = drop-set-lt (length ts) new i a h ∙ x.kept;
        }

-- the ways that feeding goes, from what the code tests and calls
pub fed_all : {s ts ws old s' new : List ℕ} → FeedReady s ts ws old → FeedDone s ts ws old s' new → IsFed s ts ws old s' new
fed_all {s} {ts} {ws} {old} {s'} {new} r d = record {
  even = r.even;
  room = r.room;
  form = (formed_exactly s).0 r.form;
  answers = answers_fed (paired ts ws) s;
  taken = rw d.words (all_ticked ts ws s 0 r.even r.form r.sound);
  words = d.answers;
}

module _ (s ts ws old : List ℕ) (even : length ts ≡ length ws) (room : length ts ≤ length old) where
  pub fed_broken : formed s ≡ false → FeedRefused s ts ws old (State 0)
  fed_broken q =
      broken even room (λ f. let e : formed s ≡ true = (formed_exactly s).1 f in impossible cc) refl

  pub fed_faulty : formed s ≡ true → (r : Refusal) → first_fault 0 (next_of s) ts ≡ Err r → FeedRefused s ts ws old r
  fed_faulty q r e = let f : InForm s = (formed_exactly s).0 q in faulty even room f (rw (next_word f) at e)
