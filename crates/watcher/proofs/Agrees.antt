-- A slice that was opened and then only ticked holds the memory that the detector's run leaves, so its answers are the rules'.
-- Assumes nothing.
use Rattle.std.specs.Prelude.{Err, None, Ok, Option, Result, Some}
use Prim.Native.Nat.{ℕ, suc, ◌≤◌, ◌<◌}
use mathlib.Core.Path.{◌≡◌, refl, sym, ap, subst, ◌∙◌}
use mathlib.Core.List.{List, [], ◌∷◌, ◌++◌}
use native.Mathlib.Omega.{arith}
use lib.ListN.{drop}
use Rattle.rules.specs.Limits.{argument_bytes, ticks}
use Rattle.rules.specs.Pattern.{Pattern}
use Rattle.rules.specs.Instances.{Has, Latest}
use Rattle.rules.specs.History.{Tick, Rising, next_tick, record_of}
use Rattle.detector.specs.Run.{run_from, run}
use Rattle.detector.proofs.Run.{run_form, run_snoc}
use Rattle.detector.proofs.History.{next_tick_snoc, rising_snoc}
use Rattle.detector.proofs.Theorem.{right}
use Rattle.body.specs.Postfix.{Bodied}
use Rattle.body.specs.Claim.{BodyOf}
use Rattle.body.proofs.Bodies.{one_pattern}
use Rattle.refusal.specs.declared.Refusal.{Refusal}
use Rattle.watcher.specs.State.{next_of, state_of, room_of, InForm}
use Rattle.watcher.specs.Answer.{IsOpened, IsTicked, TickRefused, over, broken, below, TickAnswers}
use Rattle.watcher.specs.Claim.{Watched, opened, window, nothing, reported}
use Rattle.watcher.proofs.States.{next_word}
use Rattle.watcher.proofs.Calls.{answer_in_form, words_in_form, ticked_as_walked}

-- a state in form has one next tick allowed
same_next : {s : List ℕ} (f g : InForm s) → f.next ≡ g.next
same_next f g = sym (next_word f) ∙ next_word g

-- a tick is not both accepted and refused
pub never_both : {s s' : List ℕ} {t w a : ℕ} {r : Refusal} → IsTicked s s' t w a → TickRefused s t r → ⊥
never_both i (over h q) = omega (arith, i.range)
never_both i (broken h n q) = n i.form
never_both i (below h f l q) = omega (arith, i.late, same_next f i.form)

-- the words that a history leaves of the pattern e
pub record Reached (e : Pattern) (h : List Tick) (s : List ℕ) : Type 0 where
  pub beyond : List ℕ
  pub rising : Rising 0 h
  pub early : next_tick 0 h ≤ ticks
  pub same : s ≡ state_of e (next_tick 0 h) (run e h) ++ beyond

abbrev pub reached_form : {e : Pattern} {h : List Tick} {s : List ℕ} → Bodied argument_bytes e → Reached e h s → InForm s
reached_form {e} {h} b r = record {
  pattern = e;
  next = next_tick 0 h;
  memory = run e h;
  beyond = r.beyond;
  bodied = b;
  early = r.early;
  form = run_form e h r.rising;
  same = r.same;
}

reached_next : {e : Pattern} {h : List Tick} {s : List ℕ} → Reached e h s → (f : InForm s) → f.next ≡ next_tick 0 h
reached_next r f = sym (next_word f) ∙ ap next_of r.same

-- opened, the words are those of no tick
reached_opened : (e : Pattern) (b old s : List ℕ) → BodyOf argument_bytes b e → IsOpened b old s → Reached e [] s
unfolding run run_from
reached_opened e b old s w o =
    subst (λ (q : Pattern). Reached q [] s) (one_pattern argument_bytes (omega arith) b o.pattern e o.body w)
    (record { beyond = drop (room_of o.pattern) old; rising = tt; early = omega arith; same = o.words })

-- and each accepted tick makes them those of one tick more
reached_ticked : {e : Pattern} {h : List Tick} {s s' : List ℕ} {t w a : ℕ} → Bodied argument_bytes e → Reached e h s → IsTicked s s' t w a
    → Reached e (h ++ ((t, w) ∷ [])) s'
reached_ticked {e} {h} {s} {s'} {t} {w} {a} b r i =
    let f : InForm s = reached_form b r in
    let late : next_tick 0 h ≤ t = omega (arith, i.late, reached_next r i.form) in
    record {
      beyond = r.beyond;
      rising = rising_snoc 0 h (t, w) r.rising late;
      early = omega (arith, next_tick_snoc 0 h (t, w), i.range);
      same = (ticked_as_walked i).1 ∙ rw (next_tick_snoc 0 h (t, w), run_snoc e h (t, w)) (words_in_form f t w late);
    }

pub watched_reached : (b : List ℕ) (e : Pattern) → BodyOf argument_bytes b e → {h : List Tick} {s : List ℕ} → Watched b h s → Reached e h s
watched_reached b e w (opened {old} {s} o) = reached_opened e b old s w o
watched_reached b e w (window t v start x i) = reached_ticked w.bodied (watched_reached b e w x) i
watched_reached b e w (nothing t v x i) = reached_ticked w.bodied (watched_reached b e w x) i

-- so the answer at a tick is the rules'
ticked_right : {e : Pattern} {h : List Tick} {s s' : List ℕ} {t w a : ℕ} → Bodied argument_bytes e → Reached e h s → IsTicked s s' t w a
    → Latest (Has (record_of (h ++ ((t, w) ∷ []))) e) t a
ticked_right {e} {h} {s} {s'} {t} {w} {a} b r i =
    let f : InForm s = reached_form b r in
    let late : next_tick 0 h ≤ t = omega (arith, i.late, reached_next r i.form) in
    rw ((ticked_as_walked i).0, answer_in_form f t w late) (right e h t w (rising_snoc 0 h (t, w) r.rising late))

-- and a tick that is allowed and in range is not refused
not_refused : {e : Pattern} {h : List Tick} {s : List ℕ} {t : ℕ} {r : Refusal} → Bodied argument_bytes e → Reached e h s
    → next_tick 0 h ≤ t → t < ticks → TickRefused s t r → ⊥
not_refused b x l k (over h q) = omega arith
not_refused b x l k (broken h n q) = n (reached_form b x)
not_refused b x l k (below h f m q) = omega (arith, reached_next x f)

pub reached_answers : {e : Pattern} {h : List Tick} {s : List ℕ} (s' : List ℕ) (t w : ℕ) (r : Result (Option ℕ) Refusal) → Bodied argument_bytes e → Reached e h s
    → next_tick 0 h ≤ t → t < ticks → TickAnswers s s' t w r
    → (a : ℕ) × reported a r × Latest (Has (record_of (h ++ ((t, w) ∷ []))) e) t a
reached_answers s' t w (Ok (Some start)) b x l k i = (suc start, refl, ticked_right b x i)
reached_answers s' t w (Ok None) b x l k i = (0, refl, ticked_right b x i)
reached_answers s' t w (Err r) b x l k i = absurd (not_refused b x l k i.0)
