-- A tick's promise, from what the code computes: the form judged, the next tick allowed, and the walk over the entries.
-- Two states in form with the same words give the same answer and the same words, as the walk goes by the words alone. Assumes nothing.
use Rattle.std.specs.Prelude.{None, Ok, Option, Some}
use Rattle.std.specs.Option.{SomeIff}
use Prim.Native.Nat.{ℕ, suc, ◌-◌, ◌≤◌, ◌<◌}
use mathlib.Core.Path.{◌≡◌, refl, sym, ap, subst, ◌∙◌}
use mathlib.Core.Bool.{true, false}
use mathlib.Core.List.{List, [], ◌∷◌, ◌++◌}
use native.Mathlib.Numerals.{add-one}
use native.Mathlib.Omega.{arith}
use Rattle.rules.proofs.Impossible.{impossible}
use Rattle.rules.specs.Limits.{ticks}
use Rattle.detector.specs.Step.{answer, next}
use Rattle.refusal.specs.declared.Refusal.TheVariants.{State, Late}
use Rattle.watcher.specs.State.{next_of, cells, state_of, InForm}
use Rattle.watcher.specs.Answer.{TickReady, IsTicked, TickRefused, broken, below, TickAnswers}
use Rattle.watcher.specs.inner.Walk.{Value, Cells, tick_m, formed, ticked, last_answer, answer_of, words_after}
use Rattle.watcher.specs.inner.Step.{StepsReady, StepsDone}
use Rattle.watcher.proofs.Entries.{run_tree}
use Rattle.watcher.proofs.States.{state_parts, next_word, entries_read, cells_from, front_words}
use Rattle.watcher.proofs.Judges.{formed_exactly}
use Rattle.watcher.proofs.Ticks.{value_of, tick_tree}

-- the walk over a state in form
module _ {s : List ℕ} (f : InForm s) (t w : ℕ) (k : f.next ≤ t) where
  pub ticked_in_form : ticked t w s
      ≡ (value_of f.pattern f.memory t w ∷ [], (cells f.pattern (next f.pattern f.memory t w), f.beyond))
  unfolding ticked
  ticked_in_form =
      rw (entries_read f, cells_from f)
      (run_tree (tick_m t w) f.pattern ([], cells f.pattern f.memory ++ f.beyond)
      ∙ ap (λ (r : Value × Cells). (r.0 ∷ [], r.1)) (tick_tree f.next f.pattern f.memory t w k f.form [] f.beyond))

  pub answer_in_form : answer_of t w s ≡ answer f.pattern f.memory t w
  unfolding answer_of
  answer_in_form = ap (λ (r : List Value × Cells). last_answer r.0) ticked_in_form

  pub words_in_form : words_after t w s ≡ state_of f.pattern (suc t) (next f.pattern f.memory t w) ++ f.beyond
  unfolding words_after
  words_in_form =
      rw (ticked_in_form, front_words f, add-one t) (sym (state_parts f.pattern (suc t) (next f.pattern f.memory t w) f.beyond))

-- an accepted tick has the walk's answer, and leaves the walk's words
pub ticked_as_walked : {s s' : List ℕ} {t w a : ℕ} → IsTicked s s' t w a → (a ≡ answer_of t w s) × (s' ≡ words_after t w s)
ticked_as_walked {s} {s'} {t} {w} {a} i =
    (i.answered ∙ sym (answer_in_form i.form t w i.late), i.words ∙ sym (words_in_form i.form t w i.late))

-- what the code tests and computes is what is promised
pub tick_ready : {s : List ℕ} {t : ℕ} → t < ticks → formed s ≡ true → next_of s ≤ t → TickReady s t
tick_ready {s} r q l =
    let f : InForm s = (formed_exactly s).0 q in
    record { form = f; late = omega (arith, next_word f); range = r }

pub steps_ready : {s : List ℕ} {t : ℕ} → TickReady s t → StepsReady s t
steps_ready {s} x = record { form = (formed_exactly s).1 x.form; late = omega (arith, next_word x.form, x.late); range = x.range }

pub steps_ticked : {s s' : List ℕ} {t w a : ℕ} → TickReady s t → StepsDone s t w s' a → IsTicked s s' t w a
steps_ticked {s} {s'} {t} {w} {a} x d =
    let f : InForm s = x.form in
    record {
      range = x.range;
      form = f;
      late = x.late;
      answered = d.answer ∙ answer_in_form f t w x.late;
      words = d.words ∙ words_in_form f t w x.late;
    }

pub ticked_answers : {s s' : List ℕ} {t w a : ℕ} → IsTicked s s' t w a → (r : Option ℕ) → SomeIff r (1 ≤ a) (a - 1) → TickAnswers s s' t w (Ok r)
ticked_answers {s} {s'} {t} {w} {a} i None h = let e : a ≡ 0 = omega arith in subst (IsTicked s s' t w) e i
ticked_answers {s} {s'} {t} {w} {a} i (Some n) h = let e : a ≡ suc n = omega arith in subst (IsTicked s s' t w) e i

pub walked_as_ticked : (s : List ℕ) (t w : ℕ) → t < ticks → formed s ≡ true → next_of s ≤ t → IsTicked s (words_after t w s) t w (answer_of t w s)
walked_as_ticked s t w r q l = steps_ticked (tick_ready r q l) (record { answer = refl; words = refl })

pub refused_form : (s : List ℕ) (t : ℕ) → t < ticks → formed s ≡ false → TickRefused s t (State 0)
refused_form s t r q =
    broken r (λ f. let e : formed s ≡ true = (formed_exactly s).1 f in impossible cc) refl

pub refused_late : (s : List ℕ) (t : ℕ) → t < ticks → formed s ≡ true → t < next_of s → TickRefused s t (Late 0)
refused_late s t r q l =
    let f : InForm s = (formed_exactly s).0 q in
    below r f (omega (arith, next_word f)) refl
