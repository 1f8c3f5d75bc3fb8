-- Each claim of specs/Claim, proved: the promise behind a call gives one answer, and the number and the status word follow from the answer.
-- Assumes nothing.
use Rattle.std.specs.Prelude.{Result}
use Rattle.refusal.specs.declared.Refusal.{Refusal}
use mathlib.Core.Path.{◌≡◌, refl, sym, ap, ap₂, ◌∙◌}
use mathlib.Core.List.{List}
use Prim.Native.Nat.{ℕ}
use Rattle.text.proofs.Decided.{one_reading, one_printing}
use Rattle.file.specs.Contents.{file_of}
use Rattle.file.specs.Write.{after}
use Rattle.plain.specs.Claim.{start_number}
use Rattle.plain.proofs.Theorem.{one_answer, one_start}
use Rattle.watcher.proofs.Theorem.{one_tick, one_opening, one_room}
use Rattle.watcher.proofs.Fed.{one_feeding}
use Rattle.set.proofs.Theorem.{one_set_tick, one_set_opening, one_set_room}
use Rattle.mws.specs.Status.{Outcome, status_of, number_after, Told, done}
use Rattle.mws.specs.Claim.{OneOutcome, CallsFixed, OnePlain, OneRowLatest}

-- what follows from equal answers is equal
same : {A B : Type 0} (f : A → B) {a₁ a₂ : A} {x₁ x₂ : B} → a₁ ≡ a₂ → x₁ ≡ f a₁ → x₂ ≡ f a₂ → x₁ ≡ x₂
same f e p q = p ∙ ap f e ∙ sym q

-- so are the number lent and the status word
told_alike : {A : Type 0} (view : A → Outcome) {P Q : A → Type 0} (n n₁ n₂ w₁ w₂ : ℕ) (x : Told view P n n₁ w₁) (y : Told view Q n n₂ w₂)
    → x.answer ≡ y.answer → (n₁ ≡ n₂) × (w₁ ≡ w₂)
told_alike {A} view n n₁ n₂ w₁ w₂ x y e = (
  same (λ (a : A). number_after (view a) n) e x.lent y.lent,
  same (λ (a : A). status_of (view a)) e x.word y.word,
)

pub one_outcome : OneOutcome
one_outcome A B view P fixed b b' n n₁ n₂ w₁ w₂ x y =
    let k = fixed b b' x.answer y.answer x.promise y.promise in
    let t = told_alike view n n₁ n₂ w₁ w₂ x y k.1 in
    (k.0, t.0, t.1)

pub calls_fixed : CallsFixed
calls_fixed = record {
  text_read = λ s d b b' a a' x y. let k = one_reading s d b b' a a' x y in (k.1, k.0);
  text_print = λ s d b b' a a' x y. let k = one_printing s d b b' a a' x y in (k.1, k.0);
  file_write = λ names counts bodies old b b' a a' x y.
      let e : a ≡ a' = x.answer ∙ sym y.answer in
      (same (λ (r : Result ℕ Refusal). after r (file_of names counts bodies) old) e x.later y.later, e);
  watch_room = λ b u u' a a' x y. (refl, one_room b a a' x y);
  watch_open = λ b old s s' a a' x y. let k = one_opening b old s s' a a' x y in (k.1, k.0);
  watch_tick = λ s t w s₁ s₂ a a' x y. let k = one_tick s s₁ s₂ t w a a' x y in (k.1, k.0);
  watch_feed = λ s ts ws old l l' a a' x y.
      let k = one_feeding s ts ws old l.0 l'.0 l.1 l'.1 a a' x y in (ap₂ (λ (p q : List ℕ). (p, q)) k.1 k.2, k.0);
  set_room = λ f u u' a a' x y. (refl, one_set_room f a a' x y);
  set_open = λ f old s s' a a' x y. let k = one_set_opening f old s s' a a' x y in (k.1, k.0);
  set_tick = λ count s old t w l l' a a' x y.
      let k = one_set_tick count s old l.0 l'.0 l.1 l'.1 t w a a' x y in (ap₂ (λ (p q : List ℕ). (p, q)) k.1 k.2, k.0);
}

pub one_plain : OnePlain
one_plain b words old new₁ new₂ w₁ w₂ bytes u₁ u₂ x y =
    let k = one_answer b words old new₁ new₂ x.answer y.answer bytes u₁ u₂ x.promise y.promise in
    (k.1, (told_alike done 0 0 0 w₁ w₂ x y k.0).1)

pub one_row_latest : OneRowLatest
one_row_latest row n₁ n₂ x y =
    same start_number (one_start row x.start y.start x.promise y.promise) x.number y.number
