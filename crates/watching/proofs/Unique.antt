-- The promises leave no choice: each follows from the answers of reading, opening, ticking and adding, which are unique. Assumes nothing.
use Rattle.std.specs.Prelude.{Ok, Err, Some, None, Result, Option}
use Prim.Native.Nat.{ℕ}
use mathlib.Core.Path.{◌≡◌, refl, sym, ap, ◌∙◌}
use mathlib.Core.List.{List, ◌++◌}
use lib.ListN.{take, drop}
use native.Mathlib.Omega.{arith}
use Rattle.rules.proofs.Impossible.{impossible}
use Rattle.text.specs.Answer.{ReadingOf}
use Rattle.text.proofs.Theorem as Texts
use Rattle.watcher.specs.Answer.{OpenAnswers, TickAnswers}
use Rattle.watcher.proofs.Theorem.{one_opening, one_tick}
use Rattle.line.specs.Answer.{LineReadOf, IsWritten}
use Rattle.line.proofs.Theorem as Lined
use Rattle.watching.specs.declared.Run.{Run}
use Rattle.watching.specs.Runs.{next_run}
use Rattle.watching.specs.Answer.{no_body, FirstLine, FurtherLine, Acted, LineTaken, refusing}
use Rattle.watching.specs.Answer.FirstLine.{unread as no_text, unopened, opened}
use Rattle.watching.specs.Answer.FurtherLine.{unread as no_tick, unticked, window, nothing}
use Rattle.watching.specs.Answer.Acted.{silent, added, full, refused}
use Rattle.watching.specs.Answer.LineTaken.{first, further, after}
use Rattle.line.specs.declared.Tick.{Tick}
use Rattle.refusal.specs.declared.Refusal.{Refusal}
use Rattle.watching.specs.Answer.{LineAnswer}

-- ---- line 1

opening_of : Result (Unit {0}) Refusal → LineAnswer
opening_of (Ok _) = Ok None
opening_of (Err r) = Err r

-- what follows on the text's reading
abbrev opens_by : Result ℕ Refusal → List ℕ → List ℕ → List ℕ → LineAnswer → Type 0
opens_by (Ok n) body s s' a = (o : Result (Unit {0}) Refusal) × OpenAnswers (take n body) s s' o × (a ≡ opening_of o)
opens_by (Err r) body s s' a = (a ≡ Err r) × (s' ≡ s)

record By-text (l s s' : List ℕ) (a : LineAnswer) : Type 0 where
  reading : Result ℕ Refusal
  body : List ℕ
  read : ReadingOf l no_body body reading
  opens : opens_by reading body s s' a

by_text : {l s s' : List ℕ} {a : LineAnswer} → FirstLine l s s' a → By-text l s s' a
unfolding opening_of
by_text (no_text {body} {r} x e) = record { reading = Err r; body = body; read = x; opens = (refl, e) }
by_text (unopened {body} {bytes} {r} x y) = record { reading = Ok bytes; body = body; read = x; opens = (Err r, y, refl) }
by_text (opened {body} {bytes} x y) = record { reading = Ok bytes; body = body; read = x; opens = ((Ok tt), y, refl) }

one_opens : (r : Result ℕ Refusal) (body s s₁ s₂ : List ℕ) (a₁ a₂ : LineAnswer) → opens_by r body s s₁ a₁ → opens_by r body s s₂ a₂ → (a₁ ≡ a₂) × (s₁ ≡ s₂)
one_opens (Ok n) body s s₁ s₂ a₁ a₂ (o, x, e) (o', x', e') =
    let u = one_opening (take n body) s s₁ s₂ o o' x x' in
    (e ∙ ap opening_of u.0 ∙ sym e', u.1)
one_opens (Err r) body s s₁ s₂ a₁ a₂ (e, k) (e', k') = (e ∙ sym e', k ∙ sym k')

one_first : {l s s₁ s₂ : List ℕ} {a₁ a₂ : LineAnswer} → FirstLine l s s₁ a₁ → FirstLine l s s₂ a₂ → (a₁ ≡ a₂) × (s₁ ≡ s₂)
one_first {l} {s} {s₁} {s₂} {a₁} {a₂} x y =
    let i = by_text x in
    let j = by_text y in
    let u = Texts.one_reading l no_body j.body i.body j.reading i.reading j.read i.read in
    one_opens i.reading i.body s s₁ s₂ a₁ a₂ i.opens (rw (u.0, u.1) at j.opens)

-- ---- a further line

ticking_of : ℕ → Result (Option ℕ) Refusal → LineAnswer
ticking_of t (Ok (Some start)) = Ok (Some (start, t))
ticking_of t (Ok None) = Ok None
ticking_of t (Err r) = Err r

-- what follows on the line's reading
abbrev ticks_by : Result Tick Refusal → List ℕ → List ℕ → LineAnswer → Type 0
ticks_by (Ok k) s s' a = (o : Result (Option ℕ) Refusal) × TickAnswers s s' k.t k.events o × (a ≡ ticking_of k.t o)
ticks_by (Err r) s s' a = (a ≡ Err r) × (s' ≡ s)

record By-line (l s s' : List ℕ) (a : LineAnswer) : Type 0 where
  reading : Result Tick Refusal
  read : LineReadOf l reading
  ticks : ticks_by reading s s' a

by_line : {l s s' : List ℕ} {a : LineAnswer} → FurtherLine l s s' a → By-line l s s' a
unfolding ticking_of
by_line (no_tick {r} x e) = record { reading = Err r; read = x; ticks = (refl, e) }
by_line (unticked {t} {w} {r} x y) = record { reading = Ok (record { t = t; events = w }); read = x; ticks = (Err r, y, refl) }
by_line (window {t} {w} {start} x y) = record { reading = Ok (record { t = t; events = w }); read = x; ticks = (Ok (Some start), y, refl) }
by_line (nothing {t} {w} x y) = record { reading = Ok (record { t = t; events = w }); read = x; ticks = ((Ok None), y, refl) }

one_ticks : (r : Result Tick Refusal) (s s₁ s₂ : List ℕ) (a₁ a₂ : LineAnswer) → ticks_by r s s₁ a₁ → ticks_by r s s₂ a₂ → (a₁ ≡ a₂) × (s₁ ≡ s₂)
one_ticks (Ok k) s s₁ s₂ a₁ a₂ (o, x, e) (o', x', e') =
    let u = one_tick s s₁ s₂ k.t k.events o o' x x' in
    (e ∙ ap (ticking_of k.t) u.0 ∙ sym e', u.1)
one_ticks (Err r) s s₁ s₂ a₁ a₂ (e, k) (e', k') = (e ∙ sym e', k ∙ sym k')

one_further : {l s s₁ s₂ : List ℕ} {a₁ a₂ : LineAnswer} → FurtherLine l s s₁ a₁ → FurtherLine l s s₂ a₂ → (a₁ ≡ a₂) × (s₁ ≡ s₂)
one_further {l} {s} {s₁} {s₂} {a₁} {a₂} x y =
    let i = by_line x in
    let j = by_line y in
    let u = Lined.one_reading l j.reading i.reading j.read i.read in
    one_ticks i.reading s s₁ s₂ a₁ a₂ i.ticks (rw u at j.ticks)

-- ---- the run and the bytes

one_acted : {run run₁ run₂ : Run} {a : LineAnswer} {b₁ b₂ : List ℕ} → Acted run a run₁ b₁ → Acted run a run₂ b₂ → (run₁ ≡ run₂) × (b₁ ≡ b₂)
one_acted silent silent = (refl, refl)
one_acted {run} (added {tally = tally} e) (added {tally = tally'} e') =
    let same : tally ≡ tally' = cc in
    (ap (next_run run) same, refl)
one_acted (added e) (full e') = impossible cc
one_acted (full e) (added e') = impossible cc
one_acted {run} (full {r = r} e) (full {r = r'} e') =
    let same : r ≡ r' = cc in
    (refl, ap (refusing run) same)
one_acted refused refused = (refl, refl)

-- the bytes, and what is there before, fix what is written
pub one_written : (bytes d d₁ d₂ : List ℕ) (n₁ n₂ : ℕ) → IsWritten bytes d d₁ n₁ → IsWritten bytes d d₂ n₂ → (n₁ ≡ n₂) × (d₁ ≡ d₂)
one_written bytes d d₁ d₂ n₁ n₂ x y =
    let e : n₁ ≡ n₂ = x.counts ∙ sym y.counts in
    (e, x.written ∙ ap (λ (n : ℕ). bytes ++ drop n d) e ∙ sym y.written)

-- the run, the state and the bytes after a line
pub one_line : (run run₁ run₂ : Run) (l s s₁ s₂ b₁ b₂ : List ℕ) → LineTaken run l s s₁ run₁ b₁ → LineTaken run l s s₂ run₂ b₂
    → (run₁ ≡ run₂) × (s₁ ≡ s₂) × (b₁ ≡ b₂)
one_line run run₁ run₂ l s s₁ s₂ b₁ b₂ (first p x a) (first q y b) =
    let u = one_first x y in
    let v = one_acted a (rw (← u.0) at b) in
    (v.0, u.1, v.1)
one_line run run₁ run₂ l s s₁ s₂ b₁ b₂ (first p x a) (further q y b) = absurd (omega arith)
one_line run run₁ run₂ l s s₁ s₂ b₁ b₂ (first p x a) (after q e) = absurd (omega arith)
one_line run run₁ run₂ l s s₁ s₂ b₁ b₂ (further p x a) (first q y b) = absurd (omega arith)
one_line run run₁ run₂ l s s₁ s₂ b₁ b₂ (further p x a) (further q y b) =
    let u = one_further x y in
    let v = one_acted a (rw (← u.0) at b) in
    (v.0, u.1, v.1)
one_line run run₁ run₂ l s s₁ s₂ b₁ b₂ (further p x a) (after q e) = absurd (omega arith)
one_line run run₁ run₂ l s s₁ s₂ b₁ b₂ (after p e) (first q y b) = absurd (omega arith)
one_line run run₁ run₂ l s s₁ s₂ b₁ b₂ (after p e) (further q y b) = absurd (omega arith)
one_line run run₁ run₂ l s s₁ s₂ b₁ b₂ (after p e) (after q k) = (refl, e ∙ sym k, refl)
