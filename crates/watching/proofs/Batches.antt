-- Ticks taken many at once do what their lines do one after the other. Assumes nothing.
use Prim.Native.Nat.{ℕ, suc, zero, ◌+◌, ◌-◌, ◌*◌, ◌<◌, ◌≤◌}
use mathlib.Core.Path.{◌≡◌, refl, ap, ◌∙◌}
use mathlib.Core.Logic.{inl, inr}
use mathlib.Core.List.{List, [], ◌∷◌, ◌++◌, append_assoc}
use native.Mathlib.Omega.{arith}
use lib.ListN.{length, get_or, take, drop, length-append, length-take}
use lib.Seq.{take_all, take_at, get_or-take}
use borrow.Rule.Slice.PartMut.{mid_of, put_mid}
use Rattle.detector.proofs.Form.{answer_le}
use Rattle.line.specs.Lines.{most_written}
use Rattle.line.specs.Answer.{IsTick}
use Rattle.line.proofs.Theorem.{at_most_written}
use Rattle.watcher.specs.Answer.{IsTicked}
use Rattle.watcher.specs.Feed.{paired, AllTicked, IsFed}
use Rattle.watcher.specs.Feed.AllTicked.{none as All-none, more as All-more}
use Rattle.watching.specs.declared.Run.{Run}
use Rattle.watching.specs.declared.Taken.{Taken}
use Rattle.watching.specs.declared.Chunked.{Chunked}
use Rattle.watching.specs.declared.batch.Gathered.{Gathered}
use Rattle.watching.specs.Answer.{Acted, LineTaken}
use Rattle.watching.specs.Answer.FurtherLine.{window, nothing}
use Rattle.watching.specs.Answer.Acted.{silent}
use Rattle.watching.specs.Answer.LineTaken.{further}
use Rattle.watching.specs.Chunk.{most_held, TakesBytes}
use Rattle.watching.specs.inner.Progress.{line_length, Progress, Ready}
use Rattle.watching.specs.inner.Batch.{most_ticks, most_reported, TickLines, Gathers, Fair, FarFromFull, answer_at, AllReported, ReportAllReady, IsAllReported}
use Rattle.watching.specs.inner.Batch.TickLines.{none as lines_none, more as lines_more}
use Rattle.watching.specs.inner.Batch.AllReported.{none as reports_none, more as reports_more}
use Rattle.watching.proofs.Acts.{acted_window}
use Rattle.watching.proofs.TakingBytes.{line_leads}
use Rattle.watching.proofs.Progress.{writes_on}

-- an answer is 0, or start + 1 of a window that ends at the tick
pub ticked_fair : {s s' : List ℕ} {t w a : ℕ} → IsTicked s s' t w a → Fair t a
ticked_fair {s} {s'} {t} {w} {a} i = record {
  range = i.range;
  within = omega (arith, i.answered, answer_le t w i.form.next i.late i.form.pattern i.form.memory i.form.form);
}

all_fair : (ts ws : List ℕ) {answers s s' : List ℕ} → length ts ≡ length ws → AllTicked s (paired ts ws) answers s' → (i : ℕ) → i < length ts
    → Fair (get_or ts i 0) (get_or answers i 0)
unfolding paired
all_fair [] ws e a i h = absurd (omega arith)
all_fair (t ∷ ts) [] e a i h = absurd (omega arith)
all_fair (t ∷ ts) (w ∷ ws) e (All-more _ _ b k a) zero h = ticked_fair k
all_fair (t ∷ ts) (w ∷ ws) e (All-more _ _ b k a) (suc i) h = all_fair ts ws (omega arith) a i (omega arith)

all_long : (ts ws : List ℕ) {answers s s' : List ℕ} → length ts ≡ length ws → AllTicked s (paired ts ws) answers s' → length answers ≡ length ts
unfolding paired
all_long [] ws e All-none = refl
all_long (t ∷ ts) [] e a = absurd (omega arith)
all_long (t ∷ ts) (w ∷ ws) e (All-more _ _ b k a) = ap suc (all_long ts ws (omega arith) a)

-- the answers that stand first after feeding
module _ {s ts ws old s' new : List ℕ} (f : IsFed s ts ws old s' new) where
  pub answers_first : take (length ts) new ≡ f.answers
  answers_first = ap (take (length ts)) f.words ∙ take_at f.answers (drop (length ts) old) (length ts) (all_long ts ws f.even f.taken)

  pub fed_ready : {run : Run} {e : List ℕ} → FarFromFull run → length ts ≤ most_ticks → most_reported ≤ length e → ReportAllReady run ts new e
  fed_ready {run} {e} q few room = record {
    fair = λ i h. rw (← get_or-take (length ts) new i 0 h, answers_first) (all_fair ts ws f.even f.taken i h);
    enough = omega (arith, ap length f.words, length-append f.answers (drop (length ts) old), all_long ts ws f.even f.taken);
    holds = record { windows = omega (arith, q.windows); ticks = omega (arith, q.ticks) };
    room = omega arith;
  }

-- a tick reported is a line taken
reported_line : {run run₁ : Run} {l s s₁ bytes : List ℕ} {t w : ℕ} (a : ℕ) → run.phase ≡ 1 → IsTick l t w → IsTicked s s₁ t w a
    → Acted run (answer_at t a) run₁ bytes → LineTaken run l s s₁ run₁ bytes
reported_line zero p r k x = further p (nothing r k) x
reported_line (suc start) p r k x = further p (window r k) x

reported_short : {run run₁ : Run} {t : ℕ} {bytes : List ℕ} (a : ℕ) → Fair t a → Acted run (answer_at t a) run₁ bytes → run₁.phase ≡ 1
    → length bytes ≤ most_written
reported_short zero f silent p = omega arith
reported_short {t = t} (suc start) f y p =
    elim (acted_window y) [
      | inl w ↦ rw w.line (at_most_written start t (omega (arith, f.range, f.within)) (omega (arith, f.range))).0
      | inr w ↦ absurd (omega (arith, w.ends))
    ]

-- lines read, fed and reported lead to what follows them
batch_leads : {room : ℕ} {run run' run'' : Run} {input ts ws answers left s s' s'' h'' bytes rest over : List ℕ} → run.phase ≡ 1
    → most_written * length ts ≤ room → TickLines input ts ws left → AllTicked s (paired ts ws) answers s' → AllReported run ts answers run' bytes
    → TakesBytes (room - length bytes) run' [] s' left run'' h'' s'' rest over → TakesBytes room run [] s input run'' h'' s'' (bytes ++ rest) over
unfolding paired
batch_leads {room} p q lines_none All-none reports_none b = let none : room - 0 ≡ room = omega arith in rw none at b
batch_leads {room} {input = input} {rest = rest} p q (lines_more {ts = ts} t w ended read lines) (All-more _ _ a k all) (reports_more {bytes = bytes} {rest = others} _ _ acted phase reports) b =
    let short = reported_short a (ticked_fair k) acted phase in
    let whole : take most_held (take (line_length input) input) ≡ take (line_length input) input =
    take_all most_held (take (line_length input) input) (omega (arith, read.short)) in
    let left : room - length (bytes ++ others) ≡ room - length bytes - length others = omega (arith, length-append bytes others) in
    rw (append_assoc bytes others rest)
    (line_leads (omega arith) {bytes = bytes} [] input (omega arith) ended (rw whole (reported_line a p read k acted))
    (batch_leads {room = room - length bytes} phase (omega arith) lines all reports (rw left at b)))

pub batch_progress : {input s s' d e ts ws old new : List ℕ} {p : Chunked} {g : Gathered} {taken : Taken} → Ready input d p → FarFromFull p.run
    → p.written + most_reported ≤ length d → Gathers input p.used ts ws g → IsFed s (take (g.count - 0) ts) (take (g.count - 0) ws) old s' new
    → IsAllReported p.run (take (g.count - 0) ts) new (mid_of p.written (length d - p.written) d) e taken
    → Progress p.run [] p.used p.written input s s' d (put_mid p.written (length d - p.written) d e)
    (record { run = taken.run; held = 0; used = g.used; written = p.written + taken.written })
batch_progress {input} {s} {s'} {d} {e} {ts} {ws} {old} {new} {p} {g} {taken} f q room r k t =
    let all : g.count - 0 ≡ g.count = omega arith in
    let fed = rw all at k in
    let few : length (take g.count ts) ≤ most_ticks = omega (arith, length-take g.count ts, r.few) in
    let left : length d - (p.written + taken.written) ≡ length d - p.written - length t.bytes = omega (arith, t.written.counts) in
    record {
      bytes = t.bytes;
      leads = λ b. batch_leads q.phase (omega arith) r.lines fed.taken (rw (answers_first fed) at (rw all at t.reports)) (rw left at b);
      none = refl;
      inside = r.inside;
      writes = writes_on f.fits t.written;
    }
