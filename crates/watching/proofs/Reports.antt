-- Answers reported many at once: a window is added to a tally that is far from full, and answers are reported one after the other. Assumes nothing.
use Rattle.std.specs.Prelude.{Ok, Some}
use Prim.Native.Nat.{ℕ, suc, ◌+◌, ◌-◌, ◌*◌, ◌^◌, ◌<◌, ◌≤◌}
use mathlib.Core.Path.{◌≡◌, refl, subst}
use mathlib.Core.List.{List, [], ◌∷◌, ◌++◌, append_assoc, append-nil}
use native.Mathlib.Numerals.{add-one}
use native.Mathlib.Omega.{arith}
use lib.ListN.{length, get_or, take, drop, drop_of_length-le}
use lib.Seq.{take-suc, drop-cons}
use borrow.Author.Tests.{le-ltb, lt-leb}
use borrow.Rule.Slice.PartMut.{mid_of, put_mid}
use Rattle.rules.proofs.Impossible.{impossible}
use Rattle.rules.specs.Limits.{ticks}
use Rattle.tally.specs.declared.Tally.{Tally}
use Rattle.tally.specs.Tallied.{added_to, more as counted}
use Rattle.line.specs.Lines.{most_written}
use Rattle.line.proofs.Theorem.{at_most_written}
use Rattle.watching.specs.declared.Run.{Run}
use Rattle.watching.specs.declared.Taken.{Taken}
use Rattle.watching.specs.Runs.{next_run}
use Rattle.watching.specs.Answer.{Acted, silent, added, full, IsActed}
use Rattle.watching.specs.inner.Progress.{WritesOn}
use Rattle.watching.specs.inner.Batch.{answer_at, AllReported, none, more, Holds, ReportReady, IsReported, ReportAllReady, IsAllReported}
use Rattle.watching.proofs.Writings.{nothing_written}
use Rattle.watching.proofs.Progress.{writes_on, writes_whole, writes_length, writes_then}

-- ---- one answer

-- a window is added where the tally has room for it
pub added_fits : (tally : Tally) (start t : ℕ) → start ≤ t → t < ticks → tally.windows + 1 < 2 ^ 64 → tally.ticks + (t - start + 1) < 2 ^ 64
    → added_to tally start t ≡ Ok (counted tally start t)
unfolding added_to
added_fits tally start t h r w k =
    simp (le-ltb t start h, lt-leb ticks t r, lt-leb (2 ^ 64) (tally.windows + 1) w, lt-leb (2 ^ 64) (tally.ticks + (t - start + 1)) k)

-- what a window does to a run whose tally has room for it
record Grows (run run' : Run) (bytes : List ℕ) : Type 0 where
  phase : run'.phase ≡ 1
  short : length bytes ≤ most_written
  windows : run'.tally.windows ≤ run.tally.windows + 1
  ticks : run'.tally.ticks ≤ run.tally.ticks + 2 ^ 32

module _ (run : Run) (start t : ℕ) (h : start ≤ t) (r : t < ticks) (f : Holds run 1) where
  fits : added_to run.tally start t ≡ Ok (counted run.tally start t)
  fits = added_fits run.tally start t h r f.windows (omega (arith, f.ticks))

  window_grows : {run' : Run} {bytes : List ℕ} → Acted run (Ok (Some (start, t))) run' bytes → Grows run run' bytes
  window_grows (added {tally = tally} e) =
      let counts : added_to run.tally start t ≡ Ok (counted run.tally start t) = fits in
      let same : tally ≡ counted run.tally start t = cc in
      record {
        phase = refl;
        short = (at_most_written start t (omega arith) (omega arith)).0;
        windows = rw same (omega arith);
        ticks = rw same (omega arith);
      }
  window_grows (full {r = r} e) =
      let counts : added_to run.tally start t ≡ Ok (counted run.tally start t) = fits in
      impossible cc

pub reported_nothing : (run run' : Run) (t a : ℕ) (d : List ℕ) → a ≡ 0 → run' ≡ next_run run run.tally
    → IsReported run t a d d (record { run = run'; written = 0 })
reported_nothing run run' t a d z e = record {
  bytes = [];
  acted = rw (z, e) silent;
  phase = rw e refl;
  short = omega arith;
  written = nothing_written d;
  windows = rw e (omega arith);
  ticks = rw e (omega arith);
}

pub reported_window : {run : Run} {t a : ℕ} {d d' : List ℕ} {taken : Taken} → ReportReady run t a d → (a ≡ 0 → ⊥)
    → IsActed run (Ok (Some ((a - 1), t))) d d' taken → IsReported run t a d d' taken
reported_window {run} {t} {a} {d} {d'} {taken} r n i =
    let same : suc (a - 1) ≡ a = omega arith in
    let g = window_grows run (a - 1) t (omega (arith, r.fair.within)) r.fair.range r.holds i.acted in
    record {
      bytes = i.bytes;
      acted = subst (λ (k : ℕ). Acted run (answer_at t k) taken.run i.bytes) same i.acted;
      phase = g.phase;
      short = g.short;
      written = i.written;
      windows = g.windows;
      ticks = g.ticks;
    }

-- ---- one after the other

-- i answers are reported: what is reported from there on comes after them
pub record Reporting (run : Run) (ts answers d d' : List ℕ) (later : Run) (written i : ℕ) : Type 0 where
  pub inside : i ≤ length ts
  pub bytes : List ℕ
  pub leads : {run'' : Run} {l rest : List ℕ} → AllReported later (drop i ts) l run'' rest → AllReported run ts (take i answers ++ l) run'' (bytes ++ rest)
  pub writes : WritesOn bytes d d' 0 written
  pub short : written ≤ most_written * i
  pub holds : Holds later (length ts - i)

module _ {run : Run} {ts answers d : List ℕ} (r : ReportAllReady run ts answers d) where
  module _ {d' : List ℕ} {later : Run} {written i : ℕ} (x : Reporting run ts answers d d' later written i) where
    pub reporting_end : length ts ≤ i → IsAllReported run ts answers d d' (record { run = later; written = written })
    reporting_end h =
        let all : i ≡ length ts = omega (arith, x.inside) in
        let k : AllReported later (drop i ts) [] later [] = rw (drop_of_length-le ts h) none in
        record {
          bytes = x.bytes;
          reports = rw (append-nil (take i answers), append-nil x.bytes, all) at (x.leads k);
          written = writes_whole x.writes;
        }

    module _ (h : i < length ts) where
      pub reporting_more : {e : List ℕ} {taken : Taken} → IsReported later (get_or ts i 0) (get_or answers i 0) (mid_of written (length d' - written) d') e taken
          → Reporting run ts answers d (put_mid written (length d' - written) d' e) taken.run (written + taken.written) (i + 1)
      reporting_more {e} {taken} t =
          let k : i < length answers = omega (arith, r.enough) in
          record {
            inside = omega arith;
            bytes = x.bytes ++ t.bytes;
            leads = λ {run''} {l} {rest} b.
                rw (add-one i, take-suc answers i 0 k, append_assoc (take i answers) (get_or answers i 0 ∷ []) l, append_assoc x.bytes t.bytes rest)
                (x.leads (rw (drop-cons ts i 0 h, ← add-one i) (more (get_or ts i 0) (get_or answers i 0) t.acted t.phase b)));
            writes = writes_then x.writes (writes_on (omega (arith, x.writes.fits, writes_length x.writes)) t.written);
            short = omega (arith, x.short, t.short, t.written.counts);
            holds = record {
              windows = omega (arith, x.holds.windows, t.windows);
              ticks = omega (arith, x.holds.ticks, t.ticks);
            };
          }
