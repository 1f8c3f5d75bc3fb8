-- As long as no line is refused the state is a watched one, so each tick's window is the rules' own. Assumes nothing.
use Rattle.std.specs.Prelude.{Ok, Some, None}
use Prim.Native.Nat.{ℕ, suc, ◌≤◌, ◌<◌}
use mathlib.Core.Path.{◌≡◌, refl, sym, ap, subst, ◌∙◌}
use mathlib.Core.Logic.{inl, inr}
use mathlib.Core.List.{List, [], ◌∷◌, ◌++◌}
use lib.ListN.{length, take, drop}
use lib.Seq.{take_at}
use borrow.Author.Tests.{eq-eqb}
use native.Mathlib.Omega.{arith}
use Rattle.rules.specs.Limits.{argument_bytes}
use Rattle.rules.specs.Pattern.{Pattern}
use Rattle.rules.specs.History.{Tick, Rising, next_tick}
use Rattle.detector.proofs.History.{next_tick_snoc}
use Rattle.body.specs.Postfix.{encode}
use Rattle.body.specs.Claim.{BodyOf}
use Rattle.text.specs.Answer.{IsRead}
use Rattle.watcher.specs.Answer.{TickAnswers}
use Rattle.watcher.specs.Claim.{Watched, opened as watched, window as windowed, nothing as unmoved}
use Rattle.watcher.proofs.Agrees.{watched_reached}
use Rattle.watcher.proofs.Theorem.{agrees}
use Rattle.tally.specs.declared.Tally.{Tally}
use Rattle.tally.specs.Tallied.{added_to}
use Rattle.tally.specs.Claim.{Window, span, Adds, one, none as no_windows}
use Rattle.tally.proofs.Theorem.{sums}
use Rattle.line.specs.Lines.{window_line, tally_line}
use Rattle.line.specs.Answer.{IsTick}
use Rattle.watching.specs.declared.Run.{Run}
use Rattle.watching.specs.Runs.{fresh, next_run, finish_line}
use Rattle.watching.specs.Answer.{no_body}
use Rattle.watching.specs.Answer.FirstLine.{unread as no_text, unopened, opened}
use Rattle.watching.specs.Answer.FurtherLine.{unread as no_tick, unticked, window, nothing}
use Rattle.watching.specs.Answer.Acted.{silent}
use Rattle.watching.specs.Answer.LineTaken.{first, further, after}
use Rattle.watching.specs.Whole.{Takes}
use Rattle.watching.specs.Whole.Takes.{none, more}
use Rattle.watching.specs.Claim.{AreTicks, Reports, window_lines, LinesAgree, OutputAgrees}
use Rattle.watching.proofs.Acts.{refused_ends, acted_window}
use Rattle.watching.specs.Claim.AreTicks.{none as no_lines, tick as line}
use Rattle.watching.specs.Claim.Reports.{none as no_reports, tick as report}

-- a run that has ended stays so
stays_ended : {run run' : Run} {s s' bytes : List ℕ} {ls : List (List ℕ)} → 1 < run.phase → Takes run s ls run' s' bytes → 1 < run'.phase
stays_ended h none = h
stays_ended h (more (first z x y) k) = absurd (omega arith)
stays_ended h (more (further z x y) k) = absurd (omega arith)
stays_ended h (more (after z e) k) = stays_ended h k

-- of ticks that rise, the last is allowed after the others
rising_last : (τ : ℕ) (h : List Tick) (k : Tick) → Rising τ (h ++ (k ∷ [])) → next_tick τ h ≤ k.0
rising_last τ [] k r = r.0
rising_last τ (j ∷ h) k r = rising_last (suc j.0) h k r.1

-- lines that a run in phase 1 takes after the ticks of h, none refused
record Accepted (e : Pattern) (h : List Tick) (run run' : Run) (ls : List (List ℕ)) (bytes : List ℕ) : Type 0 where
  ticks : List Tick
  lines : AreTicks ls ticks
  rising : Rising (next_tick 0 h) ticks
  windows : List Window
  reports : Reports e h ticks windows
  written : bytes ≡ window_lines windows
  adds : Adds run.tally windows run'.tally

module _ (b : List ℕ) (e : Pattern) (body : BodyOf argument_bytes b e) where
  module _ (h : List Tick) (run run' : Run) (l s s₁ rest : List ℕ) (ls : List (List ℕ)) (t w : ℕ) (x : Watched b h s) (r : IsTick l t w) where
    -- a line with a window
    with_window : (start : ℕ) (tally : Tally) → TickAnswers s s₁ t w (Ok (Some start)) → added_to run.tally start t ≡ Ok tally
        → Accepted e (h ++ ((t, w) ∷ [])) (next_run run tally) run' ls rest → Accepted e h run run' (l ∷ ls) (window_line start t ++ rest)
    unfolding window_lines
    with_window start tally i y g =
        let late : next_tick 0 h ≤ t = rising_last 0 h (t, w) (watched_reached b e body (windowed t w start x i)).rising in
        let a = agrees b e body h s s₁ x t w (Ok (Some start)) late r.range i in
        record {
          ticks = (t, w) ∷ g.ticks;
          lines = line t w r g.lines;
          rising = (late, rw (next_tick_snoc 0 h (t, w)) at g.rising);
          windows = (start, t) ∷ g.windows;
          reports = report t w (suc start) (rw a.1 at a.2) g.reports;
          written = rw g.written;
          adds = one (start, t) y g.adds;
        }

    -- a line with none
    without_window : TickAnswers s s₁ t w (Ok None) → Accepted e (h ++ ((t, w) ∷ [])) (next_run run run.tally) run' ls rest
        → Accepted e h run run' (l ∷ ls) rest
    without_window i g =
        let late : next_tick 0 h ≤ t = rising_last 0 h (t, w) (watched_reached b e body (unmoved t w x i)).rising in
        let a = agrees b e body h s s₁ x t w (Ok None) late r.range i in
        record {
          ticks = (t, w) ∷ g.ticks;
          lines = line t w r g.lines;
          rising = (late, rw (next_tick_snoc 0 h (t, w)) at g.rising);
          windows = g.windows;
          reports = report t w 0 (rw a.1 at a.2) g.reports;
          written = g.written;
          adds = g.adds;
        }

  all_accepted : {h : List Tick} {run run' : Run} {s s' bytes : List ℕ} {ls : List (List ℕ)} → Watched b h s → run.phase ≡ 1
      → Takes run s ls run' s' bytes → run'.phase ≡ 1 → Accepted e h run run' ls bytes
  unfolding window_lines
  all_accepted x p none q = record {
    ticks = [];
    lines = no_lines;
    rising = tt;
    windows = [];
    reports = no_reports;
    written = refl;
    adds = no_windows;
  }
  all_accepted x p (more (first z i y) k) q = absurd (omega arith)
  all_accepted x p (more (further z (no_tick i j) y) k) q = absurd (omega (arith, stays_ended (refused_ends y) k))
  all_accepted x p (more (further z (unticked i j) y) k) q = absurd (omega (arith, stays_ended (refused_ends y) k))
  all_accepted {h} {run} {run'} {s} x p (more {l = l} {s₁ = s₁} {rest = rest} {ls = ls} (further z (window {t} {w} {start} i j) y) k) q =
      elim (acted_window y) [
        | inl a ↦
            rw a.line
            (with_window h run run' l s s₁ rest ls t w x i start a.tally j a.adds
            (subst (λ r. Accepted e (h ++ ((t, w) ∷ [])) r run' ls rest) a.next (all_accepted {h = h ++ ((t, w) ∷ [])} (windowed t w start x j) (rw a.next refl) k q)))
        | inr a ↦ absurd (omega (arith, stays_ended a.ends k))
      ]
  all_accepted {h} {run} {run'} {s} x p (more {l = l} {s₁ = s₁} {rest = rest} {ls = ls} (further z (nothing {t} {w} i j) silent) k) q =
      without_window h run run' l s s₁ rest ls t w x i j (all_accepted {h = h ++ ((t, w) ∷ [])} (unmoved t w x j) refl k q)
  all_accepted x p (more (after z i) k) q = absurd (omega arith)

-- the body that line 1 is read into is that of its text's pattern
pub read_body : {p body : List ℕ} {bytes : ℕ} (x : IsRead p no_body body bytes) → BodyOf argument_bytes (take bytes body) x.some.tree
read_body {bytes = bytes} x = record {
  bodied = record { proper = x.some.text.proper; few = x.few };
  same = ap (take bytes) x.written ∙ take_at (encode argument_bytes x.some.tree) (drop bytes _) bytes (sym x.counts);
}

pub lines_agree : LinesAgree
lines_agree s s' p bytes ls run (more (first z (opened {body} {bytes = n} i j) silent) k) q =
    let g = all_accepted (take n body) i.some.tree (read_body i) (watched j) refl k q in
    let m = sums fresh.tally run.tally g.windows g.adds in
    record {
      pattern = i.some.tree;
      text = i.some.text;
      ticks = g.ticks;
      lines = g.lines;
      rising = g.rising;
      windows = g.windows;
      reports = g.reports;
      written = g.written;
      counted = omega (arith, m.0);
      summed = omega (arith, m.1);
    }
lines_agree s s' p bytes ls run (more (first z (no_text i j) y) k) q = absurd (omega (arith, stays_ended (refused_ends y) k))
lines_agree s s' p bytes ls run (more (first z (unopened i j) y) k) q = absurd (omega (arith, stays_ended (refused_ends y) k))
lines_agree s s' p bytes ls run (more (further z i y) k) q = absurd (omega arith)
lines_agree s s' p bytes ls run (more (after z i) k) q = absurd (omega arith)

-- the windows and their tally
finished : (run : Run) (bytes : List ℕ) (ws : List Window) → run.phase ≡ 1 → bytes ≡ window_lines ws → run.tally.windows ≡ length ws → run.tally.ticks ≡ span ws
    → bytes ++ finish_line run ≡ window_lines ws ++ tally_line (length ws) (span ws)
finished run bytes ws q w n t = simp (eq-eqb run.phase 1 q, w, n, t)

pub output_agrees : OutputAgrees
output_agrees s input output p ls x e q =
    let a = lines_agree s x.state p x.bytes ls x.run (rw e at x.takes) q in
    (a, x.whole ∙ finished x.run x.bytes a.windows q a.written a.counted a.summed)
