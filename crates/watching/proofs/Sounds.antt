-- A sound input is not refused: its text is read and the state opened, each tick is allowed, and the tally has room for all windows of one run.
-- Assumes nothing.
use Rattle.std.specs.Prelude.{Ok, Err}
use Prim.Native.Nat.{ℕ, suc, ◌-◌, ◌*◌, ◌^◌, ◌≤◌, ◌<◌}
use mathlib.Core.Path.{◌≡◌, refl, ap}
use mathlib.Core.Logic.{inl, inr}
use mathlib.Core.List.{List, [], ◌∷◌, ◌++◌}
use native.Mathlib.Omega.{arith}
use lib.ListN.{length, take, drop}
use Rattle.rules.proofs.Impossible.{impossible}
use Rattle.rules.specs.Limits.{argument_bytes, ticks}
use Rattle.rules.specs.Pattern.{Pattern}
use Rattle.rules.specs.History.{Tick, Rising, next_tick}
use Rattle.detector.specs.Memory.{fresh as blank}
use Rattle.detector.proofs.History.{next_tick_snoc}
use Rattle.refusal.specs.declared.Refusal.{Refusal}
use Rattle.body.specs.Claim.{BodyOf}
use Rattle.body.proofs.Bodies.{length_encode}
use Rattle.text.proofs.Theorem.{one_pattern, accepted_exactly}
use Rattle.watcher.specs.State.{state_of, room_of}
use Rattle.watcher.specs.Claim.{Watched, opened as watched, window as windowed, nothing as unmoved}
use Rattle.watcher.proofs.Theorem.{agrees, one_opening}
use Rattle.tally.specs.declared.Tally.{Tally}
use Rattle.tally.specs.Tallied.{added_to, more as counted}
use Rattle.line.specs.Answer.{IsTick}
use Rattle.line.proofs.Theorem.{one_tick, one_reading}
use Rattle.watching.specs.declared.Run.{Run}
use Rattle.watching.specs.Runs.{next_run}
use Rattle.watching.specs.Answer.{no_body, FirstLine, FurtherLine}
use Rattle.watching.specs.Answer.FirstLine.{unread as no_text, unopened, opened}
use Rattle.watching.specs.Answer.FurtherLine.{unread as no_tick, unticked, window, nothing}
use Rattle.watching.specs.Answer.Acted.{silent}
use Rattle.watching.specs.Answer.LineTaken.{first, further, after}
use Rattle.watching.specs.Whole.{Takes}
use Rattle.watching.specs.Whole.Takes.{none, more}
use Rattle.watching.specs.Claim.{AreTicks, Sound, SoundAccepted, SoundPrinted}
use Rattle.watching.specs.Claim.AreTicks.{none as no_lines, tick as line}
use Rattle.watching.proofs.Acts.{acted_window}
use Rattle.watching.proofs.Reports.{added_fits}
use Rattle.watching.proofs.Batches.{ticked_fair}
use Rattle.watching.proofs.Whole.{read_body, output_agrees}

-- ---- line 1

-- the text of a pattern within the limits opens a state that has room for it
not_unopened : {p s s' : List ℕ} {r : Refusal} {ls : List (List ℕ)} (x : Sound p ls) → room_of x.pattern ≤ length s → FirstLine p s s' (Err r) → ⊥
not_unopened {p} {s} {s'} {r} x h (no_text {body} a k) =
    let room = length_encode argument_bytes x.pattern in
    let e = (accepted_exactly p no_body body (Err r) a).1
    (x.pattern, record { text = x.text; short = x.short; few = x.few; room = omega (arith, x.few) }) in
    let q = e.1 in
    impossible cc
not_unopened {p} {s} {s'} {r} x h (unopened {body} {bytes} a o) =
    let e = a.some.tree in
    let same = ap room_of (one_pattern p e x.pattern a.some.text x.text) in
    let q = (one_opening (take bytes body) s (state_of e 0 (blank e) ++ drop (room_of e) s) s' (Ok tt) (Err r)
    (record { pattern = e; body = read_body a; room = omega arith; words = refl }) o).0 in
    impossible cc

-- ---- the tally

-- at most one window for each tick below τ, and none of more than 2^32 ticks
record Few (run : Run) (τ : ℕ) : Type 0 where
  windows : run.tally.windows ≤ τ
  ticks : run.tally.ticks ≤ τ * 2 ^ 32 - 1

module _ (run : Run) (τ start t : ℕ) (f : Few run τ) (late : τ ≤ t) (range : t < ticks) where
  -- so there is room for a window that ends at a tick in range
  fits : start ≤ t → added_to run.tally start t ≡ Ok (counted run.tally start t)
  fits h = added_fits run.tally start t h range (omega (arith, f.windows)) (omega (arith, f.ticks))

  few_more : (tally : Tally) → start ≤ t → added_to run.tally start t ≡ Ok tally → Few (next_run run tally) (suc t)
  few_more tally h e =
      let k = fits h in
      let same : tally ≡ counted run.tally start t = cc in
      record { windows = rw same (omega (arith, f.windows)); ticks = rw same (omega (arith, f.ticks)) }

  few_still : Few (next_run run run.tally) (suc t)
  few_still = record { windows = omega (arith, f.windows); ticks = omega (arith, f.ticks) }

  never_full : {r : Refusal} → start ≤ t → added_to run.tally start t ≡ Err r → ⊥
  never_full h e =
      let k = fits h in
      impossible cc

-- ---- the other lines

module _ (b : List ℕ) (e : Pattern) (body : BodyOf argument_bytes b e) where
  -- a tick that is allowed is not refused
  not_refused : {h : List Tick} {s s' l : List ℕ} {t w : ℕ} {r : Refusal} → Watched b h s → IsTick l t w → next_tick 0 h ≤ t
      → FurtherLine l s s' (Err r) → ⊥
  not_refused {l = l} {t = t} {w = w} {r = r} x i late (no_tick y k) =
      let q = one_reading l (Ok (record { t = t; events = w })) (Err r) i y in
      impossible cc
  not_refused {h} {s} {s'} {l} {t} {w} {r} x i late (unticked {t = t'} {w = w'} y k) =
      let q = one_tick l t w t' w' i.line y.line in
      (agrees b e body h s s' x t' w' (Err r) (omega (arith, q.0)) y.range k).1

  sound_runs : {h k : List Tick} {run run' : Run} {s s' bytes : List ℕ} {ls : List (List ℕ)} → Watched b h s → Few run (next_tick 0 h) → run.phase ≡ 1
      → AreTicks ls k → Rising (next_tick 0 h) k → Takes run s ls run' s' bytes → run'.phase ≡ 1
  sound_runs x f p no_lines r none = p
  sound_runs x f p (line t w i a) r (more (first z j y) g) = absurd (omega arith)
  sound_runs x f p (line t w i a) r (more (further z (no_tick j k) y) g) = absurd (not_refused x i r.0 (no_tick j k))
  sound_runs x f p (line t w i a) r (more (further z (unticked j k) y) g) = absurd (not_refused x i r.0 (unticked j k))
  sound_runs {h} {run = run} x f p (line t w i a) r (more {l = l} (further z (window {t = t'} {w = w'} {start} j k) y) g) =
      let q = one_tick l t w t' w' i.line j.line in
      let late : next_tick 0 h ≤ t' = omega (arith, q.0, r.0) in
      let next = next_tick_snoc 0 h (t', w') in
      let within : start ≤ t' = omega (arith, (ticked_fair k).within) in
      elim (acted_window y) [
        | inl c ↦
            sound_runs {h = h ++ ((t', w') ∷ [])} (windowed t' w' start x k)
            (rw (next, c.next) (few_more run (next_tick 0 h) start t' f late j.range c.tally within c.adds))
            (rw c.next refl) a (rw (next, ← q.0) r.1) g
        | inr c ↦ absurd (never_full run (next_tick 0 h) start t' f late j.range within c.refuses)
      ]
  sound_runs {h} {run = run} x f p (line t w i a) r (more {l = l} (further z (nothing {t = t'} {w = w'} j k) silent) g) =
      let q = one_tick l t w t' w' i.line j.line in
      let late : next_tick 0 h ≤ t' = omega (arith, q.0, r.0) in
      let next = next_tick_snoc 0 h (t', w') in
      sound_runs {h = h ++ ((t', w') ∷ [])} (unmoved t' w' x k) (rw next (few_still run (next_tick 0 h) 0 t' f late j.range)) refl a
      (rw (next, ← q.0) r.1) g
  sound_runs x f p (line t w i a) r (more (after z j) g) = absurd (omega arith)

pub sound_accepted : SoundAccepted
sound_accepted s s' p bytes ls run x h (more (first z (opened {body} {bytes = n} i j) silent) g) =
    sound_runs (take n body) i.some.tree (read_body i) (watched j) (record { windows = omega arith; ticks = omega arith }) refl x.lines x.rising g
sound_accepted s s' p bytes ls run x h (more (first z (no_text i j) y) g) = absurd (not_unopened x h (no_text i j))
sound_accepted s s' p bytes ls run x h (more (first z (unopened i j) y) g) = absurd (not_unopened x h (unopened i j))
sound_accepted s s' p bytes ls run x h (more (further z i y) g) = absurd (omega arith)
sound_accepted s s' p bytes ls run x h (more (after z i) g) = absurd (omega arith)

-- ---- the output

-- lines have one list of ticks
same_ticks : {ls : List (List ℕ)} {k k' : List Tick} → AreTicks ls k → AreTicks ls k' → k ≡ k'
same_ticks no_lines no_lines = refl
same_ticks (line {l = l} t w i a) (line t' w' i' a') =
    let q = one_tick l t w t' w' i.line i'.line in
    rw (q.0, q.1, same_ticks a a')

pub sound_printed : SoundPrinted
sound_printed s input output p ls x h y e =
    let a = output_agrees s input output p ls y e (sound_accepted s y.state p y.bytes ls y.run x h (rw e at y.takes)) in
    record {
      windows = a.0.windows;
      reports = rw (one_pattern p a.0.pattern x.pattern a.0.text x.text, same_ticks a.0.lines x.lines) at a.0.reports;
      written = a.1;
    }
