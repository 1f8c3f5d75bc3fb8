-- A tick's walk, a turn at a time, for a loop: the words so far, the place of the next cell and the stack lead to the whole walk's end.
-- Assumes nothing.
use Prim.Native.Nat.{ℕ, ◌+◌, ◌-◌, ◌*◌, ◌≤◌, ◌<◌, ◌^◌}
use mathlib.Core.Path.{◌≡◌, refl, sym, ap, subst, ◌∙◌}
use mathlib.Core.Bool.{true}
use mathlib.Core.List.{List, [], ◌∷◌, ◌++◌}
use native.Mathlib.Omega.{arith}
use lib.ListN.{length, get_or, take, drop, set}
use lib.Seq.{length-take-le}
use borrow.Rule.Slice.PartMut.{mid_of, put_mid}
use Rattle.rules.specs.declared.Op.{Op}
use Rattle.rules.specs.Limits.{letters, argument_bytes}
use Rattle.body.specs.declared.Entry.{Entry}
use Rattle.body.specs.declared.Entry.TheVariants.{Letter, Pair, Within, Wrong}
use Rattle.body.specs.Entry.{entries_by}
use Rattle.body.specs.inner.Machine.{step, run}
use Rattle.body.proofs.Walk.{run_end}
use Rattle.cell.specs.Cell.{cell_words, cell_answer, cell_after, starts_after}
use Rattle.cell.proofs.WordLaws.{length_after}
use Rattle.watcher.specs.State.{header, count_of, next_of, InForm}
use Rattle.watcher.specs.inner.Walk.{Value, Cells, entry_in, tick_pair, letter_answer, within_answer, tick_m}
use Rattle.watcher.specs.inner.Walk.{formed, ticked, last_answer, answer_of, words_after}
use Rattle.watcher.specs.inner.Step.{starts_on}
use Rattle.watcher.proofs.Entries.{run_step}
use Rattle.watcher.proofs.States.{next_word, state_long}
use Rattle.watcher.proofs.Judges.{formed_exactly}
use Rattle.watcher.proofs.walk.Runs.{Ready, Stands, Runs, runs_start, walk_start, turn_stands, turn_ready, turn_runs}
use Rattle.watcher.proofs.walk.Runs.{ready_pair, ready_within, stands_low, stands_few}
use Rattle.watcher.proofs.walk.Places.{Held, held_start, held_ahead, held_length, held_entry, held_put, held_end}
use Rattle.watcher.proofs.Calls.{ticked_in_form}

-- before entry i of the old words: s are the words now, the next cell begins at a place, and st is the stack
pub record Walking (t w : ℕ) (old s : List ℕ) (i at : ℕ) (st : List Value) : Type 0 where
  pub form : InForm old
  pub late : form.next ≤ t
  pub cells : Cells
  pub held : Held old s at cells
  pub runs : Runs t w i (entries_by (entry_in old) i (get_or old 0 0 - i)) st cells
  pub same : run (tick_m t w) (entries_by (entry_in old) i (get_or old 0 0 - i)) st cells ≡ ticked t w old

pub walking_start : (t w : ℕ) (s : List ℕ) → formed s ≡ true → next_of s ≤ t → Walking t w s s 0 (header + count_of s) []
walking_start t w s q l =
    let f : InForm s = (formed_exactly s).0 q in
    let k : f.next ≤ t = omega (arith, next_word f) in
    record {
      form = f;
      late = k;
      cells = ([], drop (header + count_of s) s);
      held = held_start s (state_long f);
      runs = runs_start f t w k;
      same = walk_start t w s;
    }

module _ {t w : ℕ} {old s : List ℕ} {i at : ℕ} {st : List Value} (x : Walking t w old s i at st) where
  long : 2 + get_or old 0 0 ≤ length old
  long = state_long x.form

  -- the stack
  stands : Stands t i (get_or old 0 0 - i) st
  stands = turn_stands t w (get_or old 0 0) i (entry_in old) st x.cells x.runs

  pub walking_low : i ≤ get_or old 0 0 → 2 * length st ≤ get_or old 0 0 + 1
  walking_low h = stands_low t (get_or old 0 0) i st stands h

  pub walking_few : i ≤ get_or old 0 0 → starts_on st ≤ get_or old 0 0 - 1
  walking_few h = stands_few t (get_or old 0 0) i st stands h

  -- the end: one value is left, and these are the words
  pub walking_end : get_or old 0 0 ≤ i → (length st ≡ 1) × (last_answer st ≡ answer_of t w old) × (set s 1 (t + 1) ≡ words_after t w old)
  unfolding answer_of
  walking_end h =
      let z : ◌≡◌ {A = List Value × Cells} (st, x.cells) (ticked t w old) =
      sym (run_end (tick_m t w) (entry_in old) (get_or old 0 0) i st x.cells h) ∙ x.same in
      let one = z ∙ ticked_in_form x.form t w x.late in (
        ap (λ (r : List Value × Cells). length r.0) one,
        ap (λ (r : List Value × Cells). last_answer r.0) z,
        held_end old s at t w (subst (Held old s at) (ap (λ (r : List Value × Cells). r.1) z) x.held),
      )

  module _ (h : i < get_or old 0 0) (e : Entry) (q : entry_in s i ≡ e) where
    entry_old : entry_in old i ≡ e
    entry_old = sym (held_entry old long x.held i h) ∙ q

    ready : Ready e st x.cells.1
    ready = subst (λ (s : Entry). Ready s st x.cells.1) entry_old (turn_ready t w (get_or old 0 0) i (entry_in old) st x.cells x.runs h)

    moved : (s' : List ℕ) (at' : ℕ) (st' : List Value) (g : Cells) → step (tick_m t w) e st x.cells ≡ (st', g) → Held old s' at' g
        → Walking t w old s' (i + 1) at' st'
    moved s' at' st' g d k =
        let n : ℕ = get_or old 0 0 in
        let ss : List Entry = entries_by (entry_in old) (i + 1) (n - (i + 1)) in
        let z : step (tick_m t w) (entry_in old i) st x.cells ≡ (st', g) = ap (λ (a : Entry). step (tick_m t w) a st x.cells) entry_old ∙ d in
        record {
          form = x.form;
          late = x.late;
          cells = g;
          held = k;
          runs =
              subst (λ (r : List Value × Cells). Runs t w (i + 1) ss r.0 r.1) z
              (turn_runs t w n i (entry_in old) st x.cells x.runs h);
          same = run_step (tick_m t w) (entry_in old) n i st st' x.cells g e h entry_old d ∙ x.same;
        }

-- a letter
module _ {t w : ℕ} {old s : List ℕ} {i at : ℕ} {st : List Value} (x : Walking t w old s i at st) (h : i < get_or old 0 0) where
  pub walking_letter : (n : ℕ) → entry_in s i ≡ Letter n → (n < letters) × Walking t w old s (i + 1) at ((letter_answer t w n, []) ∷ st)
  unfolding step
  walking_letter n q = (ready x h (Letter n) q, moved x h (Letter n) q s at ((letter_answer t w n, []) ∷ st) x.cells refl x.held)

  -- an operator finds its operands, and a restriction its own
  pub walking_two : (op : Op) → entry_in s i ≡ Pair op → 2 ≤ length st
  walking_two op q = ready_pair op st x.cells.1 (ready x h (Pair op) q)

  pub walking_one : (n : ℕ) → entry_in s i ≡ Within n → 1 ≤ length st
  walking_one n q = ready_within n st x.cells.1 (ready x h (Within n) q)

  pub walking_wrong : entry_in s i ≡ Wrong → ⊥
  walking_wrong q = ready x h Wrong q

-- a restriction
pub walking_within : {t w : ℕ} {old s : List ℕ} {i at : ℕ} {v : Value} {st : List Value} → Walking t w old s i at (v ∷ st) → i < get_or old 0 0
    → (n : ℕ) → entry_in s i ≡ Within n
    → (n < 256 ^ argument_bytes) × Walking t w old s (i + 1) at ((within_answer t n v.0, v.1) ∷ st)
unfolding step
walking_within {t} {w} {old} {s} {i} {at} {v} {st} x h n q =
    (ready x h (Within n) q, moved x h (Within n) q s at ((within_answer t n v.0, v.1) ∷ st) x.cells refl x.held)

-- an operator: its cell lies within the words, and what it becomes is put in its place
module _ {t w : ℕ} {old s : List ℕ} {i at : ℕ} {u v : Value} {st : List Value} (x : Walking t w old s i at (v ∷ u ∷ st)) (h : i < get_or old 0 0)
    (op : Op) (q : entry_in s i ≡ Pair op) where
  pub walking_cell : at + cell_words op (length v.1) ≤ length s
  walking_cell = omega (arith, ready x h (Pair op) q, held_length old (state_long x.form) x.held)

  pub walking_pair : (c : List ℕ) → c ≡ mid_of at (cell_words op (length v.1)) s
      → Walking t w old (put_mid at (cell_words op (length v.1)) s (cell_after op (t + 1) u.0 v.0 v.1 c))
      (i + 1) (at + cell_words op (length v.1))
      ((cell_answer op (t + 1) u.0 v.0 c, starts_after op u.1 v.1 (cell_after op (t + 1) u.0 v.0 v.1 c)) ∷ st)
  unfolding step tick_pair
  walking_pair c e =
      let n : ℕ = cell_words op (length v.1) in
      let ahead : List ℕ = x.cells.1 in
      let k : c ≡ take n ahead = e ∙ ap (take n) (held_ahead old (state_long x.form) x.held) in
      let l : length c ≡ n = ap length k ∙ length-take-le n ahead (ready x h (Pair op) q) in
      let c' : List ℕ = cell_after op (t + 1) u.0 v.0 v.1 c in
      moved x h (Pair op) q (put_mid at n s c') (at + n)
      ((cell_answer op (t + 1) u.0 v.0 c, starts_after op u.1 v.1 c') ∷ st) (x.cells.0 ++ c', drop n ahead)
      (rw k) (held_put old (state_long x.form) x.held n c' (length_after op (t + 1) u.0 v.0 v.1 c l))
