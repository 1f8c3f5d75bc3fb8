-- The judge's walk, a turn at a time, for a loop: the place of the next cell and the stack lead to the whole walk's end, and the trees so far to
-- whether the entries are sound. Assumes nothing.
use Rattle.std.specs.Prelude.{None, Option, Some}
use Rattle.std.specs.List.{sum}
use Prim.Native.Nat.{ℕ, ◌+◌, ◌-◌, ◌≤◌, ◌<◌}
use mathlib.Core.Path.{◌≡◌, refl, sym, ap, subst, ◌∙◌}
use mathlib.Core.Bool.{Bool, true, false, cond}
use mathlib.Core.List.{List, [], ◌∷◌}
use native.Mathlib.Nat.{sub-zero}
use native.Mathlib.Omega.{arith}
use lib.Dec.{eqb}
use lib.ListN.{length, get_or, take, drop, length-drop}
use lib.Seq.{drop-drop}
use borrow.Author.Tests.{le-leb, lt-leb, eq-eqb, ne_eqb}
use borrow.Rule.Slice.PartMut.{mid_of}
use Rattle.rules.specs.declared.Op.{Op}
use Rattle.body.specs.declared.Entry.{Entry}
use Rattle.body.specs.declared.Entry.TheVariants.{Letter, Pair, Within, Wrong}
use Rattle.body.specs.Entry.{entries_by}
use Rattle.body.specs.Check.{depth_of}
use Rattle.body.specs.inner.Machine.{step, run}
use Rattle.body.proofs.Walk.{run_end}
use Rattle.cell.specs.Cell.{cell_words, possible}
use Rattle.cell.specs.Form.{cell_fits, cell_in_form}
use Rattle.cell.proofs.FormLaws.{cell_in_form_fits}
use Rattle.watcher.specs.State.{header, count_of, next_of}
use Rattle.watcher.specs.inner.Walk.{entry_in, judge_cell, judge_m, judged, end_by}
use Rattle.watcher.specs.inner.Form.{sounds, cells_end, judged_end, CellEnds, merged}
use Rattle.watcher.proofs.Judges.{run_none}
use Rattle.watcher.proofs.Entries.{run_step}
use Rattle.watcher.proofs.Piles.{sum_cons, possible_le}
use Rattle.watcher.proofs.Arrays.{part_is, part_long}
use Rattle.watcher.proofs.form.Sounds.{sound_from, sound_turn, sound_lacks, sound_end}

-- a cell at a place, judged
module _ (s : List ℕ) (op : Op) (at y : ℕ) where
  pub cell_taken : at + cell_words op y ≤ length s → cell_fits (next_of s) op (mid_of at (cell_words op y) s) ≡ true
      → (r : ℕ) → r ≡ at + cell_words op y → CellEnds s op at y (Some r)
  unfolding judge_cell
  cell_taken l f r e =
      let k : cell_words op y ≤ length (drop at s) = omega (arith, length-drop at s) in
      let z : judge_cell (next_of s) op y (drop at s) ≡ Some (drop (at + cell_words op y) s) =
      rw (le-leb (cell_words op y) (length (drop at s)) k, f, drop-drop (cell_words op y) at s) in
      (e, omega arith, subst (λ (n : ℕ). judge_cell (next_of s) op y (drop at s) ≡ Some (drop n s)) (sym e) z)

  pub cell_short : at ≤ length s → length s < at + cell_words op y → CellEnds s op at y None
  unfolding judge_cell
  cell_short h l =
      let k : length (drop at s) < cell_words op y = omega (arith, length-drop at s) in
      rw (lt-leb (cell_words op y) (length (drop at s)) k)

  pub cell_broken : at + cell_words op y ≤ length s → cell_fits (next_of s) op (mid_of at (cell_words op y) s) ≡ false → CellEnds s op at y None
  unfolding judge_cell
  cell_broken l f =
      let k : cell_words op y ≤ length (drop at s) = omega (arith, length-drop at s) in
      rw (le-leb (cell_words op y) (length (drop at s)) k, f)

-- what is told of the part of a slice that is a cell
pub cell_told : (s : List ℕ) (op : Op) (at y r : ℕ) → r ≡ cell_words op y → at + r ≤ length s
    → cell_fits (next_of s) op (mid_of at (cell_words op y) s) ≡ cell_in_form (next_of s) op (take (at + r - at) (drop at s))
cell_told s op at y r e h =
    ap (cell_fits (next_of s) op) (sym (part_is s at r (cell_words op y) e))
    ∙ sym (cell_in_form_fits (next_of s) op (take (at + r - at) (drop at s)) y (part_long s at r h ∙ e))

-- before entry i: the next cell begins at a place, and st is the stack
pub record Judging (s : List ℕ) (i at : ℕ) (st : List ℕ) : Type 0 where
  pub few : sum st + length st ≤ i
  pub low : 2 ≤ at
  pub inside : at ≤ length s
  pub sound : sound_from (entry_in s) (count_of s) i (length st) ≡ sounds s
  pub same : (run (judge_m (next_of s)) (entries_by (entry_in s) i (count_of s - i)) st (Some (drop at s))).1 ≡ judged s

pub judging_start : (s : List ℕ) → header + count_of s ≤ length s → Judging s 0 (header + count_of s) []
unfolding judged sounds
judging_start s h = record { few = omega arith; low = omega arith; inside = h; sound = simp sub-zero; same = simp sub-zero }

-- entries that break a rule, and cells of which one is not in form
unsound_end : (s : List ℕ) → sounds s ≡ false → None ≡ judged_end s
unfolding judged_end
unsound_end s q = rw q

broken_end : (s : List ℕ) → judged s ≡ None → None ≡ judged_end s
unfolding judged_end cells_end
broken_end s q = rw q (go (sounds s))
  where
    go : (b : Bool) → ◌≡◌ {A = Option ℕ} None (cond b None None)
    go true = refl
    go false = refl

module _ {s : List ℕ} {i at : ℕ} {st : List ℕ} (x : Judging s i at st) where
  -- the end: every cell is in form, and one tree is left or not
  module _ (h : i ≡ count_of s) where
    one_left : sounds s ≡ eqb (length st) 1
    one_left = sym (sound_end (entry_in s) (count_of s) i (length st) h ∙ x.sound)

    cells_left : cells_end s ≡ Some at
    unfolding cells_end
    cells_left =
        let z : judged s ≡ Some (drop at s) =
        sym x.same
        ∙ ap (λ (r : List ℕ × Option (List ℕ)). r.1) (run_end (judge_m (next_of s)) (entry_in s) (count_of s) i st (Some (drop at s)) (omega arith)) in
        let e : length s - length (drop at s) ≡ at = omega (arith, length-drop at s, x.inside) in
        ap (end_by (length s)) z ∙ ap Some e

    pub judging_one : length st ≡ 1 → Some at ≡ judged_end s
    unfolding judged_end
    judging_one e = rw (one_left, eq-eqb (length st) 1 e, cells_left)

    pub judging_other : (length st ≡ 1 → ⊥) → None ≡ judged_end s
    judging_other e = unsound_end s (one_left ∙ ne_eqb (length st) 1 e)

  module _ (h : i < count_of s) where
    -- an entry that finds too few trees, or is None
    pub judging_lacks : (e : Entry) → entry_in s i ≡ e → depth_of e (length st) ≡ None → None ≡ judged_end s
    judging_lacks e q d =
        unsound_end s
        (sym x.sound ∙ sym (sound_lacks (entry_in s) (count_of s) i (length st) h (ap (λ (a : Entry). depth_of a (length st)) q ∙ d)))

    -- where the turn leads, by the step of its entry
    turned : (e : Entry) → entry_in s i ≡ e → (st' : List ℕ) (g : Option (List ℕ)) → step (judge_m (next_of s)) e st (Some (drop at s)) ≡ (st', g)
        → (run (judge_m (next_of s)) (entries_by (entry_in s) (i + 1) (count_of s - (i + 1))) st' g).1 ≡ judged s
    turned e q st' g d =
        ap (λ (r : List ℕ × Option (List ℕ)). r.1)
        (run_step (judge_m (next_of s)) (entry_in s) (count_of s) i st st' (Some (drop at s)) g e h q d)
        ∙ x.same

    deeper : (e : Entry) → entry_in s i ≡ e → (d : ℕ) → depth_of e (length st) ≡ Some d → sound_from (entry_in s) (count_of s) (i + 1) d ≡ sounds s
    deeper e q d k = sound_turn (entry_in s) (count_of s) i (length st) d h (ap (λ (a : Entry). depth_of a (length st)) q ∙ k) ∙ x.sound

    pub judging_letter : (n : ℕ) → entry_in s i ≡ Letter n → Judging s (i + 1) at (0 ∷ st)
    unfolding step depth_of
    judging_letter n q =
        let e : length st + 1 ≡ length (0 ∷ st) = omega arith in
        record {
          few = omega (arith, x.few, sum_cons 0 st);
          low = x.low;
          inside = x.inside;
          sound = deeper (Letter n) q (length (0 ∷ st)) (ap Some e);
          same = turned (Letter n) q (0 ∷ st) (Some (drop at s)) refl;
        }

    pub judging_within : (n : ℕ) → entry_in s i ≡ Within n → 1 ≤ length st → Judging s (i + 1) at st
    unfolding step depth_of
    judging_within n q one = record {
      few = omega (arith, x.few);
      low = x.low;
      inside = x.inside;
      sound = deeper (Within n) q (length st) (rw (le-leb 1 (length st) one));
      same = turned (Within n) q st (Some (drop at s)) (within_same st);
    }
      where
        within_same : (st : List ℕ) → step (judge_m (next_of s)) (Within n) st (Some (drop at s)) ≡ (st, Some (drop at s))
        within_same [] = refl
        within_same (a ∷ st) = refl

    -- too few trees
    pub judging_wrong : entry_in s i ≡ Wrong → None ≡ judged_end s
    unfolding depth_of
    judging_wrong q = judging_lacks Wrong q refl

    pub judging_no_one : (n : ℕ) → entry_in s i ≡ Within n → length st < 1 → None ≡ judged_end s
    unfolding depth_of
    judging_no_one n q l = judging_lacks (Within n) q (rw (lt-leb 1 (length st) l))

    pub judging_no_two : (op : Op) → entry_in s i ≡ Pair op → length st < 2 → None ≡ judged_end s
    unfolding depth_of
    judging_no_two op q l = judging_lacks (Pair op) q (rw (lt-leb 2 (length st) l))

-- an operator: its cell is in form; or not, and then neither is the state
module _ {s : List ℕ} {i at a b : ℕ} {st : List ℕ} (x : Judging s i at (b ∷ a ∷ st)) (h : i < count_of s) (op : Op) (q : entry_in s i ≡ Pair op) where
  stepped : (g : Option (List ℕ)) → judge_cell (next_of s) op b (drop at s) ≡ g
      → (run (judge_m (next_of s)) (entries_by (entry_in s) (i + 1) (count_of s - (i + 1))) (possible op a b ∷ st) g).1 ≡ judged s
  unfolding step
  stepped g e = turned x h (Pair op) q (possible op a b ∷ st) g (ap (λ (r : Option (List ℕ)). (possible op a b ∷ st, r)) e)

  judging_pair : (r : ℕ) → CellEnds s op at b (Some r) → Judging s (i + 1) r (possible op a b ∷ st)
  unfolding depth_of
  judging_pair r k =
      let e : length (b ∷ a ∷ st) - 1 ≡ length (possible op a b ∷ st) = omega arith in
      record {
        few = omega (arith, x.few, possible_le op a b, sum_cons);
        low = omega (arith, x.low, k.0);
        inside = k.1;
        sound = deeper x h (Pair op) q (length (possible op a b ∷ st)) (rw (le-leb 2 (length (b ∷ a ∷ st)) (omega arith)) (ap Some e));
        same = stepped (Some (drop r s)) k.2;
      }

  broken_pair : CellEnds s op at b None → None ≡ judged_end s
  broken_pair k =
      broken_end s
      (sym (stepped None k) ∙ run_none (next_of s) (entries_by (entry_in s) (i + 1) (count_of s - (i + 1))) (possible op a b ∷ st))

module _ {s : List ℕ} {i at : ℕ} where
  pub judging_merge : {st : List ℕ} → Judging s i at st → i < count_of s → (op : Op) → entry_in s i ≡ Pair op → 2 ≤ length st
      → (r : ℕ) → CellEnds s op at (get_or st 0 0) (Some r) → Judging s (i + 1) r (merged op st)
  judging_merge {st = []} x h op q two r k = absurd (omega arith)
  judging_merge {st = b ∷ []} x h op q two r k = absurd (omega arith)
  judging_merge {st = b ∷ a ∷ st} x h op q two r k = judging_pair x h op q r k

  pub judging_broken : {st : List ℕ} → Judging s i at st → i < count_of s → (op : Op) → entry_in s i ≡ Pair op → 2 ≤ length st
      → CellEnds s op at (get_or st 0 0) None → None ≡ judged_end s
  judging_broken {st = []} x h op q two k = absurd (omega arith)
  judging_broken {st = b ∷ []} x h op q two k = absurd (omega arith)
  judging_broken {st = b ∷ a ∷ st} x h op q two k = broken_pair x h op q k
