-- An operator's step in the arrays: its cell is stepped where it stands, and what its cell adds to the possible starts goes after those of
-- the right operand or over them, which is the operator's own part of `starts_after`. Assumes nothing.
use Prim.Native.Nat.{ℕ, ◌+◌, ◌-◌, ◌≤◌}
use mathlib.Core.Path.{◌≡◌, refl, sym, ap, ap₂, subst, ◌∙◌}
use mathlib.Core.Bool.{true}
use mathlib.Core.List.{List, [], ◌++◌, append_assoc, append-nil}
use native.Mathlib.Omega.{arith}
use lib.ListN.{length, get_or, take, drop, set, length-append, length-drop}
use lib.Seq.{take_at, drop_at, take-add, drop-drop, length-take-le}
use borrow.Rule.Slice.PartMut.{put_mid}
use Rattle.rules.specs.declared.Op.{Op}
use Rattle.rules.specs.declared.Op.TheVariants.{Either, Both, Without, Chain}
use Rattle.cell.specs.Cell.{cell_words, possible, cell_answer, cell_after, cell_starts, starts_after}
use Rattle.cell.specs.Calls.{is_cell, Stepped, StepAnswers, starts_fit, Pushed, PushAnswers}
use Rattle.cell.proofs.Sizes.{is_cell_of_words}
use Rattle.cell.proofs.Steps.{step_answered}
use Rattle.cell.proofs.StartLaws.{cell_starts_fit, push_answered}
use Rattle.cell.proofs.WordLaws.{length_after, length_cell_starts, length_starts_after}
use Rattle.watcher.specs.inner.Step.{segment, over, own_from, Placed, Replaces}

-- the left operand's starts come first
pub starts_after_own : (op : Op) (xs ys c : List ℕ) → starts_after op xs ys c ≡ xs ++ starts_after op [] ys c
unfolding starts_after
starts_after_own Either xs ys c = refl
starts_after_own Both xs ys c = refl
starts_after_own Without xs ys c = sym (append-nil xs)
starts_after_own Chain xs ys c = refl

module _ (b top : ℕ) (s : List ℕ) (h : b ≤ top) (l : top ≤ length s) where
  over_join : (c : List ℕ) → over top c s ≡ over b (take (top - b) (drop b s) ++ c) s
  over_join c =
      let ys : List ℕ = take (top - b) (drop b s) in
      let e : b + (top - b) ≡ top = omega arith in
      let n : length ys ≡ top - b = length-take-le (top - b) (drop b s) (omega (arith, length-drop b s)) in
      let k : top + length c ≡ b + length (ys ++ c) = omega (arith, length-append ys c) in
      let f : take top s ≡ take b s ++ ys = subst (λ (z : ℕ). take z s ≡ take b s ++ ys) e (take-add b (top - b) s) in
      ap₂ (λ (u v : List ℕ). u ++ (c ++ v)) f (ap (λ (z : ℕ). drop z s) k)
      ∙ append_assoc (take b s) ys (c ++ drop (b + length (ys ++ c)) s)
      ∙ ap (λ (z : List ℕ). take b s ++ z) (sym (append_assoc ys c (drop (b + length (ys ++ c)) s)))

  -- the cell's starts, put where they go, leave the operator's own part
  own_over : (op : Op) (c : List ℕ) → over (own_from op b top) (cell_starts op c) s ≡ over b (starts_after op [] (take (top - b) (drop b s)) c) s
  unfolding own_from cell_starts starts_after
  own_over Either c = over_join [] ∙ ap (λ (z : List ℕ). over b z s) (append-nil (take (top - b) (drop b s)))
  own_over Both c = over_join (cell_starts Both c)
  own_over Without c = refl
  own_over Chain c = refl

own_end : (op : Op) (b top : ℕ) (c : List ℕ) → b ≤ top → length c ≡ cell_words op (top - b)
    → own_from op b top + length (cell_starts op c) ≡ b + possible op 0 (top - b)
unfolding own_from cell_starts possible
own_end Either b top c h l = omega arith
own_end Both b top c h l = omega arith
own_end Without b top c h l = refl
own_end Chain b top c h l = omega (arith, length_cell_starts c (top - b) l)

-- n words of the cell
module _ {op : Op} {s answers base starts : List ℕ} {d at t : ℕ} (p : Placed op s answers base starts d at t)
    (n : ℕ) (q : n ≡ cell_words op (get_or base (d + 1) 0 - get_or base d 0)) where
  abbrev ys : List ℕ
  ys = segment base starts d

  abbrev was : List ℕ
  was = take (cell_words op (length ys)) (drop at s)

  -- lent as the part from its place up to its end
  abbrev lent : List ℕ
  lent = take (at + n - at) (drop at s)

  span : at + n - at ≡ n
  span = omega arith

  length_ys : length ys ≡ get_or base (d + 1) 0 - get_or base d 0
  length_ys =
      length-take-le (get_or base (d + 1) 0 - get_or base d 0) (drop (get_or base d 0) starts)
      (omega (arith, length-drop (get_or base d 0) starts, p.few, p.starts_long))

  words_here : n ≡ cell_words op (length ys)
  words_here = q ∙ ap (cell_words op) (sym length_ys)

  lent_was : lent ≡ was
  lent_was = ap (λ (k : ℕ). take k (drop at s)) (span ∙ words_here)

  length_lent : length lent ≡ n
  length_lent =
      ap (λ (k : ℕ). length (take k (drop at s))) span
      ∙ length-take-le n (drop at s) (omega (arith, length-drop at s, subst (λ (k : ℕ). at + k ≤ length s) (sym q) p.cell))

  lent_cell : is_cell op (length ys) (length lent) ≡ true
  lent_cell = is_cell_of_words op (length ys) (length lent) (omega (arith, length_ys, p.few, p.starts_long)) (length_lent ∙ words_here)

  module _ {new : List ℕ} {a : ℕ} (k : StepAnswers op (t + 1) (get_or answers (d - 1) 0) (get_or answers d 0) ys lent new a) where
    stepped : Stepped op (t + 1) (get_or answers (d - 1) 0) (get_or answers d 0) ys lent new a
    stepped = step_answered lent_cell k

    length_new : length new ≡ n
    length_new =
        ap length stepped.after
        ∙ length_after op (t + 1) (get_or answers (d - 1) 0) (get_or answers d 0) ys lent (length_lent ∙ words_here)
        ∙ sym words_here

    back : take (at + n - at) (drop at (put_mid at (at + n - at) s new)) ≡ new
    back =
        let l : length (take at s) ≡ at = length-take-le at s (omega (arith, p.cell)) in
        ap (take (at + n - at)) (drop_at (take at s) (new ++ drop (at + n - at) (drop at s)) at l)
        ∙ take_at new (drop (at + n - at) (drop at s)) (at + n - at) (length_new ∙ sym span)

    pushed_end : own_from op (get_or base d 0) (get_or base (d + 1) 0) + length (cell_starts op new)
        ≡ get_or base d 0 + possible op 0 (get_or base (d + 1) 0 - get_or base d 0)
    pushed_end = own_end op (get_or base d 0) (get_or base (d + 1) 0) new p.rises (length_new ∙ q)

    pushed_fit : starts_fit op new starts (own_from op (get_or base d 0) (get_or base (d + 1) 0)) ≡ true
    pushed_fit =
        cell_starts_fit op new starts (own_from op (get_or base d 0) (get_or base (d + 1) 0)) (length ys) (length_new ∙ words_here)
        (omega (arith, pushed_end, p.room, p.starts_long))

    module _ {f : ℕ} (o : f ≡ own_from op (get_or base d 0) (get_or base (d + 1) 0)) where
      pub pair_done : {starts' : List ℕ} {r : ℕ}
          → PushAnswers op (take (at + n - at) (drop at (put_mid at (at + n - at) s new))) starts f starts' r
          → Replaces op s answers base starts d at t (put_mid at (at + n - at) s new) (set answers (d - 1) a) (set base d r) starts' (at + n)
      pair_done {starts'} {r} g =
          let x : ℕ = get_or answers (d - 1) 0 in
          let y : ℕ = get_or answers d 0 in
          let b : ℕ = get_or base d 0 in
          let top : ℕ = get_or base (d + 1) 0 in
          let w : Pushed op new starts (own_from op b top) starts' r =
          push_answered pushed_fit
          (subst (λ (z : ℕ). PushAnswers op new starts z starts' r) o (subst (λ (z : List ℕ). PushAnswers op z starts f starts' r) back g)) in
          let e : new ≡ cell_after op (t + 1) x y ys was = stepped.after ∙ ap (cell_after op (t + 1) x y ys) lent_was in
          let own : r ≡ b + length (starts_after op [] ys new) =
          w.place ∙ pushed_end
          ∙ ap (λ (z : ℕ). b + z) (ap (possible op 0) (sym length_ys) ∙ sym (length_starts_after op [] ys new (length_new ∙ words_here))) in
          let rest : drop (at + n - at) (drop at s) ≡ drop (at + length new) s =
          drop-drop (at + n - at) at s ∙ ap (λ (z : ℕ). drop (at + z) s) (span ∙ sym length_new) in
          record {
            place = ap (λ (z : ℕ). at + z) words_here;
            words = ap (λ (z : List ℕ). take at s ++ (new ++ z)) rest ∙ ap (λ (z : List ℕ). over at z s) e;
            answered = ap (set answers (d - 1)) (stepped.answer ∙ ap (cell_answer op (t + 1) x y) lent_was);
            based = ap (set base d) (own ∙ ap (λ (z : List ℕ). b + length (starts_after op [] ys z)) e);
            started =
                w.starts
                ∙ own_over b top starts p.rises (omega (arith, p.few, p.starts_long)) op new
                ∙ ap (λ (z : List ℕ). over b (starts_after op [] ys z) starts) e;
          }
