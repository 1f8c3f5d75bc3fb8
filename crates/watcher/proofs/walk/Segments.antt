-- The stack of a tick in arrays: one answer a place, and the possible starts of all places in one array, place k's from its base up to the
-- next one's. A letter's segment is empty; an operator writes over its right operand's, so those below stay as they are. Assumes nothing.
use Prim.Native.Nat.{ℕ, zero, suc, ◌+◌, ◌-◌, ◌≤◌, ◌<◌}
use mathlib.Core.Path.{◌≡◌, sym, ap, ap₂, subst, ◌∙◌}
use mathlib.Core.List.{List, [], ◌∷◌, ◌++◌, append_assoc}
use native.Mathlib.Omega.{arith}
use lib.ListN.{length, get_or, take, drop, set, length-append, length-drop, length-set, take-append-drop}
use lib.Seq.{take_at, take-append-le, drop-append-le, length-take-le, get_or-set_same, get_or-set_other}
use borrow.Author.Count.{below_more}
use Rattle.watcher.specs.inner.Step.{stack_by}
use Rattle.watcher.proofs.walk.Stacks.{stack_ext, stack_push, stack_pop}
use Rattle.watcher.specs.inner.Walk.{Value}
use Rattle.watcher.specs.inner.Step.{segment, over, value_at, values, Laid, starts_on}

part_front : (a n : ℕ) (p q : List ℕ) → a + n ≤ length p → take n (drop a (p ++ q)) ≡ take n (drop a p)
part_front a n p q h = ap (take n) (drop-append-le a p q (omega arith)) ∙ take-append-le n (drop a p) q (omega (arith, length-drop a p))

-- words written at b: what lies below is as it was, and what ends with them is what came before and then they
module _ (b : ℕ) (c s : List ℕ) where
  pub part_below : (a n : ℕ) → a + n ≤ b → b ≤ length s → take n (drop a (over b c s)) ≡ take n (drop a s)
  part_below a n h k =
      let e : a + n ≤ length (take b s) = omega (arith, length-take-le b s k) in
      part_front a n (take b s) (c ++ drop (b + length c) s) e
      ∙ sym (part_front a n (take b s) (drop b s) e)
      ∙ ap (λ (l : List ℕ). take n (drop a l)) (take-append-drop b s)

  pub part_over : (a : ℕ) → a ≤ b → b ≤ length s → take (b + length c - a) (drop a (over b c s)) ≡ take (b - a) (drop a s) ++ c
  part_over a h k =
      let front : List ℕ = drop a (take b s) in
      let rest : List ℕ = drop (b + length c) s in
      let l : length (take b s) ≡ b = length-take-le b s k in
      let n : length front ≡ b - a = omega (arith, length-drop a (take b s)) in
      let old : take (b - a) (drop a s) ≡ front =
      ap (λ (z : List ℕ). take (b - a) (drop a z)) (sym (take-append-drop b s))
      ∙ ap (take (b - a)) (drop-append-le a (take b s) (drop b s) (omega arith))
      ∙ take_at front (drop b s) (b - a) n in
      ap (take (b + length c - a)) (drop-append-le a (take b s) (c ++ rest) (omega arith) ∙ sym (append_assoc front c rest))
      ∙ take_at (front ++ c) rest (b + length c - a) (omega (arith, length-append front c))
      ∙ ap (λ (z : List ℕ). z ++ c) (sym old)

  pub length_over : b + length c ≤ length s → length (over b c s) ≡ length s
  length_over h =
      omega (
        arith,
        length-append (take b s) (c ++ drop (b + length c) s),
        length-append c (drop (b + length c) s),
        length-take-le b s (omega arith),
        length-drop (b + length c) s,
      )

module _ {deep many : ℕ} {answers base starts : List ℕ} {d : ℕ} (x : Laid deep many answers base starts d) where
  base_from : (k n : ℕ) → k + n ≤ d → get_or base k 0 ≤ get_or base (k + n) 0
  base_from k zero h = let e : k + 0 ≡ k = omega arith in rw e (omega arith)
  base_from k (suc n) h =
      let e : k + suc n ≡ k + n + 1 = omega arith in
      rw e (omega (arith, base_from k n (omega arith), x.rises (k + n) (omega arith)))

  base_le : (k j : ℕ) → k ≤ j → j ≤ d → get_or base k 0 ≤ get_or base j 0
  base_le k j h l = let e : k + (j - k) ≡ j = omega arith in subst (λ (z : ℕ). get_or base k 0 ≤ get_or base z 0) e (base_from k (j - k) (omega arith))

  pub length_segment : (k : ℕ) → k < d → length (segment base starts k) ≡ get_or base (k + 1) 0 - get_or base k 0
  length_segment k h =
      length-take-le (get_or base (k + 1) 0 - get_or base k 0) (drop (get_or base k 0) starts)
      (omega (arith, length-drop (get_or base k 0) starts, base_le (k + 1) d (omega arith) (omega arith), x.few, x.starts_long))

  -- the possible starts below a place are as many as its base
  pub starts_below : (k : ℕ) → k ≤ d → starts_on (values answers base starts k) ≡ get_or base k 0
  unfolding starts_on stack_by
  starts_below zero h = sym x.first
  starts_below (suc k) h =
      let e : get_or base (suc k) 0 ≡ get_or base (k + 1) 0 = ap (λ (j : ℕ). get_or base j 0) (omega arith) in
      omega (arith, starts_below k (omega arith), length_segment k (omega arith), x.rises k (omega arith))

  -- a letter is pushed
  module _ (room : d < deep) (v : ℕ) where
    base' : List ℕ
    base' = set base (d + 1) (get_or base d 0)

    below : (k : ℕ) → k ≤ d → get_or base' k 0 ≡ get_or base k 0
    unfolding base'
    below k h = get_or-set_other base (d + 1) k (get_or base d 0) 0 (omega arith)

    above : get_or base' (d + 1) 0 ≡ get_or base d 0
    unfolding base'
    above = get_or-set_same base (d + 1) (get_or base d 0) 0 (omega (arith, x.base_long))

    pub laid_push : Laid deep many (set answers d v) (set base (d + 1) (get_or base d 0)) starts (d + 1)
    unfolding base'
    laid_push = record {
      answers_long = length-set answers d v ∙ x.answers_long;
      base_long = length-set base (d + 1) (get_or base d 0) ∙ x.base_long;
      starts_long = x.starts_long;
      most = x.most;
      low = omega arith;
      first = below 0 (omega arith) ∙ x.first;
      rises = λ k h.
          below_more (λ (j : ℕ). get_or base' j 0 ≤ get_or base' (j + 1) 0) d
          (λ j l. rw (below j (omega arith), below (j + 1) (omega arith)) (x.rises j l))
          (rw (below d (omega arith), above) (omega arith)) k h;
      few = omega (arith, above, x.few);
    }

    pub values_push : values (set answers d v) (set base (d + 1) (get_or base d 0)) starts (d + 1) ≡ (v, []) ∷ values answers base starts d
    unfolding base'
    values_push =
        let f : ℕ → Value = value_at (set answers d v) base' starts in
        let e : get_or base d 0 - get_or base d 0 ≡ 0 = omega arith in
        let top : f d ≡ (v, []) = rw (get_or-set_same answers d v 0 (omega (arith, x.answers_long)), below d (omega arith), above, e) in
        let rest : stack_by f d ≡ values answers base starts d =
        stack_ext f (value_at answers base starts) d
        (λ k h. rw (get_or-set_other answers d k v 0 (omega arith), below k (omega arith), below (k + 1) (omega arith))) in
        stack_push f d ∙ ap₂ (λ (a : Value) (l : List Value). a ∷ l) top rest

  -- the answer on top changes
  module _ (one : 1 ≤ d) (v : ℕ) where
    pub laid_top : Laid deep many (set answers (d - 1) v) base starts d
    laid_top = record {
      answers_long = length-set answers (d - 1) v ∙ x.answers_long;
      base_long = x.base_long;
      starts_long = x.starts_long;
      most = x.most;
      low = x.low;
      first = x.first;
      rises = x.rises;
      few = x.few;
    }

    pub values_top : values (set answers (d - 1) v) base starts d ≡ (v, segment base starts (d - 1)) ∷ values answers base starts (d - 1)
    values_top =
        let f : ℕ → Value = value_at (set answers (d - 1) v) base starts in
        let top : f (d - 1) ≡ (v, segment base starts (d - 1)) =
        ap (λ (a : ℕ). (a, segment base starts (d - 1))) (get_or-set_same answers (d - 1) v 0 (omega (arith, x.answers_long, x.low))) in
        let rest : stack_by f (d - 1) ≡ values answers base starts (d - 1) =
        stack_ext f (value_at answers base starts) (d - 1)
        (λ k h. ap (λ (a : ℕ). (a, segment base starts k)) (get_or-set_other answers (d - 1) k v 0 (omega arith))) in
        stack_pop f d one ∙ ap₂ (λ (a : Value) (l : List Value). a ∷ l) top rest

-- two operands, at D - 1 and at the top D, become one
module _ {deep many : ℕ} {answers base starts : List ℕ} {D : ℕ} (x : Laid deep many answers base starts (D + 1)) (one : 1 ≤ D) where
  pub values_two : values answers base starts (D + 1)
      ≡ value_at answers base starts D ∷ value_at answers base starts (D - 1) ∷ values answers base starts (D - 1)
  values_two =
      let f : ℕ → Value = value_at answers base starts in
      stack_push f D ∙ ap (λ (l : List Value). f D ∷ l) (stack_pop f D one)

  module _ (v : ℕ) (own : List ℕ) (room : get_or base D 0 + length own ≤ many) where
    after : List ℕ
    after = set base D (get_or base D 0 + length own)

    under : (k : ℕ) → k < D → get_or after k 0 ≡ get_or base k 0
    unfolding after
    under k h = get_or-set_other base D k (get_or base D 0 + length own) 0 (omega arith)

    top_base : get_or after D 0 ≡ get_or base D 0 + length own
    unfolding after
    top_base = get_or-set_same base D (get_or base D 0 + length own) 0 (omega (arith, x.base_long, x.low))

    back : D - 1 + 1 ≡ D
    back = omega arith

    long : get_or base D 0 ≤ length starts
    long = omega (arith, base_le x D (D + 1) (omega arith) (omega arith), x.few, x.starts_long)

    pub laid_pair : Laid deep many (set answers (D - 1) v) (set base D (get_or base D 0 + length own)) (over (get_or base D 0) own starts) D
    unfolding after
    laid_pair = record {
      answers_long = length-set answers (D - 1) v ∙ x.answers_long;
      base_long = length-set base D (get_or base D 0 + length own) ∙ x.base_long;
      starts_long = length_over (get_or base D 0) own starts (omega (arith, x.starts_long)) ∙ x.starts_long;
      most = x.most;
      low = omega (arith, x.low);
      first = under 0 (omega arith) ∙ x.first;
      rises = λ k h.
          below_more (λ (j : ℕ). get_or after j 0 ≤ get_or after (j + 1) 0) (D - 1)
          (λ j l. rw (under j (omega arith), under (j + 1) (omega arith)) (x.rises j (omega arith)))
          (rw (back, under (D - 1) (omega arith), top_base) (omega (arith, base_le x (D - 1) D (omega arith) (omega arith))))
          k (omega arith);
      few = omega (arith, top_base);
    }

    pub values_pair : values (set answers (D - 1) v) (set base D (get_or base D 0 + length own)) (over (get_or base D 0) own starts) D
        ≡ (v, segment base starts (D - 1) ++ own) ∷ values answers base starts (D - 1)
    unfolding after
    values_pair =
        let f : ℕ → Value = value_at (set answers (D - 1) v) after (over (get_or base D 0) own starts) in
        let a : ℕ = get_or base (D - 1) 0 in
        let l : a ≤ get_or base D 0 = base_le x (D - 1) D (omega arith) (omega arith) in
        let seg : segment after (over (get_or base D 0) own starts) (D - 1) ≡ segment base starts (D - 1) ++ own =
        rw (back, top_base, under (D - 1) (omega arith)) (part_over (get_or base D 0) own starts a l long) in
        let top : f (D - 1) ≡ (v, segment base starts (D - 1) ++ own) =
        ap₂ (λ (n : ℕ) (s : List ℕ). (n, s)) (get_or-set_same answers (D - 1) v 0 (omega (arith, x.answers_long, x.low))) seg in
        let rest : stack_by f (D - 1) ≡ values answers base starts (D - 1) =
        stack_ext f (value_at answers base starts) (D - 1)
        (λ k h.
        let m : get_or base (k + 1) 0 ≤ get_or base D 0 = base_le x (k + 1) D (omega arith) (omega arith) in
        rw (get_or-set_other answers (D - 1) k v 0 (omega arith), under k (omega arith), under (k + 1) (omega arith))
        (ap (λ (s : List ℕ). (get_or answers k 0, s))
        (part_below (get_or base D 0) own starts (get_or base k 0) (get_or base (k + 1) 0 - get_or base k 0)
        (omega (arith, x.rises k (omega arith))) long))) in
        stack_pop f D one ∙ ap₂ (λ (n : Value) (s : List Value). n ∷ s) top rest
