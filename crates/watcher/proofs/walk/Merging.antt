-- A stack in arrays, for the functions that change it: what each may read and write, and what it leaves. Assumes nothing.
use Prim.Native.Nat.{ℕ, ◌+◌, ◌-◌, ◌≤◌, ◌<◌}
use mathlib.Core.Path.{◌≡◌, sym, ap, subst, ◌∙◌}
use mathlib.Core.List.{List, [], ◌∷◌}
use native.Mathlib.Omega.{arith}
use lib.ListN.{length, get_or, set, take, drop, length-drop}
use lib.Seq.{length-take-le}
use Rattle.rules.specs.declared.Op.{Op}
use Rattle.cell.specs.Cell.{cell_words, cell_answer, cell_after, starts_after}
use Rattle.cell.proofs.WordLaws.{length_after, length_starts_after}
use Rattle.watcher.proofs.walk.Stacks.{stack_pop, length_stack}
use Rattle.watcher.specs.inner.Walk.{Value, within_answer, last_answer}
use Rattle.watcher.specs.inner.Step.{segment, restricted, value_at, values, Laid, starts_on, PairFits, PairReady, PairDone, Stacked, stack_view, IsStack, holding, Placed, Replaces}
use Rattle.watcher.proofs.walk.Segments.{laid_push, values_push, laid_top, values_top, values_two, laid_pair, values_pair, length_segment, starts_below}
use Rattle.watcher.proofs.walk.Pairing.{starts_after_own}

-- how many places are in use
pub length_values : (answers base starts : List ℕ) (d : ℕ) → length (values answers base starts d) ≡ d
length_values answers base starts d = length_stack (value_at answers base starts) d

-- two operands, at D - 1 and at the top D
module _ {deep many : ℕ} {answers base starts : List ℕ} (D : ℕ) (x : Laid deep many answers base starts (D + 1))
    (op : Op) (s : List ℕ) {st : List Value} (at t : ℕ) (e : values answers base starts (D + 1) ≡ st) (two : 2 ≤ length st)
    (r : PairReady many op s st at t) where
  one : 1 ≤ D
  one = omega (arith, ap length e, length_values answers base starts (D + 1))

  split : values answers base starts (D + 1)
      ≡ value_at answers base starts D ∷ value_at answers base starts (D - 1) ∷ values answers base starts (D - 1)
  split = values_two x one

  fits : PairFits many op s (value_at answers base starts D) (value_at answers base starts (D - 1)) (values answers base starts (D - 1)) at t
  fits = subst (λ (l : List Value). PairReady many op s l at t) (sym e ∙ split) r

  abbrev ys : List ℕ
  ys = segment base starts D

  length_ys : length ys ≡ get_or base (D + 1) 0 - get_or base D 0
  length_ys = length_segment x D (omega arith)

  -- the possible starts below the right operand
  below : starts_on (value_at answers base starts (D - 1) ∷ values answers base starts (D - 1)) ≡ get_or base D 0
  below = ap starts_on (sym (stack_pop (value_at answers base starts) D one)) ∙ starts_below x D (omega arith)

  pub merge_placed : Placed op s answers base starts D at t
  merge_placed = record {
    range = fits.range;
    two = one;
    answers_long = omega (arith, x.answers_long, x.low);
    base_long = omega (arith, x.base_long, x.low);
    starts_long = omega (arith, x.starts_long, x.most);
    rises = x.rises D (omega arith);
    few = omega (arith, x.few, x.starts_long);
    cell = rw length_ys at fits.cell;
    room = rw (length_ys, below, ← x.starts_long) at fits.room;
  }

  module _ {s' answers' base' starts' : List ℕ} {n : ℕ} (g : Replaces op s answers base starts D at t s' answers' base' starts' n) where
    abbrev c : List ℕ
    c = take (cell_words op (length ys)) (drop at s)

    abbrev new : List ℕ
    new = cell_after op (t + 1) (get_or answers (D - 1) 0) (get_or answers D 0) ys c

    abbrev own : List ℕ
    own = starts_after op [] ys new

    abbrev answer : ℕ
    answer = cell_answer op (t + 1) (get_or answers (D - 1) 0) (get_or answers D 0) c

    length_new : length new ≡ cell_words op (length ys)
    length_new =
        length_after op (t + 1) (get_or answers (D - 1) 0) (get_or answers D 0) ys c
        (length-take-le (cell_words op (length ys)) (drop at s) (omega (arith, length-drop at s, fits.cell)))

    room : get_or base D 0 + length own ≤ many
    room = omega (arith, fits.room, below, length_starts_after op [] ys new length_new)

    pub merge_laid : Laid deep many answers' base' starts' D
    merge_laid = rw (g.answered, g.based, g.started) (laid_pair x one answer own room)

    pub merge_done : PairDone op t at s st s' (values answers' base' starts' D) n
    merge_done =
        subst (λ (l : List Value). PairDone op t at s l s' (values answers' base' starts' D) n) (sym split ∙ e)
        (record {
          place = g.place;
          words = g.words;
          stack =
              rw (g.answered, g.based, g.started, values_pair x one answer own room)
              (ap (λ (l : List ℕ). (answer, l) ∷ values answers base starts (D - 1)) (sym (starts_after_own op (segment base starts (D - 1)) ys new)));
        })

-- a stack in arrays, of which d places are in use
module _ {answers base starts : List ℕ} {d : ℕ} (x : IsStack answers base starts d) where
  -- other arrays with as much room
  module _ {a b s : List ℕ} {e : ℕ} (l : Laid (length answers) (length starts) a b s e) where
    stacked : IsStack a b s e
    stacked = rw (l.answers_long, l.starts_long) l

    same_room : stack_view a b s e ≡ holding (stack_view answers base starts d) (values a b s e)
    same_room = rw (l.answers_long, l.starts_long)

  pub in_use : {k : Stacked} → stack_view answers base starts d ≡ k → d ≡ length k.values
  in_use e = sym (length_values answers base starts d) ∙ ap (λ (k : Stacked). length k.values) e

  -- a letter's answer
  pub pushed : {k : Stacked} → stack_view answers base starts d ≡ k → length k.values < k.deep → (v : ℕ)
      → IsStack (set answers d v) (set base (d + 1) (get_or base d 0)) starts (d + 1)
      × (stack_view (set answers d v) (set base (d + 1) (get_or base d 0)) starts (d + 1) ≡ holding k ((v, []) ∷ k.values))
  pushed e h v =
      let room : d < length answers = omega (arith, in_use e, ap (λ (k : Stacked). k.deep) e) in (
        stacked (laid_push x room v),
        same_room (laid_push x room v) ∙ ap (holding (stack_view answers base starts d)) (values_push x room v)
            ∙ ap (λ (k : Stacked). holding k ((v, []) ∷ k.values)) e,
      )

  -- a restriction
  pub restricts : {k : Stacked} → stack_view answers base starts d ≡ k → 1 ≤ length k.values → (v t n : ℕ)
      → v ≡ within_answer t n (get_or answers (d - 1) 0)
      → IsStack (set answers (d - 1) v) base starts d × (stack_view (set answers (d - 1) v) base starts d ≡ holding k (restricted t n k.values))
  restricts e h v t n q =
      let one : 1 ≤ d = omega (arith, in_use e) in
      let top : values answers base starts d ≡ value_at answers base starts (d - 1) ∷ values answers base starts (d - 1) =
      stack_pop (value_at answers base starts) d one in (
        stacked (laid_top x one v),
        same_room (laid_top x one v)
            ∙ ap (holding (stack_view answers base starts d))
            (values_top x one v
            ∙ ap (λ (a : ℕ). (a, segment base starts (d - 1)) ∷ values answers base starts (d - 1)) q
            ∙ ap (restricted t n) (sym top))
            ∙ ap (λ (k : Stacked). holding k (restricted t n k.values)) e,
      )

  -- the only answer
  pub only_answer : {k : Stacked} → stack_view answers base starts d ≡ k → length k.values ≡ 1 → get_or answers 0 0 ≡ last_answer k.values
  only_answer e h =
      let one : 1 ≤ d = omega (arith, in_use e) in
      let z : 0 ≡ d - 1 = omega (arith, in_use e) in
      ap (λ (j : ℕ). get_or answers j 0) z ∙ ap last_answer (sym (stack_pop (value_at answers base starts) d one))
      ∙ ap (λ (k : Stacked). last_answer k.values) e

  -- an operator
  module _ {k : Stacked} (e : stack_view answers base starts d ≡ k) (op : Op) (s : List ℕ) (at t : ℕ) (two : 2 ≤ length k.values)
      (r : PairReady k.many op s k.values at t) where
    back : d - 1 + 1 ≡ d
    back = omega (arith, in_use e)

    laid : Laid (length answers) (length starts) answers base starts (d - 1 + 1)
    laid = rw back x

    same : values answers base starts (d - 1 + 1) ≡ k.values
    same = rw back (ap (λ (k : Stacked). k.values) e)

    ready : PairReady (length starts) op s k.values at t
    ready = subst (λ (m : ℕ). PairReady m op s k.values at t) (sym (ap (λ (k : Stacked). k.many) e)) r

    pub placed : Placed op s answers base starts (d - 1) at t
    placed = merge_placed (d - 1) laid op s at t same two ready

    module _ {s' a b c : List ℕ} {n : ℕ} (g : Replaces op s answers base starts (d - 1) at t s' a b c n) where
      after : Laid (length answers) (length starts) a b c (d - 1)
      after = merge_laid (d - 1) laid op s at t same two ready g

      pub merged_stack : IsStack a b c (d - 1)
      merged_stack = stacked after

      pub merged_room : stack_view a b c (d - 1) ≡ holding k (values a b c (d - 1))
      merged_room = same_room after ∙ ap (λ (k : Stacked). holding k (values a b c (d - 1))) e

      pub merged_done : PairDone op t at s k.values s' (values a b c (d - 1)) n
      merged_done = merge_done (d - 1) laid op s at t same two ready g
