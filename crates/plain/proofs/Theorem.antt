-- The claims of specs/Claim, proved: the rows show and count the instances of the rules, the promises leave no choice, and the evaluator agrees
-- with the detector.
-- Assumes nothing.
use Rattle.std.specs.Prelude.{Result, Some, None, Ok, Err}
use mathlib.Core.Path.{◌≡◌, refl, sym, ap, ◌∙◌, subst}
use mathlib.Core.Logic.{◌↔◌, inl, inr, ⊎_elim}
use mathlib.Core.List.{List, [], ◌∷◌, ◌++◌, append_assoc}
use Prim.Native.Nat.{ℕ, zero, suc, pred, ◌+◌, ◌*◌, ◌/◌, ◌%◌, ◌^◌, ◌<◌}
use native.Mathlib.Decide.{dec_lt, ℕ_discrete}
use native.Mathlib.Omega.{arith}
use lib.ListN.{get_or, length, length-append}
use lib.Seq.{ext_get_or, get_or_at}
use Rattle.refusal.specs.declared.Refusal.{Refusal}
use Rattle.rules.proofs.Impossible.{impossible}
use Rattle.rules.specs.Bits.{bit, On, ones_below}
use Rattle.rules.specs.Limits.{argument_bytes}
use Rattle.rules.specs.Lists.{In}
use Rattle.rules.specs.Pattern.{Pattern, event, pair, within, size}
use Rattle.rules.specs.Instances.{Record, Has, Latest}
use Rattle.rules.specs.History.{Tick, Rising, record_of}
use Rattle.rules.specs.Decisions.{pick}
use Rattle.rules.proofs.Bits.{bit_lt, ext}
use Rattle.rules.proofs.Facts.{has_le, has_agree, latest_unique}
use Rattle.detector.specs.Step.{answer}
use Rattle.detector.specs.Run.{run}
use Rattle.detector.proofs.Theorem.{always}
use Rattle.body.specs.Check.{on_check, check_of}
use Rattle.body.proofs.Bodies.{sound_pattern}
use Rattle.body.proofs.Trees.{size_pos}
use Rattle.plain.specs.Rows.{Shown, rows_of, worded, parts, Written}
use Rattle.plain.specs.Answer.{evaluation_of, Answers}
use Rattle.plain.specs.Claim.{ShownExactly, Words, OneAnswer, OneStart, start_number, LatestOfRow, Count, CountsInstances, history_from, AgreesWithDetector}
use Rattle.plain.proofs.Fills.{row_at}
use Rattle.plain.proofs.Sets.{latest_le}
use Rattle.plain.proofs.Steps.{rows_past}
use Rattle.plain.proofs.Ends.{length_parts}

pub shown_exactly : ShownExactly
shown_exactly b words old new e body a k h = (a.rows e body).shown k h

pub one_start : OneStart
one_start row None None h k = refl
one_start row None (Some s) h k = absurd (h s k.0)
one_start row (Some s) None h k = absurd (k s h.0)
one_start row (Some s) (Some t) h k = let e : s ≡ t = omega (arith, latest_le row s t h k.0, latest_le row t s k h.0) in ap Some e

pub latest_of_row : LatestOfRow
latest_of_row b words old new e body a k h t None l = record {
  bound = λ s x. absurd (l s ((shown_exactly b words old new e body a k h s t).1 x));
  real = λ s p. absurd (omega arith);
}
latest_of_row b words old new e body a k h t (Some s) l = record {
  bound = λ u x. omega (arith, latest_le (get_or (rows_of new k) t 0) s u l ((shown_exactly b words old new e body a k h u t).1 x));
  real = λ u p.
      let q : s ≡ u = omega arith in
      (shown_exactly b words old new e body a k h u t).0 (subst (On (get_or (rows_of new k) t 0)) q l.0);
}

-- the bits below k that are set, from the highest down
bits_below : (k row : ℕ) → Count (λ s. (s < k) × On row s) (ones_below k row)
unfolding ones_below
bits_below zero row = record { those = []; distinct = tt; exactly = λ s. ((λ i. absurd i), (λ p. absurd (omega (arith, p.0)))); many = refl }
bits_below (suc k) row = go (bits_below k row) (ℕ_discrete (bit row k) 1)
  where
    go : Count (λ s. (s < k) × On row s) (ones_below k row) → Dec (On row k) → Count (λ s. (s < suc k) × On row s) (bit row k + ones_below k row)
    go c (yes h) = record {
      those = k ∷ c.those;
      distinct = ((λ i. omega (arith, ((c.exactly k).0 i).0)), c.distinct);
      exactly = λ s. (
        ⊎_elim (λ q. (omega arith, subst (On row) (sym q) h)) (λ i. let p = (c.exactly s).0 i in (omega (arith, p.0), p.1)),
        λ p. at s p (ℕ_discrete s k),
      );
      many = omega (arith, c.many);
    }
      where
        at : (s : ℕ) → (s < suc k) × On row s → Dec (s ≡ k) → In s (k ∷ c.those)
        at s p (yes q) = inl q
        at s p (no q) = inr ((c.exactly s).1 (omega (arith, p.0), p.1))
    go c (no h) = record {
      those = c.those;
      distinct = c.distinct;
      exactly = λ s. (
        (λ i. let p = (c.exactly s).0 i in (omega (arith, p.0), p.1)),
        λ p. (c.exactly s).1 (below s p (ℕ_discrete s k), p.1),
      );
      many = omega (arith, c.many, bit_lt row k);
    }
      where
        below : (s : ℕ) → (s < suc k) × On row s → Dec (s ≡ k) → s < k
        below s p (yes q) = absurd (h (subst (On row) q p.1))
        below s p (no q) = omega (arith, p.0)

-- a start stands at its end or before it, so below 64
pub counts_instances : CountsInstances
counts_instances b words old new e body a k h t =
    let c = bits_below 64 (get_or (rows_of new k) t 0) in record {
      those = c.those;
      distinct = c.distinct;
      exactly = λ s. ((λ i. (shown s).0 ((c.exactly s).0 i).1), λ x. (c.exactly s).1 (low s x (dec_lt t 64), (shown s).1 x));
      many = c.many;
    }
  where
    shown : (s : ℕ) → Shown (rows_of new k) s t ↔ Has (worded words) (get_or (parts e) k (event 0)) s t
    shown s = shown_exactly b words old new e body a k h s t

    low : (s : ℕ) → Has (worded words) (get_or (parts e) k (event 0)) s t → Dec (t < 64) → s < 64
    low s x (yes l) = omega (arith, has_le (worded words) (get_or (parts e) k (event 0)) s t x)
    low s x (no l) = absurd (rows_past new k s t (omega arith) ((shown s).1 x))

-- two rows of 64 bits that show the same starts are the same row
same_row : (a b : ℕ) → a < 2 ^ 64 → b < 2 ^ 64 → ((s : ℕ) → On a s → On b s) → ((s : ℕ) → On b s → On a s) → a ≡ b
same_row a b ha hb f g = ext 64 a b ha hb (λ s l. at s (dec_lt 0 (bit a s)) (dec_lt 0 (bit b s)))
  where
    at : (s : ℕ) → Dec (0 < bit a s) → Dec (0 < bit b s) → bit a s ≡ bit b s
    at s (yes p) d = omega (arith, bit_lt a s, f s (omega (arith, bit_lt a s)))
    at s (no p) (yes q) = omega (arith, bit_lt b s, g s (omega (arith, bit_lt b s)))
    at s (no p) (no q) = omega arith

-- the rows of a pattern are written in one way
one_written : (r : Record) (es : List Pattern) (old new new' : List ℕ) → Words new → Words new' → Written r es old new → Written r es old new' → new ≡ new'
one_written r es old new new' w w' a a' =
    ext_get_or 0 new new' (a.long ∙ sym a'.long) (λ i h. at i (dec_lt i (length es * 64)))
  where
    in_row : (k e : ℕ) → k < length es → e < 64 → get_or new (k * 64 + e) 0 ≡ get_or new' (k * 64 + e) 0
    in_row k e h l =
        same_row (get_or new (k * 64 + e) 0) (get_or new' (k * 64 + e) 0) (w (k * 64 + e)) (w' (k * 64 + e))
        (λ s x. subst (λ (z : ℕ). On z s) (row_at new' k e l) ((a'.shown k h s e).1 ((a.shown k h s e).0 (subst (λ (z : ℕ). On z s) (sym (row_at new k e l)) x))))
        (λ s x. subst (λ (z : ℕ). On z s) (row_at new k e l) ((a.shown k h s e).1 ((a'.shown k h s e).0 (subst (λ (z : ℕ). On z s) (sym (row_at new' k e l)) x))))

    at : (i : ℕ) → Dec (i < length es * 64) → get_or new i 0 ≡ get_or new' i 0
    at i (yes h) =
        let e : i / 64 * 64 + i % 64 ≡ i = omega arith in
        subst (λ (j : ℕ). get_or new j 0 ≡ get_or new' j 0) e (in_row (i / 64) (i % 64) (omega arith) (omega arith))
    at i (no h) = a.kept i (omega arith) ∙ sym (a'.kept i (omega arith))

-- a body that was evaluated is sound
if_evaluated : (c : Result (Unit {0}) Refusal) (x : Result (Unit {0}) Refusal) → on_check c Err x ≡ Ok tt → c ≡ Ok tt
if_evaluated (Ok _) x p = refl
if_evaluated (Err r) x p = impossible cc

evaluated_sound : (b : List ℕ) (words room : ℕ) → Ok tt ≡ evaluation_of b words room → check_of argument_bytes b ≡ Ok tt
unfolding evaluation_of
evaluated_sound b words room p = if_evaluated (check_of argument_bytes b) _ (sym p)

pub one_answer : OneAnswer
one_answer b words old new new' a a' w u u' h h' = (same, slices a a' same h h')
  where
    same : a ≡ a'
    same = h.answered ∙ sym h'.answered

    slices : (a a' : Result (Unit {0}) Refusal) → a ≡ a' → Answers b words old new a → Answers b words old new' a' → new ≡ new'
    slices (Ok _) (Ok _) p h h' =
        let f = sound_pattern argument_bytes b w (evaluated_sound b (length words) (length old) h.answered) in
        one_written (worded words) (parts f.0) old new new' u u' (h.rows f.0 f.1) (h'.rows f.0 f.1)
    slices (Ok _) (Err r) p h h' = impossible cc
    slices (Err r) (Ok _) p h h' = impossible cc
    slices (Err r) (Err r') p h h' = h.rows ∙ sym h'.rows

-- the last entry ends the whole pattern
last_part : (e : Pattern) → get_or (parts e) (pred (size e)) (event 0) ≡ e
unfolding parts size
last_part (event n) = refl
last_part (pair op x y) =
    let q : length (parts x ++ parts y) ≡ pred (size x + size y + 1) = length-append (parts x) (parts y) ∙ omega (arith, length_parts x, length_parts y) in
    ap (λ (l : List Pattern). get_or l (pred (size x + size y + 1)) (event 0)) (sym (append_assoc (parts x) (parts y) (pair op x y ∷ [])))
    ∙ get_or_at (parts x ++ parts y) (pair op x y) [] (event 0) (pred (size x + size y + 1)) q
last_part (within x n) = get_or_at (parts x) (within x n) [] (event 0) (pred (size x + 1)) (omega (arith, length_parts x))

-- the history of words rises, and its record is that of the words
history_rises : (i : ℕ) (words : List ℕ) → Rising i (history_from i words)
unfolding history_from
history_rises i [] = tt
history_rises i (w ∷ words) = (omega arith, history_rises (suc i) words)

history_record : (words : List ℕ) (i u : ℕ) → record_of (history_from i words) (i + u) ≡ worded words u
unfolding history_from record_of
history_record [] i u = refl
history_record (w ∷ words) i zero = go (ℕ_discrete (i + 0) i)
  where
    go : (d : Dec (i + 0 ≡ i)) → pick d w (record_of (history_from (suc i) words) (i + 0)) ≡ w
    go (yes d) = refl
    go (no d) = absurd (d (omega arith))
history_record (w ∷ words) i (suc u) = go (ℕ_discrete (i + suc u) i) (history_record words (suc i) u)
  where
    go : (d : Dec (i + suc u ≡ i)) → record_of (history_from (suc i) words) (suc i + u) ≡ worded words u
        → pick d w (record_of (history_from (suc i) words) (i + suc u)) ≡ worded words u
    go (yes d) r = absurd (omega arith)
    go (no d) r = let z : i + suc u ≡ suc i + u = omega arith in ap (record_of (history_from (suc i) words)) z ∙ r

history_append : (before : List ℕ) (i w : ℕ) (after : List ℕ) → history_from i (before ++ (w ∷ after))
    ≡ history_from i before ++ ((i + length before, w) ∷ history_from (suc (i + length before)) after)
unfolding history_from
history_append [] i w after = let z : i ≡ i + 0 = omega arith in ap (λ (j : ℕ). (j, w) ∷ history_from (suc j) after) z
history_append (v ∷ before) i w after =
    let z : suc i + length before ≡ i + suc (length before) = omega arith in
    ap (λ (l : List Tick). (i, v) ∷ l) (history_append before (suc i) w after
    ∙ ap (λ (j : ℕ). history_from (suc i) before ++ ((j, w) ∷ history_from (suc j) after)) z)

zero_plus : (u : ℕ) → 0 + u ≡ u
zero_plus u = omega arith

pub agrees_with_detector : AgreesWithDetector
agrees_with_detector b old new e before after w body a start l =
    let words : List ℕ = before ++ (w ∷ after) in
    let t : ℕ = length before in
    let rest : List Tick = history_from (suc t) after in
    let h : List Tick = history_from 0 before ++ ((t, w) ∷ rest) in
    let z : 0 + length before ≡ length before = omega arith in
    let same : history_from 0 words ≡ h =
    history_append before 0 w after ∙ ap (λ (j : ℕ). history_from 0 before ++ ((j, w) ∷ history_from (suc j) after)) z in
    let rises : Rising 0 h = subst (Rising 0) same (history_rises 0 words) in
    let of : (u : ℕ) → record_of h u ≡ worded words u = λ u. subst (λ (z : List Tick). record_of z u ≡ worded words u) same (ap (record_of (history_from 0 words)) (sym (zero_plus u)) ∙ history_record words 0 u) in
    let d : Latest (Has (record_of h) e) t (answer e (run e (history_from 0 before)) t w) = always e (history_from 0 before) rest t w rises in
    let k : pred (size e) < length (parts e) = omega (arith, length_parts e, size_pos e) in
    let p : Latest (Has (worded words) e) t (start_number start) =
    subst (λ (q : Pattern). Latest (Has (worded words) q) t (start_number start)) (last_part e)
    (latest_of_row b words old new e body a (pred (size e)) k t start l) in
    let moved : Latest (Has (worded words) e) t (answer e (run e (history_from 0 before)) t w) = record {
      bound = λ s x. d.bound s (has_agree (worded words) (record_of h) e s t (λ u m. sym (of u)) x);
      real = λ s q. has_agree (record_of h) (worded words) e s t (λ u m. of u) (d.real s q);
    } in
    latest_unique p moved
