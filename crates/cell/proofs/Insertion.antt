-- A pair put in its place by carrying: each later pair moves up by one. Where starts rise strictly this is `insert`. Assumes nothing.
use mathlib.Core.Path.{◌≡◌, refl, sym, ap, ap₂, ◌∙◌, subst}
use mathlib.Core.List.{List, [], ◌∷◌, ◌++◌, append_assoc}
use Prim.Native.Nat.{ℕ, ◌+◌, ◌-◌, ◌*◌, ◌≤◌, ◌<◌}
use native.Mathlib.Nat.{sub-zero}
use native.Mathlib.Decide.{dec_lt}
use native.Mathlib.Omega.{arith}
use lib.ListN.{length}
use Rattle.rules.specs.Decisions.{pick}
use Rattle.rules.proofs.Decisions.{pick_yes, pick_no}
use Rattle.detector.specs.Memory.{Span}
use Rattle.detector.specs.Choice.{better, insert}
use Rattle.detector.specs.Form.{Sorted}
use Rattle.detector.proofs.Order.{insert_sorted}
use Rattle.cell.specs.Words.{span_at}
use Rattle.cell.specs.Pairs.{spans_from, put_span}
use Rattle.cell.proofs.Pairs.{spans_first, spans_end, spans_last, spans_split, spans_put_low, spans_put_high, span_put, spans_put}

insert_before : (p q : Span) (l : List Span) → p.start < q.start → insert p (q ∷ l) ≡ p ∷ q ∷ l
unfolding insert
insert_before p q l h =
    pick_yes (dec_lt p.start q.start) (p ∷ q ∷ l) (pick (dec_lt q.start p.start) (q ∷ insert p l) (better p q ∷ l)) h

insert_beyond : (p q : Span) (l : List Span) → q.start < p.start → insert p (q ∷ l) ≡ q ∷ insert p l
unfolding insert
insert_beyond p q l h =
    pick_no (dec_lt p.start q.start) (p ∷ q ∷ l) (pick (dec_lt q.start p.start) (q ∷ insert p l) (better p q ∷ l)) (λ k. omega arith)
    ∙ pick_yes (dec_lt q.start p.start) (q ∷ insert p l) (better p q ∷ l) h

insert_same : (p q : Span) (l : List Span) → p.start ≡ q.start → insert p (q ∷ l) ≡ better p q ∷ l
unfolding insert
insert_same p q l h =
    pick_no (dec_lt p.start q.start) (p ∷ q ∷ l) (pick (dec_lt q.start p.start) (q ∷ insert p l) (better p q ∷ l)) (λ k. omega arith)
    ∙ pick_no (dec_lt q.start p.start) (q ∷ insert p l) (better p q ∷ l) (λ k. omega arith)

-- a pair below all the others comes first
insert_first : (q : Span) (l : List Span) → Sorted q.start l → insert q l ≡ q ∷ l
unfolding insert
insert_first q [] s = refl
insert_first q (k ∷ l) s = insert_before q k l s.0

sorted_lower : (b : ℕ) (l : List Span) → Sorted b l → Sorted 0 l
sorted_lower b [] s = tt
sorted_lower b (q ∷ l) s = (omega (arith, s.0), s.1)

-- before pair i is looked at, where `carried` is still to be put: what is before it stands, and inserting it in what is left makes the whole
pub record Carrying (whole : List Span) (n : ℕ) (s : List ℕ) (i : ℕ) (carried : Span) : Type 0 where
  pub within : i ≤ n
  pub rising : Sorted 0 whole
  pub sorted : Sorted 0 (spans_from s (2 * i) (n - i))
  pub same : spans_from s 0 i ++ insert carried (spans_from s (2 * i) (n - i)) ≡ whole

pub carry_start : (s : List ℕ) (n : ℕ) (p : Span) → 0 < p.start → Sorted 0 (spans_from s 0 n) → Carrying (insert p (spans_from s 0 n)) n s 0 p
unfolding spans_from
carry_start s n p h r =
    record {
      within = omega arith;
      rising = insert_sorted 0 p (spans_from s 0 n) h r;
      sorted = rw sub-zero r;
      same = rw sub-zero refl;
    }

-- the pairs after pair i
abbrev rest : List ℕ → ℕ → ℕ → List Span
rest s n i = spans_from s (2 * (i + 1)) (n - (i + 1))

module _ {whole : List Span} {n : ℕ} {s : List ℕ} {i : ℕ} {p : Span} (c : Carrying whole n s i p) where
  sorted_rest : i < n → Sorted (span_at s (2 * i)).start (rest s n i)
  sorted_rest h =
      let k : Sorted 0 (span_at s (2 * i) ∷ rest s n i) = subst (Sorted 0) (spans_first s n i h) c.sorted in
      k.1

  same_here : i < n → spans_from s 0 i ++ insert p (span_at s (2 * i) ∷ rest s n i) ≡ whole
  same_here h = ap (λ (l : List Span). spans_from s 0 i ++ insert p l) (sym (spans_first s n i h)) ∙ c.same

  later_here :
      (h : i < n) → 2 * i + 1 < length s → p.start < (span_at s (2 * i)).start
      → Carrying whole n (put_span s (2 * i) p) (i + 1) (span_at s (2 * i))
  later_here h l lt =
      let low = spans_put_low s i (n - (i + 1)) p in
      record {
        within = omega arith;
        rising = c.rising;
        sorted = subst (Sorted 0) (sym low) (sorted_lower _ (rest s n i) (sorted_rest h));
        same =
            ap₂ (λ (a b : List Span). a ++ insert (span_at s (2 * i)) b) (spans_put s i p l) low
            ∙ append_assoc (spans_from s 0 i) (p ∷ []) (insert (span_at s (2 * i)) (rest s n i))
            ∙ ap (λ (a : List Span). spans_from s 0 i ++ (p ∷ a)) (insert_first (span_at s (2 * i)) (rest s n i) (sorted_rest h))
            ∙ ap (λ (a : List Span). spans_from s 0 i ++ a) (sym (insert_before p (span_at s (2 * i)) (rest s n i) lt)) ∙ same_here h;
      }

  -- the one here starts later: it is carried on
  pub carry_later :
      (q : Span) (s' : List ℕ) → i < n → 2 * i + 1 < length s → q ≡ span_at s (2 * i) → p.start < q.start → s' ≡ put_span s (2 * i) p
      → Carrying whole n s' (i + 1) q
  carry_later q s' h l e lt w = rw (w, e) (later_here h l (rw e at lt))

  past_here : (h : i < n) → (span_at s (2 * i)).start < p.start → Carrying whole n s (i + 1) p
  past_here h lt =
      record {
        within = omega arith;
        rising = c.rising;
        sorted = sorted_lower _ (rest s n i) (sorted_rest h);
        same =
            ap (λ (a : List Span). a ++ insert p (rest s n i)) (spans_last s i)
            ∙ append_assoc (spans_from s 0 i) (span_at s (2 * i) ∷ []) (insert p (rest s n i))
            ∙ ap (λ (a : List Span). spans_from s 0 i ++ a) (sym (insert_beyond p (span_at s (2 * i)) (rest s n i) lt)) ∙ same_here h;
      }

  -- the one here starts earlier: it stays
  pub carry_past : (q : Span) → i < n → q ≡ span_at s (2 * i) → (p.start ≡ q.start → ⊥) → q.start ≤ p.start → Carrying whole n s (i + 1) p
  carry_past q h e k l = past_here h (omega (arith, ap (λ (z : Span). z.start) e))

  met_here :
      (h : i < n) → 2 * i + 1 < length s → p.start ≡ (span_at s (2 * i)).start
      → spans_from (put_span s (2 * i) (better p (span_at s (2 * i)))) 0 n ≡ whole
  met_here h l e =
      let q : Span = better p (span_at s (2 * i)) in
      let s' : List ℕ = put_span s (2 * i) q in
      spans_split s' n i (omega arith)
      ∙ ap₂ (λ (a b : List Span). a ++ b) (spans_put_high s i q)
      (spans_first s' n i h ∙ ap₂ (λ (a : Span) (b : List Span). a ∷ b) (span_put s (2 * i) q l) (spans_put_low s i (n - (i + 1)) q))
      ∙ ap (λ (a : List Span). spans_from s 0 i ++ a) (sym (insert_same p (span_at s (2 * i)) (rest s n i) e)) ∙ same_here h

  -- both start together: the better one stays, and nothing moves
  pub carry_met :
      (q r : Span) (s' : List ℕ) → s' ≡ put_span s (2 * i) r → r ≡ better p q → q ≡ span_at s (2 * i) → p.start ≡ q.start → i < n → 2 * i + 1 < length s
      → spans_from s' 0 n ≡ whole
  carry_met q r s' w b e k h l = rw (w, b, e) (met_here h l (rw e at k))

  -- after the last pair
  pub carry_end : (s' : List ℕ) → n ≤ i → 2 * n + 1 < length s → s' ≡ put_span s (2 * n) p → spans_from s' 0 (n + 1) ≡ whole
  unfolding insert
  carry_end s' h l w =
      let e : i ≡ n = omega (arith, c.within) in
      ap (λ (z : List ℕ). spans_from z 0 (n + 1)) w ∙ spans_put s n p l ∙ ap (λ (k : ℕ). spans_from s 0 k ++ (p ∷ [])) (sym e)
      ∙ ap (λ (a : List Span). spans_from s 0 i ++ insert p a) (sym (spans_end s n i h)) ∙ c.same

  -- where these are the whole, their starts rise strictly
  pub carried_rising : (l : List Span) → l ≡ whole → Sorted 0 l
  carried_rising l e = subst (Sorted 0) (sym e) c.rising
