-- The kept pairs: insertion keeps their starts strictly rising and adds at most one, so they are no more than the possible starts.
-- Assumes nothing.
use mathlib.Core.Path.{◌≡◌, subst}
use mathlib.Core.List.{List, [], ◌∷◌}
use Prim.Native.Nat.{ℕ, suc, pred, ◌≤◌, ◌<◌}
use native.Mathlib.Omega.{arith}
use lib.ListN.{length}
use Rattle.detector.specs.Memory.{Span}
use Rattle.detector.specs.Choice.{better, choose, insert, gather}
use Rattle.detector.specs.Form.{Sorted}
use Rattle.detector.proofs.Choice.{insert_cases, gather_cases, better_start}

-- a pair put in its place keeps the starts strictly rising
pub insert_sorted : (b : ℕ) (p : Span) (l : List Span) → b < p.start → Sorted b l → Sorted b (insert p l)
unfolding insert
insert_sorted b p [] k s = (k, tt)
insert_sorted b p (q ∷ l) k s =
    insert_cases (Sorted b) p q l
    (λ d. (k, (d, s.1)))
    (λ d. (s.0, insert_sorted q.start p l d s.1))
    (λ d. let same : q.start ≡ (better p q).start = omega (arith, better_start p q) in
    (omega (arith, s.0), subst (λ z. Sorted z l) same s.1))

insert_length : (p : Span) (l : List Span) → length (insert p l) ≤ suc (length l)
unfolding insert
insert_length p [] = omega arith
insert_length p (q ∷ l) =
    insert_cases (λ k. length k ≤ suc (length (q ∷ l))) p q l
    (λ d. omega arith) (λ d. omega (arith, insert_length p l)) (λ d. omega arith)

-- the kept pairs have starts strictly rising
pub gather_sorted : (old : List Span) (ss : List ℕ) → Sorted 0 (gather old ss)
unfolding gather
gather_sorted old [] = tt
gather_sorted old (σ ∷ ss) =
    let i = gather_sorted old ss in
    gather_cases (Sorted 0) old σ ss (λ d. insert_sorted 0 (choose old σ) (gather old ss) d i) (λ d. i)

-- and are no more than the possible starts
pub gather_length : (old : List Span) (ss : List ℕ) (n : ℕ) → length ss ≤ n → length (gather old ss) ≤ n
unfolding gather
gather_length old [] n h = h
gather_length old (σ ∷ ss) n h =
    let i = gather_length old ss (pred n) (omega arith) in
    gather_cases (λ l. length l ≤ n) old σ ss (λ d. omega (arith, insert_length (choose old σ) (gather old ss))) (λ d. omega arith)
