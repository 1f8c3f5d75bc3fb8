-- What `choose`, `insert` and `gather` give: pairs of the list that end before the start, as late as any such pair.
-- Assumes nothing.
use mathlib.Core.Path.{◌≡◌, subst}
use mathlib.Core.Logic.{inl, inr}
use mathlib.Core.List.{List, [], ◌∷◌}
use Prim.Native.Nat.{ℕ, ◌≤◌, ◌<◌, min, max}
use native.Mathlib.Decide.{dec_lt}
use native.Mathlib.Omega.{arith}
use Rattle.rules.specs.Lists.{In, All}
use Rattle.rules.specs.Decisions.{pick}
use Rattle.detector.specs.Memory.{Span, none}
use Rattle.detector.specs.Choice.{better, choose, insert, keep, gather}
use Rattle.detector.proofs.Decisions.{pick_cases}
use Rattle.detector.proofs.Good.{Reach}

-- the definitions, case by case
pub better_cases :
    (Q : Span → Type 0) (p q : Span) →
    (q.start < p.start → Q p) → (p.start < q.start → Q q) →
    (p.start ≡ q.start → p.end < q.end → Q p) → (p.start ≡ q.start → q.end ≤ p.end → Q q) → Q (better p q)
unfolding better
better_cases Q p q a b c d =
    pick_cases Q (dec_lt q.start p.start) p (pick (dec_lt p.start q.start) q (pick (dec_lt p.end q.end) p q)) a
    (λ h. pick_cases Q (dec_lt p.start q.start) q (pick (dec_lt p.end q.end) p q) b
    (λ k. pick_cases Q (dec_lt p.end q.end) p q (c (omega arith)) (λ l. d (omega arith) (omega arith))))

pub choose_cases :
    (Q : Span → Type 0) (p : Span) (l : List Span) (σ : ℕ) →
    (p.end < σ → Q (better p (choose l σ))) → ((p.end < σ → ⊥) → Q (choose l σ)) → Q (choose (p ∷ l) σ)
unfolding choose
choose_cases Q p l σ a b = pick_cases Q (dec_lt p.end σ) (better p (choose l σ)) (choose l σ) a b

pub insert_cases :
    (Q : List Span → Type 0) (p q : Span) (l : List Span) →
    (p.start < q.start → Q (p ∷ q ∷ l)) → (q.start < p.start → Q (q ∷ insert p l)) →
    (p.start ≡ q.start → Q (better p q ∷ l)) → Q (insert p (q ∷ l))
unfolding insert
insert_cases Q p q l a b c =
    pick_cases Q (dec_lt p.start q.start) (p ∷ q ∷ l) (pick (dec_lt q.start p.start) (q ∷ insert p l) (better p q ∷ l)) a
    (λ h. pick_cases Q (dec_lt q.start p.start) (q ∷ insert p l) (better p q ∷ l) b (λ k. c (omega arith)))

pub gather_cases :
    (Q : List Span → Type 0) (old : List Span) (σ : ℕ) (ss : List ℕ) →
    (0 < (choose old σ).start → Q (insert (choose old σ) (gather old ss))) → ((choose old σ).start ≡ 0 → Q (gather old ss)) →
    Q (gather old (σ ∷ ss))
unfolding gather keep
gather_cases Q old σ ss a b =
    pick_cases Q (dec_lt 0 (choose old σ).start) (insert (choose old σ) (gather old ss)) (gather old ss) a (λ h. b (omega arith))

-- the better of two pairs is one of the two
pub better_one : (Q : Span → Type 0) (p q : Span) → Q p → Q q → Q (better p q)
better_one Q p q a b = better_cases Q p q (λ h. a) (λ h. b) (λ h k. a) (λ h k. b)

pub better_start : (p q : Span) → (better p q).start ≡ max p.start q.start
better_start p q =
    better_cases (λ c. c.start ≡ max p.start q.start) p q
    (λ h. omega arith) (λ h. omega arith) (λ h k. omega arith) (λ h k. omega arith)

pub better_end : (p q : Span) → p.start ≡ q.start → (better p q).end ≡ min p.end q.end
better_end p q e =
    better_cases (λ c. c.end ≡ min p.end q.end) p q
    (λ h. omega arith) (λ h. omega arith) (λ h k. omega arith) (λ h k. omega arith)

-- what is chosen is none or of the list
pub choose_all : (Q : Span → Type 0) → Q none → (l : List Span) (σ : ℕ) → All Q l → Q (choose l σ)
unfolding choose
choose_all Q z [] σ h = z
choose_all Q z (p ∷ l) σ h =
    let i = choose_all Q z l σ h.1 in
    choose_cases Q p l σ (λ d. better_one Q p (choose l σ) h.0 i) (λ d. i)

-- what is chosen ends before σ
abbrev Before : ℕ → Span → Type 0
Before σ p = 0 < p.start → p.end < σ

pub choose_before : (l : List Span) (σ : ℕ) → 0 < (choose l σ).start → (choose l σ).end < σ
unfolding choose
choose_before [] σ = λ k. absurd (omega arith)
choose_before (p ∷ l) σ =
    choose_cases (Before σ) p l σ (λ d. better_one (Before σ) p (choose l σ) (λ k. d) (choose_before l σ)) (λ d. choose_before l σ)

-- what is chosen starts as late as any pair that ends before σ
pub choose_reach : (l : List Span) (σ s : ℕ) → Reach l σ s → s < (choose l σ).start
unfolding choose
choose_reach [] σ s h = absurd h
choose_reach (p ∷ l) σ s (inl h) =
    choose_cases (λ c. s < c.start) p l σ (λ d. omega (arith, better_start p (choose l σ), h.1)) (λ d. absurd (d h.0))
choose_reach (p ∷ l) σ s (inr h) =
    let i = choose_reach l σ s h in
    choose_cases (λ c. s < c.start) p l σ (λ d. omega (arith, better_start p (choose l σ))) (λ d. i)

-- a pair put in its place
pub insert_all : (Q : Span → Type 0) (p : Span) (l : List Span) → Q p → All Q l → All Q (insert p l)
unfolding insert
insert_all Q p [] a h = (a, tt)
insert_all Q p (q ∷ l) a h =
    insert_cases (All Q) p q l (λ d. (a, h)) (λ d. (h.0, insert_all Q p l a h.1)) (λ d. (better_one Q p q a h.0, h.1))

insert_reach_new : (p : Span) (l : List Span) (σ s : ℕ) → p.end < σ → s < p.start → Reach (insert p l) σ s
unfolding insert
insert_reach_new p [] σ s a b = inl (a, b)
insert_reach_new p (q ∷ l) σ s a b =
    insert_cases (λ k. Reach k σ s) p q l
    (λ d. inl (a, b))
    (λ d. inr (insert_reach_new p l σ s a b))
    (λ d. inl (omega (arith, better_end p q d), omega (arith, better_start p q)))

insert_reach_old : (p : Span) (l : List Span) (σ s : ℕ) → Reach l σ s → Reach (insert p l) σ s
insert_reach_old p [] σ s h = absurd h
insert_reach_old p (q ∷ l) σ s (inl h) =
    insert_cases (λ k. Reach k σ s) p q l
    (λ d. inr (inl h))
    (λ d. inl h)
    (λ d. inl (omega (arith, better_end p q d, h.0), omega (arith, better_start p q, h.1)))
insert_reach_old p (q ∷ l) σ s (inr h) =
    insert_cases (λ k. Reach k σ s) p q l (λ d. inr (inr h)) (λ d. inr (insert_reach_old p l σ s h)) (λ d. inr h)

-- the pairs of all the possible starts
pub gather_all : (Q : Span → Type 0) → Q none → (old : List Span) (ss : List ℕ) → All Q old → All Q (gather old ss)
unfolding gather
gather_all Q z old [] h = tt
gather_all Q z old (σ ∷ ss) h =
    let i = gather_all Q z old ss h in
    gather_cases (All Q) old σ ss (λ d. insert_all Q (choose old σ) (gather old ss) (choose_all Q z old σ h) i) (λ d. i)

pub gather_reach : (old : List Span) (ss : List ℕ) (σ s : ℕ) → In σ ss → s < (choose old σ).start → Reach (gather old ss) σ s
gather_reach old [] σ s h k = absurd h
gather_reach old (σ' ∷ ss) σ s (inl e) k =
    subst (λ z. Reach (gather old (z ∷ ss)) σ s) e
    (gather_cases (λ l. Reach l σ s) old σ ss
    (λ d. insert_reach_new (choose old σ) (gather old ss) σ s (choose_before old σ d) k)
    (λ d. absurd (omega arith)))
gather_reach old (σ' ∷ ss) σ s (inr h) k =
    let i = gather_reach old ss σ s h k in
    gather_cases (λ l. Reach l σ s) old σ' ss (λ d. insert_reach_old (choose old σ') (gather old ss) σ s i) (λ d. i)
