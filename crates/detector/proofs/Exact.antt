-- The rules leave no choice: one start is chosen with one end, and the kept pairs are exactly those chosen.
-- Assumes nothing.
use mathlib.Core.Path.{◌≡◌, refl, sym, subst, ap}
use mathlib.Core.Logic.{inl, inr}
use mathlib.Core.List.{List, [], ◌∷◌}
use Prim.Native.Nat.{ℕ, ◌≤◌, ◌<◌}
use native.Mathlib.Decide.{dec_le}
use native.Mathlib.Omega.{arith}
use Rattle.rules.specs.Lists.{In, All}
use Rattle.detector.specs.Memory.{Span}
use Rattle.detector.specs.Choice.{better, choose, insert, gather}
use Rattle.detector.specs.Claim.{Among, Beats, Chosen}
use Rattle.detector.proofs.Choice.{better_cases, choose_cases, insert_cases, gather_cases, better_one, choose_before, insert_all}

-- what is chosen is none or of the list
pub choose_among : (l : List Span) (σ : ℕ) → 0 < (choose l σ).start → Among (choose l σ) l
unfolding choose
choose_among [] σ = λ k. absurd (omega arith)
choose_among (p ∷ l) σ =
    choose_cases Q p l σ
    (λ d. better_one Q p (choose l σ) (λ k. inl refl) (λ k. inr (choose_among l σ k)))
    (λ d k. inr (choose_among l σ k))
  where
    Q : Span → Type 0
    Q c = 0 < c.start → Among c (p ∷ l)

beats_self : (p : Span) → Beats p p
beats_self p = (omega arith, λ e. omega arith)

beats_trans : (c d p : Span) → Beats c p → Beats d c → Beats d p
beats_trans c d p a b =
    (omega (arith, a.0, b.0), λ e. omega (arith, a.1 (omega (arith, a.0, b.0)), b.1 (omega (arith, a.0, b.0))))

better_beats : (p q : Span) → Beats (better p q) p × Beats (better p q) q
better_beats p q =
    better_cases (λ c. Beats c p × Beats c q) p q
    (λ h. (beats_self p, (omega arith, λ i. omega arith)))
    (λ h. ((omega arith, λ i. omega arith), beats_self q))
    (λ h k. (beats_self p, (omega arith, λ i. omega arith)))
    (λ h k. ((omega arith, λ i. omega arith), beats_self q))

-- what is chosen beats each pair that ends before σ
pub choose_beats : (l : List Span) (σ : ℕ) (p : Span) → Among p l → p.end < σ → Beats (choose l σ) p
choose_beats [] σ p h k = absurd h
choose_beats (q ∷ l) σ p (inl e) k =
    subst (Beats (choose (q ∷ l) σ)) (sym e)
    (choose_cases (λ c. Beats c q) q l σ (λ d. (better_beats q (choose l σ)).0) (λ d. absurd (d (subst (λ z. z.end < σ) e k))))
choose_beats (q ∷ l) σ p (inr h) k =
    let i = choose_beats l σ p h k in
    choose_cases (λ c. Beats c p) q l σ
    (λ d. beats_trans (choose l σ) (better q (choose l σ)) p i (better_beats q (choose l σ)).1)
    (λ d. i)

-- two pairs with the same words are the same
span_eq : (p q : Span) → p.start ≡ q.start → p.end ≡ q.end → p ≡ q
span_eq p q e f = λ i. record { start = e i; end = f i }

-- pairs chosen with one start are one pair
pub choose_once :
    (l : List Span) (σ σ' : ℕ) → 0 < (choose l σ).start → (choose l σ).start ≡ (choose l σ').start → choose l σ ≡ choose l σ'
choose_once l σ σ' z e = span_eq (choose l σ) (choose l σ') e (go (dec_le σ σ'))
  where
    c : Span
    c = choose l σ

    d : Span
    d = choose l σ'

    cσ : c.end < σ
    cσ = choose_before l σ z

    dσ' : d.end < σ'
    dσ' = choose_before l σ' (omega arith)

    -- where c ends before σ' too, and d before σ
    down : c.end < σ' → d.end ≤ c.end
    down k = (choose_beats l σ' c (choose_among l σ z) k).1 e

    up : d.end < σ → c.end ≤ d.end
    up k = (choose_beats l σ d (choose_among l σ' (omega arith)) k).1 (sym e)

    go : Dec (σ ≤ σ') → c.end ≡ d.end
    go (yes k) = let a = down (omega (arith, cσ)) in omega (arith, up (omega (arith, cσ)))
    go (no k) = let a = up (omega (arith, dσ')) in omega (arith, down (omega (arith, dσ')))

-- what holds of each pair chosen holds of each kept pair
gather_each :
    (Q : Span → Type 0) (old : List Span) (ss : List ℕ) → ((σ : ℕ) → In σ ss → 0 < (choose old σ).start → Q (choose old σ)) →
    All Q (gather old ss)
unfolding gather
gather_each Q old [] f = tt
gather_each Q old (σ ∷ ss) f =
    let i = gather_each Q old ss (λ σ' j. f σ' (inr j)) in
    gather_cases (All Q) old σ ss (λ d. insert_all Q (choose old σ) (gather old ss) (f σ (inl refl) d) i) (λ d. i)

among_all : (Q : Span → Type 0) (p : Span) (l : List Span) → All Q l → Among p l → Q p
among_all Q p [] a i = absurd i
among_all Q p (q ∷ l) a (inl e) = subst Q (sym e) a.0
among_all Q p (q ∷ l) a (inr i) = among_all Q p l a.1 i

-- each kept pair was chosen
pub gather_only : (old : List Span) (ss : List ℕ) (p : Span) → Among p (gather old ss) → Chosen old ss p
gather_only old ss p i = among_all (Chosen old ss) p (gather old ss) (gather_each (Chosen old ss) old ss (λ σ j k. (σ, j, refl, k))) i

insert_new : (p : Span) (l : List Span) → All (λ q. p.start ≡ q.start → p ≡ q) l → Among p (insert p l)
unfolding insert
insert_new p [] a = inl refl
insert_new p (q ∷ l) a =
    insert_cases (Among p) p q l
    (λ d. inl refl)
    (λ d. inr (insert_new p l a.1))
    (λ d. inl (better_one (λ z. p ≡ z) p q refl (a.0 d)))

insert_old : (p c : Span) (l : List Span) → (p.start ≡ c.start → p ≡ c) → Among c l → Among c (insert p l)
insert_old p c [] f i = absurd i
insert_old p c (q ∷ l) f (inl e) =
    insert_cases (Among c) p q l
    (λ d. inr (inl e))
    (λ d. inl e)
    (λ d. inl (better_one (λ z. c ≡ z) p q (sym (f (omega (arith, ap (λ z. z.start) e)))) e))
insert_old p c (q ∷ l) f (inr i) =
    insert_cases (Among c) p q l (λ d. inr (inr i)) (λ d. inr (insert_old p c l f i)) (λ d. inr i)

-- each pair chosen is kept
pub gather_every :
    (old : List Span) (ss : List ℕ) (σ : ℕ) → In σ ss → 0 < (choose old σ).start → Among (choose old σ) (gather old ss)
gather_every old [] σ i k = absurd i
gather_every old (σ' ∷ ss) σ (inl e) k =
    subst (λ z. Among (choose old σ) (gather old (z ∷ ss))) e
    (gather_cases (Among (choose old σ)) old σ ss
    (λ d. insert_new (choose old σ) (gather old ss)
    (gather_each (λ q. (choose old σ).start ≡ q.start → choose old σ ≡ q) old ss (λ σ'' j z. choose_once old σ σ'' k)))
    (λ d. absurd (omega arith)))
gather_every old (σ' ∷ ss) σ (inr i) k =
    let j = gather_every old ss σ i k in
    gather_cases (Among (choose old σ)) old σ' ss
    (λ d. insert_old (choose old σ') (choose old σ) (gather old ss) (choose_once old σ' σ d) j)
    (λ d. j)
