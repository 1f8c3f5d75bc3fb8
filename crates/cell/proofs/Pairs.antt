-- Words two by two, and pairs that stand one after the other: read from either end, and kept by a store elsewhere. Assumes nothing.
use mathlib.Core.Path.{◌≡◌, refl, ap, ap₂, ◌∙◌}
use mathlib.Core.List.{List, [], ◌∷◌, ◌++◌}
use Prim.Native.Nat.{ℕ, zero, suc, ◌+◌, ◌-◌, ◌*◌, ◌/◌, ◌≤◌, ◌<◌}
use native.Mathlib.Decide.{ℕ_discrete}
use native.Mathlib.Omega.{arith}
use native.Mathlib.Numerals.{add-one}
use lib.ListN.{length, take, drop, get_or, set, length-set, length-take, drop_of_length-le}
use lib.Seq.{get_or-set_same, get_or-set_other}
use Rattle.std.proofs.lemmas.List.{get_or-take}
use Rattle.rules.proofs.Lists.{drop_at}
use Rattle.rules.proofs.Decisions.{pick_yes, pick_no}
use Rattle.detector.specs.Memory.{Span}
use Rattle.cell.specs.Words.{span_at, kept_of}
use Rattle.cell.specs.Pairs.{spans_from, spans_in, put_span}

pub drop_two : (c : List ℕ) (at : ℕ) → at + 1 < length c → drop at c ≡ get_or c at 0 ∷ get_or c (at + 1) 0 ∷ drop (at + 2) c
drop_two c at h =
    let e : at + 1 + 1 ≡ at + 2 = omega arith in
    drop_at c at (omega arith) ∙ ap (λ (l : List ℕ). get_or c at 0 ∷ l) (drop_at c (at + 1) h ∙ ap (λ (n : ℕ). get_or c (at + 1) 0 ∷ drop n c) e)

-- ---- pairs from a place on

pub length_spans : (c : List ℕ) (at n : ℕ) → length (spans_from c at n) ≡ n
unfolding spans_from
length_spans c at zero = refl
length_spans c at (suc n) = ap suc (length_spans c (at + 2) n)

-- the first of those from pair i on
pub spans_first :
    (c : List ℕ) (n i : ℕ) → i < n → spans_from c (2 * i) (n - i) ≡ span_at c (2 * i) ∷ spans_from c (2 * (i + 1)) (n - (i + 1))
unfolding spans_from
spans_first c n i h =
    let e : n - i ≡ suc (n - (i + 1)) = omega arith in
    let a : 2 * i + 2 ≡ 2 * (i + 1) = omega arith in
    ap (spans_from c (2 * i)) e ∙ ap (λ (k : ℕ). span_at c (2 * i) ∷ spans_from c k (n - (i + 1))) a

pub spans_end : (c : List ℕ) (n i : ℕ) → n ≤ i → spans_from c (2 * i) (n - i) ≡ []
unfolding spans_from
spans_end c n i h =
    let e : n - i ≡ 0 = omega arith in
    ap (spans_from c (2 * i)) e

spans_last_at : (c : List ℕ) (at n : ℕ) → spans_from c at (suc n) ≡ spans_from c at n ++ (span_at c (at + 2 * n) ∷ [])
unfolding spans_from
spans_last_at c at zero =
    let e : at ≡ at + 2 * 0 = omega arith in
    ap (λ (k : ℕ). span_at c k ∷ []) e
spans_last_at c at (suc n) =
    let e : at + 2 + 2 * n ≡ at + 2 * suc n = omega arith in
    ap (λ (l : List Span). span_at c at ∷ l) (spans_last_at c (at + 2) n ∙ ap (λ (k : ℕ). spans_from c (at + 2) n ++ (span_at c k ∷ [])) e)

-- the last of the first i + 1
pub spans_last : (c : List ℕ) (i : ℕ) → spans_from c 0 (i + 1) ≡ spans_from c 0 i ++ (span_at c (2 * i) ∷ [])
spans_last c i =
    let e : 0 + 2 * i ≡ 2 * i = omega arith in
    ap (spans_from c 0) (add-one i) ∙ spans_last_at c 0 i ∙ ap (λ (k : ℕ). spans_from c 0 i ++ (span_at c k ∷ [])) e

spans_split_at : (c : List ℕ) (at i n : ℕ) → spans_from c at (i + n) ≡ spans_from c at i ++ spans_from c (at + 2 * i) n
unfolding spans_from
spans_split_at c at zero n =
    let e : 0 + n ≡ n = omega arith in
    let a : at ≡ at + 2 * 0 = omega arith in
    ap₂ (spans_from c) a e
spans_split_at c at (suc i) n =
    let e : suc i + n ≡ suc (i + n) = omega arith in
    let a : at + 2 + 2 * i ≡ at + 2 * suc i = omega arith in
    ap (spans_from c at) e
    ∙ ap (λ (l : List Span). span_at c at ∷ l) (spans_split_at c (at + 2) i n ∙ ap (λ (k : ℕ). spans_from c (at + 2) i ++ spans_from c k n) a)

-- the first i, and those from pair i on
pub spans_split : (c : List ℕ) (n i : ℕ) → i ≤ n → spans_from c 0 n ≡ spans_from c 0 i ++ spans_from c (2 * i) (n - i)
spans_split c n i h =
    let e : n ≡ i + (n - i) = omega arith in
    let a : 0 + 2 * i ≡ 2 * i = omega arith in
    ap (spans_from c 0) e ∙ spans_split_at c 0 i (n - i) ∙ ap (λ (k : ℕ). spans_from c 0 i ++ spans_from c k (n - i)) a

spans_take : (c : List ℕ) (m at n : ℕ) → at + 2 * n ≤ m → spans_from (take m c) at n ≡ spans_from c at n
unfolding spans_from
spans_take c m at zero h = refl
spans_take c m at (suc n) h =
    ap₂ (λ (q : Span) (l : List Span). q ∷ l) (rw (get_or-take m c at 0 (omega arith), get_or-take m c (at + 1) 0 (omega arith)) refl)
    (spans_take c m (at + 2) n (omega arith))

-- those of the first words are the first ones
pub spans_in_first : (c : List ℕ) (n : ℕ) → 2 * n ≤ length c → spans_in (take (2 * n) c) ≡ spans_from c 0 n
spans_in_first c n h =
    let e : length (take (2 * n) c) / 2 ≡ n = omega (arith, length-take (2 * n) c) in
    ap (spans_from (take (2 * n) c) 0) e ∙ spans_take c (2 * n) 0 n (omega arith)

-- ---- a pair stored

span_other : (c : List ℕ) (j v at : ℕ) → (at ≡ j → ⊥) → (at + 1 ≡ j → ⊥) → span_at (set c j v) at ≡ span_at c at
span_other c j v at h k = rw (get_or-set_other c j at v 0 h, get_or-set_other c j (at + 1) v 0 k)

spans_set_low : (c : List ℕ) (j v at n : ℕ) → j < at → spans_from (set c j v) at n ≡ spans_from c at n
unfolding spans_from
spans_set_low c j v at zero h = refl
spans_set_low c j v at (suc n) h =
    ap₂ (λ (q : Span) (l : List Span). q ∷ l) (span_other c j v at (λ e. omega arith) (λ e. omega arith))
    (spans_set_low c j v (at + 2) n (omega arith))

spans_set_high : (c : List ℕ) (j v at n : ℕ) → at + 2 * n ≤ j → spans_from (set c j v) at n ≡ spans_from c at n
unfolding spans_from
spans_set_high c j v at zero h = refl
spans_set_high c j v at (suc n) h =
    ap₂ (λ (q : Span) (l : List Span). q ∷ l) (span_other c j v at (λ e. omega arith) (λ e. omega arith))
    (spans_set_high c j v (at + 2) n (omega arith))

-- the pairs before it are kept, and those after it
pub spans_put_low : (c : List ℕ) (i n : ℕ) (q : Span) → spans_from (put_span c (2 * i) q) (2 * (i + 1)) n ≡ spans_from c (2 * (i + 1)) n
spans_put_low c i n q =
    spans_set_low (set c (2 * i) q.start) (2 * i + 1) q.end (2 * (i + 1)) n (omega arith)
    ∙ spans_set_low c (2 * i) q.start (2 * (i + 1)) n (omega arith)

pub spans_put_high : (c : List ℕ) (i : ℕ) (q : Span) → spans_from (put_span c (2 * i) q) 0 i ≡ spans_from c 0 i
spans_put_high c i q =
    spans_set_high (set c (2 * i) q.start) (2 * i + 1) q.end 0 i (omega arith)
    ∙ spans_set_high c (2 * i) q.start 0 i (omega arith)

pub span_put : (c : List ℕ) (at : ℕ) (q : Span) → at + 1 < length c → span_at (put_span c at q) at ≡ q
span_put c at q h =
    let d : at ≡ at + 1 → ⊥ = λ e. omega arith in
    let l : at + 1 < length (set c at q.start) = simp length-set (omega arith) in
    rw (
      get_or-set_other (set c at q.start) (at + 1) at q.end 0 d,
      get_or-set_same c at q.start 0 (omega arith),
      get_or-set_same (set c at q.start) (at + 1) q.end 0 l,
    )

-- the first i + 1 after a store at pair i
pub spans_put : (c : List ℕ) (i : ℕ) (q : Span) → 2 * i + 1 < length c → spans_from (put_span c (2 * i) q) 0 (i + 1) ≡ spans_from c 0 i ++ (q ∷ [])
spans_put c i q h =
    spans_last (put_span c (2 * i) q) i ∙ ap₂ (λ (l : List Span) (k : Span). l ++ (k ∷ [])) (spans_put_high c i q) (span_put c (2 * i) q h)

-- ---- the kept pairs from a place on

pub kept_end : (c : List ℕ) (at : ℕ) → length c ≤ at → kept_of (drop at c) ≡ []
unfolding kept_of
kept_end c at h = rw (drop_of_length-le c h)

pub kept_stop : (c : List ℕ) (at : ℕ) → at + 1 < length c → get_or c at 0 ≡ 0 → kept_of (drop at c) ≡ []
unfolding kept_of
kept_stop c at h z = ap kept_of (drop_two c at h) ∙ pick_yes (ℕ_discrete (get_or c at 0) 0) [] (span_at c at ∷ kept_of (drop (at + 2) c)) z

pub kept_more : (c : List ℕ) (at : ℕ) → at + 1 < length c → (get_or c at 0 ≡ 0 → ⊥) → kept_of (drop at c) ≡ span_at c at ∷ kept_of (drop (at + 2) c)
unfolding kept_of
kept_more c at h z = ap kept_of (drop_two c at h) ∙ pick_no (ℕ_discrete (get_or c at 0) 0) [] (span_at c at ∷ kept_of (drop (at + 2) c)) z
