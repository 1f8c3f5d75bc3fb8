-- Pairs counted, chosen and put in their places among others, one turn at a time. Assumes nothing.
use mathlib.Core.Path.{◌≡◌, refl, sym, ap, ap₂, ◌∙◌}
use mathlib.Core.List.{List, [], ◌∷◌, ◌++◌, append_assoc, append-nil}
use Prim.Native.Nat.{ℕ, ◌+◌, ◌-◌, ◌*◌, ◌/◌, ◌%◌, ◌≤◌, ◌<◌}
use native.Mathlib.Nat.{sub-zero}
use native.Mathlib.Decide.{dec_lt}
use native.Mathlib.Omega.{arith}
use lib.ListN.{length, take, drop, get_or, length-drop}
use lib.Seq.{drop-length}
use Rattle.rules.proofs.Lists.{drop_at}
use Rattle.rules.specs.Decisions.{pick}
use Rattle.rules.proofs.Decisions.{pick_yes, pick_no}
use Rattle.detector.specs.Memory.{Span, none}
use Rattle.detector.specs.Choice.{better, choose, keep, gather}
use Rattle.detector.proofs.Order.{gather_length}
use Rattle.cell.specs.Words.{span_at, kept_of}
use Rattle.cell.specs.Cell.{pairs_of}
use Rattle.cell.specs.Pairs.{spans_from, spans_in}
use Rattle.cell.proofs.Pairs.{spans_first, spans_end, spans_last}
use Rattle.cell.proofs.Pairs.{spans_in_first, kept_end, kept_stop, kept_more}

-- ---- counted

-- the first n pairs, and the kept ones from there on, are all
abbrev pub Counted : List ℕ → ℕ → Type 0
Counted c n = spans_from c 0 n ++ kept_of (drop (2 * n) c) ≡ pairs_of c

pub counted_first : (c : List ℕ) → Counted c 1
unfolding spans_from
counted_first c = refl

pub counted_more : (c : List ℕ) (n : ℕ) → 2 * n + 1 < length c → (get_or c (2 * n) 0 ≡ 0 → ⊥) → Counted c n → Counted c (n + 1)
counted_more c n h z i =
    let e : 2 * n + 2 ≡ 2 * (n + 1) = omega arith in
    ap₂ ◌++◌ (spans_last c n) (ap (λ (k : ℕ). kept_of (drop k c)) (sym e))
    ∙ append_assoc (spans_from c 0 n) (span_at c (2 * n) ∷ []) (kept_of (drop (2 * n + 2) c))
    ∙ ap (λ (l : List Span). spans_from c 0 n ++ l) (sym (kept_more c (2 * n) h z)) ∙ i

counted_all : (c : List ℕ) (n : ℕ) → kept_of (drop (2 * n) c) ≡ [] → Counted c n → spans_from c 0 n ≡ pairs_of c
counted_all c n z i = sym (sym i ∙ ap (λ (l : List Span). spans_from c 0 n ++ l) z ∙ append-nil (spans_from c 0 n))

-- up to an empty pair
pub counted_stop : (c : List ℕ) (n : ℕ) → 2 * n + 1 < length c → get_or c (2 * n) 0 ≡ 0 → Counted c n → spans_in (take (2 * n) c) ≡ pairs_of c
counted_stop c n h z i = spans_in_first c n (omega arith) ∙ counted_all c n (kept_stop c (2 * n) h z) i

-- up to the end
pub counted_end : (c : List ℕ) (n : ℕ) → length c % 2 ≡ 0 → length c / 2 ≤ n → 2 * n ≤ length c → Counted c n → spans_in c ≡ pairs_of c
counted_end c n e h k i =
    let m : length c / 2 ≡ n = omega arith in
    ap (spans_from c 0) m ∙ counted_all c n (kept_end c (2 * n) (omega arith)) i

-- ---- chosen

pub choose_none : (c : List ℕ) (n σ : ℕ) → choose (spans_from c (2 * n) (n - n)) σ ≡ none
unfolding choose
choose_none c n σ = ap (λ (l : List Span). choose l σ) (spans_end c n n (omega arith))

choose_next :
    (c : List ℕ) (n i σ : ℕ) (q : Span) → i < n → q ≡ choose (spans_from c (2 * (i + 1)) (n - (i + 1))) σ
    → pick (dec_lt (span_at c (2 * i)).end σ) (better (span_at c (2 * i)) q) q ≡ choose (spans_from c (2 * i) (n - i)) σ
unfolding choose
choose_next c n i σ q h e =
    ap (λ (k : Span). pick (dec_lt (span_at c (2 * i)).end σ) (better (span_at c (2 * i)) k) k) e
    ∙ ap (λ (l : List Span). choose l σ) (sym (spans_first c n i h))

-- one pair more, from the last to the first
pub choose_turn :
    (c : List ℕ) (n i σ : ℕ) (p q r : Span) → 0 < i → i ≤ n → p ≡ span_at c (2 * (i - 1)) → q ≡ choose (spans_from c (2 * i) (n - i)) σ
    → r ≡ pick (dec_lt p.end σ) (better p q) q → r ≡ choose (spans_from c (2 * (i - 1)) (n - (i - 1))) σ
choose_turn c n i σ p q r z h e k o =
    let j : i ≡ i - 1 + 1 = omega arith in
    o ∙ ap (λ (z : Span). pick (dec_lt z.end σ) (better z q) q) e
    ∙ choose_next c n (i - 1) σ q (omega arith) (k ∙ ap (λ (z : ℕ). choose (spans_from c (2 * z) (n - z)) σ) j)

pub choose_done : (c : List ℕ) (n i σ : ℕ) (q : Span) → i ≤ 0 → q ≡ choose (spans_from c (2 * i) (n - i)) σ → q ≡ choose (spans_from c 0 n) σ
choose_done c n i σ q h e =
    let z : i ≡ 0 = omega arith in
    e ∙ ap (λ (k : ℕ). choose (spans_from c (2 * k) (n - k)) σ) z ∙ ap (λ (k : ℕ). choose (spans_from c 0 k) σ) (sub-zero n)

-- ---- the better of two

module _ (p q : Span) where
  pub better_later : q.start < p.start → better p q ≡ p
  unfolding better
  better_later h = pick_yes (dec_lt q.start p.start) p (pick (dec_lt p.start q.start) q (pick (dec_lt p.end q.end) p q)) h

  better_not : p.start ≤ q.start → better p q ≡ pick (dec_lt p.start q.start) q (pick (dec_lt p.end q.end) p q)
  unfolding better
  better_not h =
      pick_no (dec_lt q.start p.start) p (pick (dec_lt p.start q.start) q (pick (dec_lt p.end q.end) p q)) (λ k. omega arith)

  pub better_earlier : p.start < q.start → better p q ≡ q
  better_earlier h = better_not (omega arith) ∙ pick_yes (dec_lt p.start q.start) q (pick (dec_lt p.end q.end) p q) h

  better_even : p.start ≤ q.start → q.start ≤ p.start → better p q ≡ pick (dec_lt p.end q.end) p q
  better_even h k = better_not h ∙ pick_no (dec_lt p.start q.start) q (pick (dec_lt p.end q.end) p q) (λ l. omega arith)

  pub better_sooner : p.start ≤ q.start → q.start ≤ p.start → p.end < q.end → better p q ≡ p
  better_sooner h k l = better_even h k ∙ pick_yes (dec_lt p.end q.end) p q l

  pub better_other : p.start ≤ q.start → q.start ≤ p.start → q.end ≤ p.end → better p q ≡ q
  better_other h k l = better_even h k ∙ pick_no (dec_lt p.end q.end) p q (λ z. omega arith)

-- ---- kept

-- for one start more, from the last to the first
pub gather_turn :
    (old : List Span) (ys : List ℕ) (i : ℕ) (p : Span) (l : List Span) → 0 < i → i ≤ length ys → p ≡ choose old (get_or ys (i - 1) 0)
    → l ≡ gather old (drop i ys) → keep p l ≡ gather old (drop (i - 1) ys)
unfolding gather
gather_turn old ys i p l z h e k =
    let j : i ≡ i - 1 + 1 = omega arith in
    ap₂ keep e (k ∙ ap (λ (n : ℕ). gather old (drop n ys)) j) ∙ ap (gather old) (sym (drop_at ys (i - 1) (omega arith)))

pub gather_begin : (old : List Span) (ys : List ℕ) → [] ≡ gather old (drop (length ys) ys)
unfolding gather
gather_begin old ys = ap (gather old) (sym (drop-length ys))

pub gather_done : (old : List Span) (ys : List ℕ) (i : ℕ) → i ≤ 0 → gather old (drop i ys) ≡ gather old ys
gather_done old ys i h =
    let z : i ≡ 0 = omega arith in
    ap (λ (n : ℕ). gather old (drop n ys)) z

-- the pairs gathered so far are no more than their starts
pub gather_few : (old : List Span) (ys : List ℕ) (i : ℕ) → 0 < i → length ys ≤ 62 → length (gather old (drop i ys)) < 62
gather_few old ys i z h = omega (arith, gather_length old (drop i ys) (length ys - i) (omega (arith, length-drop i ys)))
