-- The states of a set, one after the other: what lies past n of them is fixed by the words, so a set has one fault at most. Assumes nothing.
use Rattle.std.specs.Prelude.{Some}
use Prim.Native.Nat.{ℕ, zero, suc, ◌≤◌, ◌<◌}
use mathlib.Core.Path.{◌≡◌, refl, sym, ap, subst, ◌∙◌}
use mathlib.Core.List.{List, [], ◌++◌, append-nil}
use native.Mathlib.Decide.{dec_lt}
use native.Mathlib.Omega.{arith}
use lib.ListN.{length, take, length-append}
use lib.Seq.{take_at}
use Rattle.rules.specs.Limits.{ticks}
use Rattle.refusal.specs.declared.Refusal.{Refusal}
use Rattle.refusal.specs.declared.Refusal.TheVariants.{State, Late}
use Rattle.watcher.specs.State.{next_of, state_of, InForm}
use Rattle.watcher.specs.inner.Walk.{judged}
use Rattle.set.specs.Set.{Past, none, more, Fault, broken, below, SetTicked}
use Rattle.set.specs.Set as Sets
use Rattle.watcher.proofs.States.{next_word}
use Rattle.watcher.proofs.Judges.{in_form_cells}

-- states with the same words have the same words beyond, and the same next tick allowed
beyond_by : {r r' : List ℕ} → r ≡ r' → (f : InForm r) (g : InForm r') → f.beyond ≡ g.beyond
beyond_by {r} {r'} e f g =
    let q : Some f.beyond ≡ Some g.beyond = sym (in_form_cells r f) ∙ ap judged e ∙ in_form_cells r' g in cc

next_by : {r r' : List ℕ} → r ≡ r' → (f : InForm r) (g : InForm r') → f.next ≡ g.next
next_by e f g = sym (next_word f) ∙ ap next_of e ∙ next_word g

pub past_same : (n : ℕ) {τ τ' : ℕ} {s r r' : List ℕ} → Past τ n s r → Past τ' n s r' → r ≡ r'
past_same zero none none = refl
past_same (suc n) (more p f l) (more p' f' l') = beyond_by (past_same n p p') f f'

-- the states before
record At (τ k : ℕ) (s : List ℕ) : Type 0 where
  words : List ℕ
  past : Past τ k s words
  form : InForm words
  allowed : form.next ≤ τ

past_at : (n k : ℕ) {τ : ℕ} {s r : List ℕ} → k < n → Past τ n s r → At τ k s
past_at zero k h p = absurd (omega arith)
past_at (suc n) k {τ} {s} h (more p f l) = go (dec_lt k n) (λ d. past_at n k d p)
  where
    go : Dec (k < n) → (k < n → At τ k s) → At τ k s
    go (yes d) before = before d
    go (no d) before = let e : n ≡ k = omega arith in subst (λ (j : ℕ). At τ j s) e (record { words = _; past = p; form = f; allowed = l })

-- one state more, at the front
pub past_cons : (n : ℕ) {τ : ℕ} {s r : List ℕ} (f : InForm s) → f.next ≤ τ → Past τ n f.beyond r → Past τ (suc n) s r
past_cons zero f l none = more none f l
past_cons (suc n) f l (more p g k) = more (past_cons n f l p) g k

-- a state before one that is reached is in form, and allows the tick
lower_form : {τ k j : ℕ} {s l b : List ℕ} → k < j → Past τ j s b → Past ticks k s l → (InForm l → ⊥) → ⊥
lower_form {τ} {k} {j} h p q f = let a = past_at j k h p in f (subst InForm (past_same k a.past q) a.form)

lower_late : {t k j : ℕ} {s l b : List ℕ} → k < j → Past t j s b → Past t k s l → (f : InForm l) → t < f.next → ⊥
lower_late {t} {k} {j} h p q f m =
    let a = past_at j k h p in
    omega (arith, a.allowed, next_by (past_same k a.past q) a.form f)

-- where all states allow the tick, none is at fault
pub past_faultless : {n t : ℕ} {s b : List ℕ} {r : Refusal} → Past t n s b → Fault n s t r → ⊥
past_faultless p (broken k l h q f e) = lower_form h p q f
past_faultless p (below k l b h u q f m e) = lower_late h p q f m

-- and else one is the lowest
one_index : (k j : ℕ) → (k < j → ⊥) → (j < k → ⊥) → k ≡ j
one_index k j a b = go (dec_lt k j) (dec_lt j k)
  where
    go : Dec (k < j) → Dec (j < k) → k ≡ j
    go (yes d) e = absurd (a d)
    go (no d) (yes e) = absurd (b e)
    go (no d) (no e) = omega arith

pub one_fault : {n t : ℕ} {s : List ℕ} {r r' : Refusal} → Fault n s t r → Fault n s t r' → r ≡ r'
one_fault (broken k l h q f e) (broken k' l' h' q' f' e') =
    let z : k ≡ k' = one_index k k' (λ d. lower_form d q' q f) (λ d. lower_form d q q' f') in e ∙ ap State z ∙ sym e'
one_fault (broken k l h q f e) (below k' l' b' h' u' q' f' m' e') = absurd (lower_form h u' q f)
one_fault (below k l b h u q f m e) (broken k' l' h' q' f' e') = absurd (lower_form h' u q' f')
one_fault (below k l b h u q f m e) (below k' l' b' h' u' q' f' m' e') =
    let z : k ≡ k' = one_index k k' (λ d. lower_late d q' q f m) (λ d. lower_late d q q' f' m') in e ∙ ap Late z ∙ sym e'

-- a state alone at the front of a slice
module _ {p : List ℕ} (f : InForm p) (e : f.beyond ≡ []) (s r : List ℕ) (q : s ≡ p ++ r) where
  pub front_same : s ≡ state_of f.pattern f.next f.memory ++ r
  front_same =
      let k : p ≡ state_of f.pattern f.next f.memory =
      f.same ∙ ap (λ (l : List ℕ). state_of f.pattern f.next f.memory ++ l) e ∙ append-nil _ in
      q ∙ ap (λ (l : List ℕ). l ++ r) k

  abbrev pub front : InForm s
  front = record {
    pattern = f.pattern;
    next = f.next;
    memory = f.memory;
    beyond = r;
    bodied = f.bodied;
    early = f.early;
    form = f.form;
    same = front_same;
  }

-- two such states are the same
pub one_front : {p p' : List ℕ} (f : InForm p) (f' : InForm p') → f.beyond ≡ [] → f'.beyond ≡ [] → (s r r' : List ℕ) → s ≡ p ++ r → s ≡ p' ++ r'
    → (p ≡ p') × (r ≡ r')
one_front {p} {p'} f f' e e' s r r' q q' =
    let b : r ≡ r' = beyond_by refl (front f e s r q) (front f' e' s r' q') in
    let n : length p ≡ length p' = omega (arith, ap length q, ap length q', length-append p r, length-append p' r', ap length b) in
    (sym (take_at p r (length p) refl) ∙ ap (take (length p)) (sym q ∙ q') ∙ take_at p' r' (length p) (sym n), b)

-- a set that took a tick allowed it
pub taken_past : (n : ℕ) {t w : ℕ} {s s' l : List ℕ} → SetTicked t w n s s' l → (b : List ℕ) × Past t n s b
taken_past zero {s = s} Sets.none = (s, none)
taken_past (suc n) (Sets.more {r = r} {s = s} i e x q q') =
    let k = taken_past n x in
    (k.0, past_cons n (front i.form e s r q) i.late k.1)
