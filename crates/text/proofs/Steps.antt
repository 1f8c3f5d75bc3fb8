-- How the machine of `specs/inner/Machine.antt` moves along a text that is read by index. Assumes nothing.
use Rattle.std.proofs.Common.{◌≡◌, ℕ, ◌+◌, ◌<◌, ◌≤◌, Bool, true, false, cond, eqb, Option, Some, None, List, [], ◌∷◌, length, get_or, drop, sym, refl, ap, ◌∙◌, subst, drop_of_length-le, eq-eqb, ne_eqb, Err}
use Rattle.rules.proofs.Lists.{drop_at}
use Rattle.rules.specs.declared.Op.{Op}
use Rattle.rules.specs.Pattern.{Pattern, pair, within}
use Rattle.text.specs.inner.Machine.{Frame, State, grown, step, ended, follow, read_from, shut}
use Rattle.text.specs.inner.Machine.Frame.{second}
use Rattle.text.specs.inner.Machine.State.{have, number}
use Rattle.decimal.proofs.Branches.{either_way, either_is}

run_cons : (σ : State) (c : ℕ) (t l : List ℕ) → l ≡ c ∷ t → read_from σ l ≡ follow (step σ c) (λ τ. read_from τ t) l
unfolding read_from
run_cons σ c t l e = subst (λ (m : List ℕ). read_from σ m ≡ follow (step σ c) (λ τ. read_from τ t) m) (sym e) refl

module _ (s : List ℕ) (i : ℕ) where
  pub run_to : (σ τ : State) → i < length s → step σ (get_or s i 0) ≡ Some τ → read_from σ (drop i s) ≡ read_from τ (drop (i + 1) s)
  run_to σ τ h e =
      run_cons σ _ _ _ (drop_at s i h) ∙ ap (λ (m : Option State). follow m (λ τ. read_from τ (drop (i + 1) s)) (drop i s)) e

  pub run_no : (σ : State) → i < length s → step σ (get_or s i 0) ≡ None → read_from σ (drop i s) ≡ Err (drop i s)
  run_no σ h e =
      run_cons σ _ _ _ (drop_at s i h) ∙ ap (λ (m : Option State). follow m (λ τ. read_from τ (drop (i + 1) s)) (drop i s)) e

  pub run_end : (σ : State) → length s ≤ i → ended σ ≡ Err [] → read_from σ (drop i s) ≡ Err (drop i s)
  unfolding read_from
  run_end σ h e = subst (λ (l : List ℕ). read_from σ l ≡ Err l) (sym (drop_of_length-le s h)) e

  -- the `)` of a bracket
  shut_cons : (e : Pattern) (K : List Frame) → i < length s
      → shut e K (drop i s) ≡ cond (eqb (get_or s i 0) 41) (read_from (have e K) (drop (i + 1) s)) (Err (drop i s))
  unfolding shut
  shut_cons e K h = go _ _ _ (drop_at s i h)
    where
      go : (l : List ℕ) (c : ℕ) (t : List ℕ) → l ≡ c ∷ t → shut e K l ≡ cond (eqb c 41) (read_from (have e K) t) (Err l)
      go l c t q = subst (λ (m : List ℕ). shut e K m ≡ cond (eqb c 41) (read_from (have e K) t) (Err m)) (sym q) refl

  pub shut_to : (e : Pattern) (K : List Frame) → i < length s → get_or s i 0 ≡ 41 → shut e K (drop i s) ≡ read_from (have e K) (drop (i + 1) s)
  shut_to e K h q = shut_cons e K h ∙ simp (eq-eqb _ _ q)

  pub shut_no : (e : Pattern) (K : List Frame) → i < length s → (get_or s i 0 ≡ 41 → ⊥) → shut e K (drop i s) ≡ Err (drop i s)
  shut_no e K h q = shut_cons e K h ∙ simp (ne_eqb _ _ q)

  pub shut_end : (e : Pattern) (K : List Frame) → length s ≤ i → shut e K (drop i s) ≡ Err (drop i s)
  unfolding shut
  shut_end e K h = subst (λ (l : List ℕ). shut e K l ≡ Err l) (sym (drop_of_length-le s h)) refl

  -- after the second operand, what follows is `)`
  pub second_shut : (op : Op) (x y : Pattern) (K : List Frame) → read_from (have y (second op x ∷ K)) (drop i s) ≡ shut (pair op x y) K (drop i s)
  second_shut op x y K =
      either_way i (length s)
      (λ h. either_is (get_or s i 0) 41
      (λ e. run_to (have y (second op x ∷ K)) _ h (simp (eq-eqb _ _ e)) ∙ sym (shut_to (pair op x y) K h e))
      (λ f. run_no (have y (second op x ∷ K)) h (simp (ne_eqb _ _ f)) ∙ sym (shut_no (pair op x y) K h f)))
      (λ h. run_end (have y (second op x ∷ K)) h refl ∙ sym (shut_end (pair op x y) K h))

  -- and so it is after a number that does not go on
  pub number_shut : (x : Pattern) (v : ℕ) (K : List Frame) → i < length s → grown v (get_or s i 0) ≡ None
      → read_from (number x v K) (drop i s) ≡ shut (within x v) K (drop i s)
  number_shut x v K h q =
      run_cons (number x v K) _ _ _ (drop_at s i h)
      ∙ simp q (go (eqb (get_or s i 0) 41))
      ∙ sym (shut_cons (within x v) K h)
    where
      go : (b : Bool) → follow (cond b (Some (have (within x v) K)) None) (λ τ. read_from τ (drop (i + 1) s)) (drop i s)
          ≡ cond b (read_from (have (within x v) K) (drop (i + 1) s)) (Err (drop i s))
      go true = refl
      go false = refl

  pub number_end : (x : Pattern) (v : ℕ) (K : List Frame) → length s ≤ i → read_from (number x v K) (drop i s) ≡ shut (within x v) K (drop i s)
  number_end x v K h = run_end (number x v K) h refl ∙ sym (shut_end (within x v) K h)
