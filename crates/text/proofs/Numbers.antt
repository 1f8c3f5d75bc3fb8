-- The ways that `read_limit` ends. Assumes nothing.
use Rattle.std.proofs.Common.{◌≡◌, ℕ, ◌+◌, ◌*◌, ◌<◌, ◌≤◌, false, eqb, Option, Some, None, List, length, get_or, drop, sym, refl, ap, ◌∙◌, subst, arith, le-ltb, lt-ltb, ne_eqb}
use Rattle.rules.specs.Pattern.{Pattern, within}
use Rattle.text.specs.Render.{numbers}
use Rattle.text.specs.Characters.{digit_of}
use Rattle.text.specs.inner.Machine.{Frame, grown, read_from, shut}
use Rattle.text.specs.inner.Machine.State.{limit, number}
use Rattle.text.specs.inner.Helpers.{IsValue, IsBad}
use Rattle.decimal.proofs.Branches.{either_way}
use Rattle.std.specs.Option.{option_and_then}
use Rattle.std.proofs.lemmas.Option.{none-some, same_Some}
use Rattle.text.proofs.Bytes.{byte_digit}
use Rattle.text.proofs.Steps.{run_to, run_no, run_end, number_shut, number_end}

-- a byte that is no digit, a digit after 0, and a digit too many: none makes the number longer
grown_other : (v c : ℕ) → digit_of c ≡ None → grown v c ≡ None
unfolding grown
grown_other v c h = simp h

grown_zero : (c : ℕ) → grown 0 c ≡ None
unfolding grown
grown_zero c = go (digit_of c)
  where
    go : (o : Option ℕ) → ◌≡◌ {A = Option ℕ} (option_and_then (λ d. None) o) None
    go None = refl
    go (Some d) = refl

module _ (v c d : ℕ) (q : digit_of c ≡ Some d) where
  grown_over : 0 < v → numbers ≤ v * 10 + d → grown v c ≡ None
  unfolding grown
  grown_over p h = simp (q, lt-ltb _ _ p, le-ltb _ _ h)

  pub grown_on : 0 < v → v * 10 + d < numbers → grown v c ≡ Some (v * 10 + d)
  unfolding grown
  grown_on p h = simp (q, lt-ltb _ _ p, lt-ltb _ _ h)

  digit_not_shut : eqb c 41 ≡ false
  unfolding digit_of
  digit_not_shut = ne_eqb c 41 (λ e. let z : digit_of 41 ≡ None = refl in let same = ap digit_of e in absurd cc)

-- what makes a number longer
pub grown_some : (v c w : ℕ) → grown v c ≡ Some w → (d : ℕ) × (digit_of c ≡ Some d) × (0 < v) × (w ≡ v * 10 + d) × (w < numbers)
unfolding grown
grown_some v c w e = go (digit_of c) refl
  where
    go : (o : Option ℕ) → digit_of c ≡ o → (d : ℕ) × (digit_of c ≡ Some d) × (0 < v) × (w ≡ v * 10 + d) × (w < numbers)
    go None q = absurd (none-some w (sym (grown_other v c q) ∙ e))
    go (Some d) q =
        either_way 0 v
        (λ p. either_way (v * 10 + d) numbers
        (λ h. let same : v * 10 + d ≡ w = same_Some _ _ (sym (grown_on v c d q p h) ∙ e) in (d, q, p, sym same, omega arith))
        (λ h. absurd (none-some w (sym (grown_over v c d q p h) ∙ e))))
        (λ p. let z : v ≡ 0 = omega arith in absurd (none-some w (sym (ap (λ (u : ℕ). grown u c) z ∙ grown_zero c) ∙ e)))

-- the digits from `at` to `end` make the number v, which is not 0
pub record DigitsRead (s : List ℕ) (at end v : ℕ) : Type 0 where
  pub ahead : at < end
  pub inside : end ≤ length s
  pub some : 0 < v
  pub small : v < numbers
  pub reads : (x : Pattern) (K : List Frame) → read_from (limit x K) (drop at s) ≡ read_from (number x v K) (drop end s)

module _ (s : List ℕ) (at : ℕ) where
  pub bad_end : length s ≡ at → IsBad s at at
  bad_end h = record { inside = omega arith; reads = λ x K. run_end s at (limit x K) (omega arith) refl }

  pub bad_first : at < length s → None ≡ digit_of (get_or s at 0) → IsBad s at at
  bad_first h q = record { inside = omega arith; reads = λ x K. run_no s at (limit x K) h (simp (← q)) }

  -- a 0 is a number by itself
  zero_alone : (x : Pattern) (K : List Frame) (i : ℕ) → read_from (number x 0 K) (drop i s) ≡ shut (within x 0) K (drop i s)
  zero_alone x K i = either_way i (length s) (λ h. number_shut s i x 0 K h (grown_zero _)) (λ h. number_end s i x 0 K h)

  module _ (d : ℕ) (h : at < length s) (q : Some d ≡ digit_of (get_or s at 0)) where
    first_digit : (x : Pattern) (K : List Frame) → read_from (limit x K) (drop at s) ≡ read_from (number x d K) (drop (at + 1) s)
    first_digit x K = run_to s at (limit x K) _ h (simp (← q))

    pub value_zero : d ≡ 0 → IsValue s at (at + 1) 0
    value_zero z = record {
      ahead = omega arith;
      inside = omega arith;
      small = omega arith;
      reads = λ x K. first_digit x K ∙ ap (λ (v : ℕ). read_from (number x v K) (drop (at + 1) s)) z ∙ zero_alone x K (at + 1);
    }

    pub digits_first : 0 < d → DigitsRead s at (at + 1) d
    digits_first some = record {
      ahead = omega arith;
      inside = omega arith;
      some = some;
      small = omega (arith, byte_digit _ d (sym q));
      reads = first_digit;
    }

  module _ (end v : ℕ) (g : DigitsRead s at end v) where
    pub value_other : end < length s → None ≡ digit_of (get_or s end 0) → IsValue s at end v
    value_other h q = record {
      ahead = g.ahead;
      inside = g.inside;
      small = g.small;
      reads = λ x K. g.reads x K ∙ number_shut s end x v K h (grown_other v _ (sym q));
    }

    pub value_end : end ≡ length s → IsValue s at (length s) v
    value_end h = subst (λ (k : ℕ). IsValue s at k v) h (record {
      ahead = g.ahead;
      inside = g.inside;
      small = g.small;
      reads = λ x K. g.reads x K ∙ number_end s end x v K (omega arith);
    })

    module _ (d : ℕ) (h : end < length s) (q : Some d ≡ digit_of (get_or s end 0)) where
      pub bad_over : numbers ≤ v * 10 + d → IsBad s at end
      bad_over over = record {
        inside = g.inside;
        reads = λ x K. g.reads x K
            ∙ run_no s end (number x v K) h (simp (grown_over v _ d (sym q) g.some over, digit_not_shut v _ d (sym q)));
      }

      pub digits_more : v * 10 + d < numbers → DigitsRead s at (end + 1) (v * 10 + d)
      digits_more small = record {
        ahead = omega arith;
        inside = omega arith;
        some = omega (arith, g.some);
        small = small;
        reads = λ x K. g.reads x K ∙ run_to s end (number x v K) _ h (simp (grown_on v _ d (sym q) g.some small));
      }
