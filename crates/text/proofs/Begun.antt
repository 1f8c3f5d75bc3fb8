-- What the machine has read begins the text of a pattern: each state's text, and how it can be completed. Assumes nothing.
use Rattle.std.proofs.Common.{◌≡◌, ℕ, ◌<◌, cond, eqb, List, [], ◌∷◌, ◌++◌, Option, Some, None, sym, refl, ap, ◌∙◌, subst, append_assoc, append-nil, arith, eqb-true}
use Rattle.rules.specs.Pattern.{Pattern, event, pair, within, Proper}
use Rattle.decimal.specs.Decimal.{decimal}
use Rattle.decimal.proofs.Decimals.{decimal_one, decimal_next}
use Rattle.text.specs.Render.{numbers, op_byte, render}
use Rattle.text.specs.Grammar.{Begins}
use Rattle.text.specs.Characters.{letter_of, digit_of}
use Rattle.text.specs.inner.Machine.{Frame, State, grown, step, after_sign}
use Rattle.text.specs.inner.Machine.Frame.{first, second}
use Rattle.text.specs.inner.Machine.State.{want, have, limit, number}
use Rattle.decimal.proofs.Branches.{by_test, by_option}
use Rattle.std.specs.Option.{option_map, option_map_or}
use Rattle.text.proofs.Numbers.{grown_some}
use Rattle.text.proofs.Bytes.{byte_letter, sign_cases, byte_digit}
use Rattle.text.proofs.Complete.{cap_step, digit_step, shut_step}

-- the text that a state has read
abbrev opens : List Frame → List ℕ
opens [] = []
opens (first ∷ K) = opens K ++ (40 ∷ [])
opens (second op x ∷ K) = opens K ++ (40 ∷ (render x ++ (op_byte op ∷ [])))

abbrev pub sofar : State → List ℕ
sofar (want K) = opens K
sofar (have e K) = opens K ++ render e
sofar (limit x K) = opens K ++ (40 ∷ (render x ++ (64 ∷ [])))
sofar (number x v K) = opens K ++ (40 ∷ (render x ++ (64 ∷ decimal v)))

-- the patterns in a state are proper
abbrev FineFrames : List Frame → Type 0
FineFrames [] = Unit {0}
FineFrames (first ∷ K) = FineFrames K
FineFrames (second op x ∷ K) = Proper numbers x × FineFrames K

abbrev pub Fine : State → Type 0
Fine (want K) = FineFrames K
Fine (have e K) = Proper numbers e × FineFrames K
Fine (limit x K) = Proper numbers x × FineFrames K
Fine (number x v K) = Proper numbers x × (v < numbers) × FineFrames K

module _ (p : List ℕ) (c : ℕ) where
  after_first : (x : List ℕ) → p ++ (40 ∷ []) ++ x ++ (c ∷ []) ≡ p ++ (40 ∷ (x ++ (c ∷ [])))
  after_first x = append_assoc (p ++ (40 ∷ [])) x (c ∷ []) ∙ append_assoc p (40 ∷ []) (x ++ (c ∷ []))

  after_second : (x : List ℕ) (q : ℕ) (y : List ℕ)
      → p ++ (40 ∷ (x ++ (q ∷ []))) ++ y ++ (c ∷ []) ≡ p ++ (40 ∷ (x ++ (q ∷ (y ++ (c ∷ [])))))
  after_second x q y =
      append_assoc (p ++ (40 ∷ (x ++ (q ∷ [])))) y (c ∷ [])
      ∙ append_assoc p (40 ∷ (x ++ (q ∷ []))) (y ++ (c ∷ []))
      ∙ ap (λ (w : List ℕ). p ++ (40 ∷ w)) (append_assoc x (q ∷ []) (y ++ (c ∷ [])))

  after_number : (x y : List ℕ) → p ++ (40 ∷ (x ++ (64 ∷ y))) ++ (c ∷ []) ≡ p ++ (40 ∷ (x ++ (64 ∷ (y ++ (c ∷ [])))))
  after_number x y =
      append_assoc p (40 ∷ (x ++ (64 ∷ y))) (c ∷ []) ∙ ap (λ (w : List ℕ). p ++ (40 ∷ w)) (append_assoc x (64 ∷ y) (c ∷ []))

-- a byte that leads on is the next byte of the text
abbrev Leads : State → ℕ → Option State → Type 0
Leads σ c None = Unit {0}
Leads σ c (Some τ) = Fine τ × (sofar σ ++ (c ∷ []) ≡ sofar τ)

leads : (σ : State) (c : ℕ) → Fine σ → Leads σ c (step σ c)
leads (want K) c f =
    by_option (λ o. Leads (want K) c (option_map_or (λ n. Some (have (event n) K)) o (cond (eqb c 40) (Some (want (first ∷ K))) None))) (letter_of c)
    (λ n e. let h = byte_letter c n e in ((h.0, f), ap (λ (w : ℕ). opens K ++ (w ∷ [])) (sym h.1)))
    (λ e. by_test (λ b. Leads (want K) c (cond b (Some (want (first ∷ K))) None)) (eqb c 40)
    (λ q. (f, ap (λ (w : ℕ). opens K ++ (w ∷ [])) (eqb-true _ _ q)))
    (λ q. tt))
leads (have e []) c f = tt
leads (have x (first ∷ K)) c f =
    let on : (q : ℕ) → c ≡ q → opens K ++ (40 ∷ []) ++ render x ++ (c ∷ []) ≡ opens K ++ (40 ∷ (render x ++ (q ∷ []))) =
    (λ q e. after_first (opens K) c (render x) ∙ ap (λ (w : ℕ). opens K ++ (40 ∷ (render x ++ (w ∷ [])))) e) in
    sign_cases (λ g. Leads (have x (first ∷ K)) c (after_sign x K g)) c (λ op e. (f, on (op_byte op) e)) (λ e. (f, on 64 e)) tt
leads (have y (second op x ∷ K)) c f =
    by_test (λ b. Leads (have y (second op x ∷ K)) c (cond b (Some (have (pair op x y) K)) None)) (eqb c 41)
    (λ q. (
      ((f.1.0, f.0), f.1.1),
      after_second (opens K) c (render x) (op_byte op) (render y)
          ∙ ap (λ (w : ℕ). opens K ++ (40 ∷ (render x ++ (op_byte op ∷ (render y ++ (w ∷ [])))))) (eqb-true _ _ q),
    ))
    (λ q. tt)
leads (limit x K) c f =
    by_option (λ o. Leads (limit x K) c (option_map (λ d. number x d K) o)) (digit_of c)
    (λ d e. let h = byte_digit c d e in (
      (f.0, omega arith, f.1),
      after_number (opens K) c (render x) []
          ∙ ap (λ (w : List ℕ). opens K ++ (40 ∷ (render x ++ (64 ∷ w)))) (ap (λ (w : ℕ). w ∷ []) (sym h.1) ∙ sym (decimal_one d h.0)),
    ))
    (λ e. tt)
leads (number x v K) c f =
    by_option (λ o. Leads (number x v K) c (option_map_or (λ w. Some (number x w K)) o (cond (eqb c 41) (Some (have (within x v) K)) None))) (grown v c)
    (λ w e. let g = grown_some v c w e in
    let h = byte_digit c g.0 g.1 in (
      (f.0, g.4, f.2),
      after_number (opens K) c (render x) (decimal v)
          ∙ ap (λ (u : List ℕ). opens K ++ (40 ∷ (render x ++ (64 ∷ u))))
          (ap (λ (u : ℕ). decimal v ++ (u ∷ [])) (sym h.1) ∙ sym (decimal_next v g.0 g.2 h.0) ∙ ap decimal (sym g.3)),
    ))
    (λ e. by_test (λ b. Leads (number x v K) c (cond b (Some (have (within x v) K)) None)) (eqb c 41)
    (λ q. (
      ((f.0, f.1), f.2),
      after_number (opens K) c (render x) (decimal v)
          ∙ ap (λ (w : ℕ). opens K ++ (40 ∷ (render x ++ (64 ∷ (decimal v ++ (w ∷ [])))))) (eqb-true _ _ q),
    ))
    (λ q. tt))

pub leads_to : (σ τ : State) (c : ℕ) → Fine σ → step σ c ≡ Some τ → Fine τ × (sofar σ ++ (c ∷ []) ≡ sofar τ)
leads_to σ τ c f e = subst (Leads σ c) e (leads σ c f)

-- what a state has read can be gone on with, to the text of a pattern
back : (σ τ : State) (c : ℕ) → Fine σ → step σ c ≡ Some τ → Begins (sofar τ) → Begins (sofar σ)
back σ τ c f e b = record {
  tree = b.tree;
  rest = c ∷ b.rest;
  text = record {
    proper = b.text.proper;
    same = sym (append_assoc (sofar σ) (c ∷ []) b.rest) ∙ ap (λ (w : List ℕ). w ++ b.rest) (leads_to σ τ c f e).1 ∙ b.text.same;
  };
}

begins_have : (K : List Frame) (e : Pattern) → Fine (have e K) → Begins (sofar (have e K))
begins_have [] e f = record { tree = e; rest = []; text = record { proper = f.0; same = append-nil (render e) } }
begins_have (first ∷ K) e f =
    back (have e (first ∷ K)) (limit e K) 64 f (cap_step e K)
    (back (limit e K) (number e 0 K) 48 f (digit_step 0 e K (omega arith))
    (back (number e 0 K) (have (within e 0) K) 41 (f.0, omega arith, f.1) (shut_step e 0 K)
    (begins_have K (within e 0) ((f.0, omega arith), f.1))))
begins_have (second op x ∷ K) e f =
    back (have e (second op x ∷ K)) (have (pair op x e) K) 41 f refl (begins_have K (pair op x e) ((f.1.0, f.0), f.1.1))

a_letter : (K : List Frame) → step (want K) 65 ≡ Some (have (event 0) K)
unfolding letter_of
a_letter K = refl

pub begins_state : (σ : State) → Fine σ → Begins (sofar σ)
begins_state (want K) f = back (want K) (have (event 0) K) 65 f (a_letter K) (begins_have K (event 0) (omega arith, f))
begins_state (have e K) f = begins_have K e f
begins_state (limit x K) f =
    back (limit x K) (number x 0 K) 48 f (digit_step 0 x K (omega arith))
    (back (number x 0 K) (have (within x 0) K) 41 (f.0, omega arith, f.1) (shut_step x 0 K)
    (begins_have K (within x 0) ((f.0, omega arith), f.1)))
begins_state (number x v K) f =
    back (number x v K) (have (within x v) K) 41 f (shut_step x v K) (begins_have K (within x v) ((f.0, f.1), f.2))
