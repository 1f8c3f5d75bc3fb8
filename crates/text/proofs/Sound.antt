-- Where the machine stops, nothing longer begins a pattern's text; where it ends whole, the text is that of its pattern. So a text has
-- one pattern, and a broken text one place. Assumes nothing.
use Rattle.std.proofs.Common.{◌≡◌, ℕ, suc, ◌+◌, ◌-◌, ◌<◌, ◌≤◌, List, [], ◌∷◌, ◌++◌, length, take, drop, Option, Some, None, sym, refl, ap, ◌∙◌, subst, ap₂, append_assoc, append-nil, arith, length-append, length-drop, Result, Ok, Err}
use lib.Seq.{take-append_seam, take-append-add, drop-append_seam}
use Rattle.rules.proofs.Impossible.{impossible}
use Rattle.rules.specs.Pattern.{Pattern, Proper}
use Rattle.text.specs.Render.{numbers, render}
use Rattle.text.specs.Grammar.{TextOf, Begins, Broken}
use Rattle.text.specs.inner.Machine.{State, step, ended, follow, read_from}
use Rattle.text.specs.inner.Machine.State.{want, have, limit, number}
use Rattle.decimal.proofs.Branches.{either_way}
use Rattle.text.proofs.Complete.{on, complete_whole}
use Rattle.text.proofs.Begun.{sofar, Fine, leads_to, begins_state}

-- where a run stops: the state there, and what has been read
record Stop (σ : State) (s r : List ℕ) : Type 0 where
  state : State
  read : List ℕ
  fine : Fine state
  split : s ≡ read ++ r
  text : sofar σ ++ read ≡ sofar state
  follows : (t : List ℕ) → read_from σ (read ++ t) ≡ read_from state t
  stays : (b : ℕ) (t : List ℕ) → r ≡ b ∷ t → step state b ≡ None

ended_nil : (σ : State) (r : List ℕ) → ended σ ≡ Err r → r ≡ []
ended_nil (want K) r e = cc
ended_nil (have x []) r e = impossible cc
ended_nil (have x (f ∷ K)) r e = cc
ended_nil (limit x K) r e = cc
ended_nil (number x v K) r e = cc

nil_cons : (r : List ℕ) (b : ℕ) (t : List ℕ) → r ≡ [] → r ≡ b ∷ t → ⊥
nil_cons r b t p q = impossible cc

stop : (s : List ℕ) (σ : State) (r : List ℕ) → Fine σ → read_from σ s ≡ Err r → Stop σ s r
unfolding read_from
stop [] σ r f e =
    let n : r ≡ [] = ended_nil σ r e in
    record {
      state = σ;
      read = [];
      fine = f;
      split = sym n;
      text = append-nil (sofar σ);
      follows = λ t. refl;
      stays = λ b t q. absurd (nil_cons r b t n q);
    }
stop (c ∷ s) σ r f e = go (λ τ g q. stop s τ r g q) (step σ c) refl
  where
    go : ((τ : State) → Fine τ → read_from τ s ≡ Err r → Stop τ s r) → (m : Option State) → step σ c ≡ m → Stop σ (c ∷ s) r
    go again None q =
        let here : read_from σ (c ∷ s) ≡ Err (c ∷ s) = ap (λ (m : Option State). follow m (λ υ. read_from υ s) (c ∷ s)) q in
        let n : c ∷ s ≡ r = cc in
        record {
          state = σ;
          read = [];
          fine = f;
          split = n;
          text = append-nil (sofar σ);
          follows = λ t. refl;
          stays = λ b t p. (let z : b ≡ c = cc in ap (step σ) z ∙ q);
        }
    go again (Some τ) q =
        let l = leads_to σ τ c f q in
        let u = again τ l.0 (sym (on σ τ c s q) ∙ e) in
        record {
          state = u.state;
          read = c ∷ u.read;
          fine = u.fine;
          split = ap (λ (w : List ℕ). c ∷ w) u.split;
          text = sym (append_assoc (sofar σ) (c ∷ []) u.read) ∙ ap (λ (w : List ℕ). w ++ u.read) l.1 ∙ u.text;
          follows = λ t. on σ τ c (u.read ++ t) q ∙ u.follows t;
          stays = u.stays;
        }

no_move : (σ : State) (b : ℕ) (t : List ℕ) → step σ b ≡ None → read_from σ (b ∷ t) ≡ Err (b ∷ t)
unfolding read_from
no_move σ b t e = ap (λ (m : Option State). follow m (λ υ. read_from υ t) (b ∷ t)) e

whole_stopped : (o : Result Pattern (List ℕ)) (e : Pattern) (r : List ℕ) → o ≡ Ok e → o ≡ Err r → ⊥
whole_stopped o e r p q = impossible cc

-- a text that the machine stops in is broken there
pub broken : (s : List ℕ) (place : ℕ) → place ≤ length s → read_from (want []) s ≡ Err (drop place s) → Broken s place
broken s place h e = record {
  no_text = λ x t. whole_stopped _ x _ (complete_whole s x t) e;
  inside = h;
  begins =
      subst Begins (sym u.text ∙ sym (take-append_seam u.read (drop place s)) ∙ ap₂ take size (sym u.split))
      (begins_state u.state u.fine);
  longest = λ m k b. either_way place m (λ l. absurd (too_long m k b l (drop place s) refl)) (λ l. l);
}
  where
    u : Stop (want []) s (drop place s)
    u = stop s (want []) (drop place s) tt e

    size : length u.read ≡ place
    size = omega (arith, simp (length-append, length-drop) at (ap length u.split))

    too_long : (m : ℕ) → m ≤ length s → Begins (take m s) → place < m → (r : List ℕ) → drop place s ≡ r → ⊥
    too_long m k b l [] q = omega (arith, simp length-drop at (ap length q))
    too_long m k b l (c ∷ r) q =
        let j = m - place - 1 in
        let d : m ≡ length u.read + suc j = omega (arith, size) in
        let cut : take m s ≡ u.read ++ (c ∷ take j r) =
        ap₂ take d (u.split ∙ ap (λ (w : List ℕ). u.read ++ w) q) ∙ take-append-add u.read (c ∷ r) (suc j) in
        let runs : read_from (want []) (take m s ++ b.rest) ≡ Err (c ∷ (take j r ++ b.rest)) =
        ap (read_from (want [])) (ap (λ (w : List ℕ). w ++ b.rest) cut ∙ append_assoc u.read (c ∷ take j r) b.rest)
        ∙ u.follows (c ∷ (take j r ++ b.rest)) ∙ no_move u.state c (take j r ++ b.rest) (u.stays c r q) in
        whole_stopped _ b.tree _ (complete_whole _ b.tree b.text) runs

-- a text that the machine reads whole is the text of the pattern that it says
ended_whole : (σ : State) (e : Pattern) → Fine σ → ended σ ≡ Ok e → TextOf (sofar σ ++ []) e
ended_whole (want K) e f q = impossible cc
ended_whole (have x []) e f q =
    let z : x ≡ e = cc in
    record { proper = subst (Proper numbers) z f.0; same = append-nil (render x) ∙ ap render z }
ended_whole (have x (g ∷ K)) e f q = impossible cc
ended_whole (limit x K) e f q = impossible cc
ended_whole (number x v K) e f q = impossible cc

sound : (s : List ℕ) (σ : State) (e : Pattern) → Fine σ → read_from σ s ≡ Ok e → TextOf (sofar σ ++ s) e
unfolding read_from
sound [] σ e f q = ended_whole σ e f q
sound (c ∷ s) σ e f q = go (λ τ g p. sound s τ e g p) (step σ c) refl
  where
    go : ((τ : State) → Fine τ → read_from τ s ≡ Ok e → TextOf (sofar τ ++ s) e) → (m : Option State) → step σ c ≡ m → TextOf (sofar σ ++ (c ∷ s)) e
    go again None p = absurd (whole_stopped _ e (c ∷ s) q (ap (λ (m : Option State). follow m (λ υ. read_from υ s) (c ∷ s)) p))
    go again (Some τ) p =
        let l = leads_to σ τ c f p in
        subst (λ (w : List ℕ). TextOf w e) (ap (λ (w : List ℕ). w ++ s) (sym l.1) ∙ append_assoc (sofar σ) (c ∷ []) s)
        (again τ l.0 (sym (on σ τ c s p) ∙ q))

pub text_of : (s : List ℕ) (e : Pattern) → read_from (want []) s ≡ Ok e → TextOf s e
text_of s e q = sound s (want []) e tt q

-- a text has one pattern, and a broken text one place
pub one_pattern : (s : List ℕ) (e e' : Pattern) → TextOf s e → TextOf s e' → e ≡ e'
one_pattern s e e' p q = let a = complete_whole s e p in let b = complete_whole s e' q in cc

pub one_place : (s : List ℕ) (p q : ℕ) → Broken s p → Broken s q → p ≡ q
one_place s p q a b = omega (arith, a.longest q b.inside b.begins, b.longest p a.inside a.begins)

-- the place where the machine stops
pub stopped_at : (s r : List ℕ) → read_from (want []) s ≡ Err r → Broken s (length s - length r)
stopped_at s r e = broken s (length s - length r) (omega arith) (e ∙ ap Err rest)
  where
    u : Stop (want []) s r
    u = stop s (want []) r tt e

    rest : r ≡ drop (length s - length r) s
    rest =
        let n : length u.read ≡ length s - length r = omega (arith, simp length-append at (ap length u.split)) in
        sym (drop-append_seam u.read r) ∙ ap₂ drop n (sym u.split)
