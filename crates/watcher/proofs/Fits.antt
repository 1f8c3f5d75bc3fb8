-- The words of a cell fit exactly if they are those of a memory in form. Assumes nothing.
use Prim.Native.Nat.{ℕ, zero, suc, ◌*◌, ◌≤◌}
use mathlib.Core.Path.{◌≡◌, refl, sym, ap, ◌∙◌}
use mathlib.Core.Bool.{Bool, true, false, cond}
use mathlib.Core.List.{List, [], ◌∷◌, ◌++◌}
use native.Mathlib.Decide.{ℕ_discrete}
use native.Mathlib.Omega.{arith}
use lib.Dec.{ltb, leb, eqb}
use lib.ListN.{length}
use borrow.Author.Tests.{lt-ltb, le-leb, eq-eqb, ne_eqb, ltb-true, leb-true, eqb-true, eqb-false}
use Rattle.std.proofs.lemmas.Bool.{and_parts}
use Rattle.rules.proofs.Decisions.{both_true}
use Rattle.rules.specs.declared.Op.{Op}
use Rattle.rules.specs.declared.Op.TheVariants.{Either, Both, Without, Chain}
use Rattle.rules.specs.Lists.{All}
use Rattle.rules.specs.Pattern.{Pattern, pair}
use Rattle.detector.specs.Memory.{Span, Memory}
use Rattle.detector.specs.Possible.{p}
use Rattle.detector.specs.Form.{Fits, Sorted, Form}
use Rattle.cell.specs.Words.{kept_words}
use Rattle.cell.specs.Cell.{cell_words}
use Rattle.cell.specs.Form.{pair_fits, all_zero, kept_fits, cell_fits}
use Rattle.watcher.specs.State.{cells}
use Rattle.watcher.proofs.Cells.{own, cells_ahead}

-- a pair
pair_sound : (τ a b : ℕ) → pair_fits τ a b ≡ true → Fits τ (record { start = a; end = b })
unfolding pair_fits
pair_sound τ a b q = go (eqb a 0) refl q
  where
    go : (t : Bool) → eqb a 0 ≡ t → cond t (eqb b 0) (cond (leb a b) (leb b τ) false) ≡ true → Fits τ (record { start = a; end = b })
    go true e q = let k = eqb-true b 0 q in let l = eqb-true a 0 e in (omega arith, omega arith, λ z. k)
    go false e q =
        let k = both_true (leb a b) (leb b τ) q in
        (leb-true a b k.0, leb-true b τ k.1, λ z. absurd (eqb-false a 0 e z))

pair_complete : (τ : ℕ) (q : Span) → Fits τ q → pair_fits τ q.start q.end ≡ true
unfolding pair_fits
pair_complete τ q f = go (ℕ_discrete q.start 0)
  where
    go : Dec (q.start ≡ 0) → cond (eqb q.start 0) (eqb q.end 0) (cond (leb q.start q.end) (leb q.end τ) false) ≡ true
    go (yes h) = rw (eq-eqb q.start 0 h) (eq-eqb q.end 0 (f.2 h))
    go (no h) = rw (ne_eqb q.start 0 h, le-leb q.start q.end f.0) (le-leb q.end τ f.1)

-- zeros are no kept pairs
zeros_sound : (n : ℕ) (c : List ℕ) → length c ≡ 2 * n → all_zero c ≡ true → c ≡ kept_words n []
unfolding kept_words all_zero
zeros_sound zero [] l q = refl
zeros_sound zero (a ∷ c) l q = absurd (omega arith)
zeros_sound (suc n) [] l q = absurd (omega arith)
zeros_sound (suc n) (a ∷ []) l q = absurd (omega arith)
zeros_sound (suc n) (a ∷ b ∷ c) l q =
    let u = and_parts (eqb a 0) (all_zero (b ∷ c)) q in
    let v = and_parts (eqb b 0) (all_zero c) u.1 in
    rw (eqb-true a 0 u.0, eqb-true b 0 v.0, zeros_sound n c (omega arith) v.1)

zeros_complete : (n : ℕ) → all_zero (kept_words n []) ≡ true
unfolding kept_words all_zero
zeros_complete zero = refl
zeros_complete (suc n) = zeros_complete n

-- words that hold kept pairs
record Kept (τ last n : ℕ) (c : List ℕ) : Type 0 where
  pairs : List Span
  same : c ≡ kept_words n pairs
  fit : All (Fits τ) pairs
  rise : Sorted last pairs
  few : length pairs ≤ n

kept_sound : (τ last n : ℕ) (c : List ℕ) → length c ≡ 2 * n → kept_fits τ last c ≡ true → Kept τ last n c
unfolding kept_words kept_fits
kept_sound τ last zero [] l q = record { pairs = []; same = refl; fit = tt; rise = tt; few = omega arith }
kept_sound τ last zero (a ∷ c) l q = absurd (omega arith)
kept_sound τ last (suc n) [] l q = absurd (omega arith)
kept_sound τ last (suc n) (a ∷ []) l q = absurd (omega arith)
kept_sound τ last (suc n) (a ∷ b ∷ c) l q = go (eqb a 0) refl q (kept_sound τ a n c (omega arith))
  where
    go : (t : Bool) → eqb a 0 ≡ t
        → cond t (all_zero (b ∷ c)) (cond (ltb last a) (cond (pair_fits τ a b) (kept_fits τ a c) false) false) ≡ true
        → (kept_fits τ a c ≡ true → Kept τ a n c) → Kept τ last (suc n) (a ∷ b ∷ c)
    go true e q more =
        let z : all_zero (a ∷ b ∷ c) ≡ true = unfold all_zero in rw e q in
        record { pairs = []; same = zeros_sound (suc n) (a ∷ b ∷ c) l z; fit = tt; rise = tt; few = omega arith }
    go false e q more =
        let u = both_true (ltb last a) (cond (pair_fits τ a b) (kept_fits τ a c) false) q in
        let v = both_true (pair_fits τ a b) (kept_fits τ a c) u.1 in
        let k = more v.1 in
        record {
          pairs = record { start = a; end = b } ∷ k.pairs;
          same = ap (λ (r : List ℕ). a ∷ b ∷ r) k.same;
          fit = (pair_sound τ a b v.0, k.fit);
          rise = (ltb-true last a u.0, k.rise);
          few = omega (arith, k.few);
        }

kept_complete : (τ last n : ℕ) (l : List Span) → All (Fits τ) l → Sorted last l → length l ≤ n → kept_fits τ last (kept_words n l) ≡ true
unfolding kept_words kept_fits all_zero
kept_complete τ last zero l f s k = refl
kept_complete τ last (suc n) [] f s k = zeros_complete n
kept_complete τ last (suc n) (q ∷ l) f s k =
    rw (ne_eqb q.start 0 (λ z. omega (arith, s.0)), lt-ltb last q.start s.0, pair_complete τ q f.0)
    (kept_complete τ q.start n l f.1 s.1 (omega arith))

-- the words of a memory in form stand ahead, and then the rest
pub record Found (τ : ℕ) (e : Pattern) (ahead rest : List ℕ) : Type 0 where
  pub memory : Memory e
  pub form : Form τ e memory
  pub same : ahead ≡ cells e memory ++ rest

-- an operator's own words, judged well after its operands' memories, make its memory
module _ (τ : ℕ) (x y : Pattern) (mx : Memory x) (my : Memory y) (fx : Form τ x mx) (fy : Form τ y my) (rest : List ℕ) where
  abbrev pub Makes : Op → List ℕ → Type 0
  Makes op c = length c ≡ cell_words op (p y) → cell_fits τ op c ≡ true → Found τ (pair op x y) (cells x mx ++ (cells y my ++ (c ++ rest))) rest

  either_found : (c : List ℕ) → Makes Either c
  unfolding cell_words
  either_found [] l q = record { memory = (mx, my); form = (fx, fy); same = sym (cells_ahead Either x y (mx, my) rest) }
  either_found (a ∷ c) l q = absurd (omega arith)

  both_found : (c : List ℕ) → Makes Both c
  unfolding cell_words cell_fits
  both_found [] l q = absurd (omega arith)
  both_found (a ∷ []) l q = absurd (omega arith)
  both_found (a ∷ b ∷ []) l q = absurd (omega arith)
  both_found (a ∷ b ∷ c ∷ []) l q = absurd (omega arith)
  both_found (a ∷ b ∷ c ∷ d ∷ []) l q =
      let u = both_true (pair_fits τ a b) (pair_fits τ c d) q in
      let m : Memory (pair Both x y) = (mx, my, record { start = a; end = b }, record { start = c; end = d }) in
      record { memory = m; form = (fx, fy, pair_sound τ a b u.0, pair_sound τ c d u.1); same = sym (cells_ahead Both x y m rest) }
  both_found (a ∷ b ∷ c ∷ d ∷ e ∷ r) l q = absurd (omega arith)

  without_found : (c : List ℕ) → Makes Without c
  unfolding cell_words cell_fits
  without_found [] l q = absurd (omega arith)
  without_found (a ∷ []) l q =
      record { memory = (mx, my, a); form = (fx, fy, leb-true a τ q); same = sym (cells_ahead Without x y (mx, my, a) rest) }
  without_found (a ∷ b ∷ r) l q = absurd (omega arith)

  chain_found : (c : List ℕ) → Makes Chain c
  unfolding cell_words cell_fits
  chain_found [] l q = absurd (omega arith)
  chain_found (a ∷ []) l q = absurd (omega arith)
  chain_found (a ∷ b ∷ c) l q =
      let u = both_true (pair_fits τ a b) (kept_fits τ 0 c) q in
      let k = kept_sound τ 0 (p y) c (omega arith) u.1 in
      let m : Memory (pair Chain x y) = (mx, my, record { start = a; end = b }, k.pairs) in
      record {
        memory = m;
        form = (fx, fy, pair_sound τ a b u.0, k.fit, k.rise, k.few);
        same =
            ap (λ (r : List ℕ). cells x mx ++ (cells y my ++ (a ∷ b ∷ (r ++ rest)))) k.same
            ∙ sym (cells_ahead Chain x y m rest);
      }

  pub own_found : (op : Op) (c : List ℕ) → Makes op c
  own_found Either = either_found
  own_found Both = both_found
  own_found Without = without_found
  own_found Chain = chain_found

-- and an operator's own words of a memory in form are judged well
pub own_fits : (τ : ℕ) (op : Op) (x y : Pattern) (m : Memory (pair op x y)) → Form τ (pair op x y) m → cell_fits τ op (own op x y m) ≡ true
unfolding cell_fits
own_fits τ Either x y m f = refl
own_fits τ Both x y m f = rw (pair_complete τ m.2 f.2) (pair_complete τ m.3 f.3)
own_fits τ Without x y m f = le-leb m.2 τ f.2
own_fits τ Chain x y m f = rw (pair_complete τ m.2 f.2) (kept_complete τ 0 (p y) m.3 f.3 f.4 f.5)
