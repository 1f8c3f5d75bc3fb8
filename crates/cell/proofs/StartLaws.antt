-- The starts of a cell in order, put one after the other among others. Assumes nothing.
use mathlib.Core.Path.{◌≡◌, refl, sym, ap, ◌∙◌}
use mathlib.Core.Bool.{Bool, true, false}
use mathlib.Core.List.{List, [], ◌∷◌, ◌++◌, append_assoc}
use Prim.Native.Nat.{ℕ, zero, suc, ◌+◌, ◌-◌, ◌*◌, ◌/◌, ◌≤◌, ◌<◌}
use native.Mathlib.Nat.{add-zero}
use native.Mathlib.Omega.{arith}
use native.Mathlib.Numerals.{add-one}
use lib.Dec.{leb}
use lib.ListN.{length, take, drop, get_or, set, length-drop, take-append-drop, get_or-append}
use lib.Seq.{paste, paste-suc, take-length, get_or-drop, get_or_at, sets-eq}
use borrow.Author.Tests.{le-leb, eq-eqb, ne_eqb}
use Rattle.rules.specs.declared.Op.{Op}
use Rattle.rules.specs.declared.Op.TheVariants.{Both, Chain}
use Rattle.cell.specs.Words.{starts_in}
use Rattle.cell.specs.Cell.{cell_words, cell_starts}
use Rattle.cell.specs.Form.{size_fits}
use Rattle.cell.specs.Calls.{Paired, Pushed, starts_fit, PushAnswers}
use Rattle.cell.proofs.WordLaws.{length_starts_in, length_cell_starts}
use Rattle.cell.proofs.Sizes.{size_fits_words, chain_paired}

starts_at : (c : List ℕ) (i : ℕ) → 2 * i + 1 < length c → get_or (starts_in c) i 0 ≡ get_or c (2 * i) 0
unfolding starts_in
starts_at [] i h = absurd (omega arith)
starts_at (a ∷ []) i h = absurd (omega arith)
starts_at (a ∷ b ∷ c) zero h = refl
starts_at (a ∷ b ∷ c) (suc i) h =
    let e : 2 * suc i ≡ suc (suc (2 * i)) = omega arith in
    rw e (starts_at c i (omega arith))

length_chain_starts : (c : List ℕ) → Paired (length c) → length (cell_starts Chain c) ≡ length c / 2
unfolding cell_words
length_chain_starts c p =
    let e : length c ≡ 2 * (1 + (length c / 2 - 1)) = omega arith in
    length_cell_starts c (length c / 2 - 1) e ∙ omega arith

-- first the kept pairs' starts, then latest's
chain_start_kept : (c : List ℕ) → Paired (length c) → (i : ℕ) → 2 * i + 2 < length c → get_or (cell_starts Chain c) i 0 ≡ get_or c (2 * i + 2) 0
unfolding cell_starts
chain_start_kept c p i h =
    let n : length (starts_in (drop 2 c)) ≡ length c / 2 - 1 = length_starts_in (length c / 2 - 1) (drop 2 c) (omega (arith, length-drop 2 c)) in
    let e : 2 + 2 * i ≡ 2 * i + 2 = omega arith in
    get_or-append (starts_in (drop 2 c)) (get_or c 0 0 ∷ []) 0 i (omega arith)
    ∙ starts_at (drop 2 c) i (omega (arith, length-drop 2 c)) ∙ get_or-drop 2 c (2 * i) 0 ∙ ap (λ (k : ℕ). get_or c k 0) e

chain_start_latest : (c : List ℕ) (i : ℕ) → 2 * i + 2 ≡ length c → get_or (cell_starts Chain c) i 0 ≡ get_or c 0 0
unfolding cell_starts
chain_start_latest c i h =
    get_or_at (starts_in (drop 2 c)) (get_or c 0 0) [] 0 i (length_starts_in i (drop 2 c) (omega (arith, length-drop 2 c)))

-- a word more
push_one :
    (l s s' : List ℕ) (at i v : ℕ) → at + i < length s → i < length l → get_or l i 0 ≡ v → s' ≡ paste s at l i
    → set s' (at + i) v ≡ paste s at l (i + 1)
push_one l s s' at i v h k e q =
    ap (λ (z : List ℕ). set z (at + i) v) q ∙ ap (λ (z : ℕ). set (paste s at l i) (at + i) z) (sym e)
    ∙ paste-suc s at l i 0 h k ∙ ap (paste s at l) (sym (add-one i))

module _ (c s : List ℕ) (at : ℕ) (p : Paired (length c)) (room : at + length c / 2 ≤ length s) where
  pub push_kept :
      (s' : List ℕ) (i : ℕ) → 2 * i + 2 < length c → s' ≡ paste s at (cell_starts Chain c) i
      → set s' (at + i) (get_or c (2 * i + 2) 0) ≡ paste s at (cell_starts Chain c) (i + 1)
  push_kept s' i h q =
      push_one (cell_starts Chain c) s s' at i _ (omega arith) (omega (arith, length_chain_starts c p)) (chain_start_kept c p i h) q

  pub push_latest :
      (s' : List ℕ) (i : ℕ) → 2 * i + 2 ≡ length c → s' ≡ paste s at (cell_starts Chain c) i
      → Pushed Chain c s at (set s' (at + i) (get_or c 0 0)) (at + i + 1)
  push_latest s' i h q =
      let l : List ℕ = cell_starts Chain c in
      let n : i + 1 ≡ length l = omega (arith, length_chain_starts c p) in
      record {
        starts =
            push_one l s s' at i _ (omega arith) (omega arith) (chain_start_latest c i h) q
            ∙ ap (paste s at l) n ∙ ap (λ (z : List ℕ). take at s ++ z ++ drop (at + length l) s) (take-length l)
            ∙ append_assoc (take at s) l (drop (at + length l) s);
        place = omega arith;
      }

-- a cell that adds no start
pub push_none : (op : Op) (c s : List ℕ) (at : ℕ) → cell_starts op c ≡ [] → Pushed op c s at s at
push_none op c s at e =
    record {
      starts = rw (e, add-zero at) (sym (take-append-drop at s));
      place = rw e (sym (add-zero at));
    }

-- left's start and right's
pub push_two :
    (c s : List ℕ) (at : ℕ) → at + 2 ≤ length s
    → Pushed Both c s at (set (set s at (get_or c 0 0)) (at + 1) (get_or c 2 0)) (at + 2)
unfolding cell_starts
push_two c s at h =
    record {
      starts = rw (add-one at) (sets-eq (get_or c 0 0 ∷ get_or c 2 0 ∷ []) s at h ∙ append_assoc (take at s) _ _);
      place = refl;
    }

-- starts are put only where they fit
module _ {op : Op} {c s : List ℕ} {at : ℕ} {s' : List ℕ} {r : ℕ} (q : starts_fit op c s at ≡ true) where
  pub push_answers : Pushed op c s at s' r → PushAnswers op c s at s' r
  push_answers k = record { starts = rw q k.starts; place = rw q k.place }

  pub push_answered : PushAnswers op c s at s' r → Pushed op c s at s' r
  push_answered k = record { starts = rw q at k.starts; place = rw q at k.place }

module _ (op : Op) (c s : List ℕ) (at : ℕ) where
  pub push_left : starts_fit op c s at ≡ false → PushAnswers op c s at s at
  push_left q = record { starts = rw q; place = rw q }

  -- where there are none it is all the same
  pub push_same : cell_starts op c ≡ [] → PushAnswers op c s at s at
  push_same e = go (starts_fit op c s at) refl
    where
      go : (b : Bool) → starts_fit op c s at ≡ b → PushAnswers op c s at s at
      go true q = push_answers q (push_none op c s at e)
      go false q = push_left q

  pub starts_fit_room : size_fits op (length c) ≡ true → starts_fit op c s at ≡ leb (at + length (cell_starts op c)) (length s)
  unfolding starts_fit
  starts_fit_room q = rw q

  pub starts_not : size_fits op (length c) ≡ false → starts_fit op c s at ≡ false
  unfolding starts_fit
  starts_not q = rw q

  -- the starts of the operator's cell fit where they have room
  pub cell_starts_fit : (y : ℕ) → length c ≡ cell_words op y → at + length (cell_starts op c) ≤ length s → starts_fit op c s at ≡ true
  cell_starts_fit y e h =
      starts_fit_room (ap (size_fits op) e ∙ size_fits_words op y) ∙ le-leb (at + length (cell_starts op c)) (length s) h

module _ (c s : List ℕ) (at : ℕ) where
  pub both_starts_fit : length c ≡ 4 → starts_fit Both c s at ≡ leb (at + 2) (length s)
  unfolding size_fits cell_starts
  both_starts_fit e = starts_fit_room Both c s at (eq-eqb (length c) 4 e)

  pub both_starts_not : (length c ≡ 4 → ⊥) → starts_fit Both c s at ≡ false
  unfolding size_fits
  both_starts_not n = starts_not Both c s at (ne_eqb (length c) 4 n)

  pub chain_starts_fit : size_fits Chain (length c) ≡ true → starts_fit Chain c s at ≡ leb (at + length c / 2) (length s)
  chain_starts_fit q = starts_fit_room Chain c s at q ∙ ap (λ (k : ℕ). leb (at + k) (length s)) (length_chain_starts c (chain_paired (length c) q))
