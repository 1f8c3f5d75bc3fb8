-- What the words of a cell come to, once its operator is known. Assumes nothing.
use mathlib.Core.Path.{◌≡◌, refl, ◌∙◌}
use mathlib.Core.Bool.{Bool, true, false, cond}
use Prim.Native.Nat.{ℕ, ◌+◌, ◌*◌, ◌%◌, ◌≤◌}
use native.Mathlib.Omega.{arith}
use lib.Dec.{leb, eqb}
use borrow.Author.Tests.{leb-true, eqb-true, le-leb, eq-eqb}
use Rattle.rules.proofs.Decisions.{both_true}
use Rattle.rules.specs.declared.Op.{Op}
use Rattle.rules.specs.declared.Op.TheVariants.{Either, Both, Without, Chain}
use Rattle.cell.specs.Cell.{cell_words}
use Rattle.cell.specs.Form.{size_fits}
use Rattle.cell.specs.Calls.{Paired, is_cell}

-- the words of the operator's cell, for any number of possible starts, are a size that fits
pub size_fits_words : (op : Op) (y : ℕ) → size_fits op (cell_words op y) ≡ true
unfolding size_fits cell_words
size_fits_words Either y = refl
size_fits_words Both y = refl
size_fits_words Without y = refl
size_fits_words Chain y = rw (le-leb 2 (2 * (1 + y)) (omega arith)) (eq-eqb (2 * (1 + y) % 2) 0 (omega arith))

pub chain_paired : (n : ℕ) → size_fits Chain n ≡ true → Paired n
unfolding size_fits
chain_paired n q =
    let u = both_true (leb 2 n) (eqb (n % 2) 0) q in
    record { some = leb-true 2 n u.0; even = eqb-true (n % 2) 0 u.1 }

-- the operator's cell for a number of possible starts: its words, where these are few
module _ (op : Op) (y n : ℕ) where
  is_cell_words : cell_words op y ≤ 126 → is_cell op y n ≡ eqb n (cell_words op y)
  unfolding is_cell
  is_cell_words h = go (eqb n (cell_words op y)) refl
    where
      go : (b : Bool) → eqb n (cell_words op y) ≡ b → cond b (leb n 126) false ≡ b
      go true q = le-leb n 126 (omega (arith, eqb-true n (cell_words op y) q))
      go false q = refl

few_words : (op : Op) (y : ℕ) → y ≤ 62 → cell_words op y ≤ 126
unfolding cell_words
few_words Either y h = omega arith
few_words Both y h = omega arith
few_words Without y h = omega arith
few_words Chain y h = omega arith

pub is_cell_of_words : (op : Op) (y n : ℕ) → y ≤ 62 → n ≡ cell_words op y → is_cell op y n ≡ true
is_cell_of_words op y n few e = is_cell_words op y n (few_words op y few) ∙ eq-eqb n (cell_words op y) e

module _ (y n : ℕ) where
  pub is_either : is_cell Either y n ≡ eqb n 0
  unfolding cell_words
  is_either = is_cell_words Either y n (omega arith)

  pub is_both : is_cell Both y n ≡ eqb n 4
  unfolding cell_words
  is_both = is_cell_words Both y n (omega arith)

  pub is_without : is_cell Without y n ≡ eqb n 1
  unfolding cell_words
  is_without = is_cell_words Without y n (omega arith)

  pub is_chain_ready : is_cell Chain y n ≡ true → (y ≤ 62) × (n ≡ cell_words Chain y)
  unfolding is_cell cell_words
  is_chain_ready q =
      let u = both_true (eqb n (2 * (1 + y))) (leb n 126) q in
      let e : n ≡ 2 * (1 + y) = eqb-true n (2 * (1 + y)) u.0 in
      (omega (arith, leb-true n 126 u.1), e)
