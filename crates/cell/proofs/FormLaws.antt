-- The form of words from a place on, tested one after the other. Assumes nothing.
use mathlib.Core.Path.{◌≡◌, refl}
use mathlib.Core.Bool.{Bool, true, false, cond}
use mathlib.Core.List.{List}
use Prim.Native.Nat.{ℕ, ◌+◌, ◌≤◌, ◌<◌}
use lib.Dec.{eqb}
use lib.ListN.{length, drop, get_or, drop_of_length-le}
use borrow.Author.Tests.{eq-eqb, ne_eqb, lt-ltb, le-ltb}
use Rattle.rules.specs.declared.Op.{Op}
use Rattle.rules.specs.declared.Op.TheVariants.{Either}
use Rattle.cell.specs.Cell.{cell_words}
use Rattle.cell.specs.Form.{pair_fits, all_zero, kept_fits, cell_fits, size_fits, cell_in_form}
use Rattle.cell.proofs.Sizes.{size_fits_words}
use Rattle.cell.proofs.Pairs.{drop_two}

pub kept_fits_end : (τ last : ℕ) (c : List ℕ) (at : ℕ) → length c ≤ at → kept_fits τ last (drop at c) ≡ true
unfolding kept_fits
kept_fits_end τ last c at h = rw (drop_of_length-le c h)

module _ (τ last : ℕ) (c : List ℕ) (at : ℕ) (h : at + 1 < length c) where
  -- an empty pair: zeros after
  pub kept_fits_empty : get_or c at 0 ≡ 0 → kept_fits τ last (drop at c) ≡ all_zero (drop at c)
  unfolding kept_fits all_zero
  kept_fits_empty z = rw (drop_two c at h, eq-eqb (get_or c at 0) 0 z)

  pub kept_fits_low : (get_or c at 0 ≡ 0 → ⊥) → get_or c at 0 ≤ last → kept_fits τ last (drop at c) ≡ false
  unfolding kept_fits
  kept_fits_low z l = rw (drop_two c at h, ne_eqb (get_or c at 0) 0 z, le-ltb last (get_or c at 0) l)

  pub kept_fits_pair :
      (get_or c at 0 ≡ 0 → ⊥) → last < get_or c at 0
      → kept_fits τ last (drop at c) ≡ cond (pair_fits τ (get_or c at 0) (get_or c (at + 1) 0)) (kept_fits τ (get_or c at 0) (drop (at + 2) c)) false
  unfolding kept_fits
  kept_fits_pair z l = rw (drop_two c at h, ne_eqb (get_or c at 0) 0 z, lt-ltb last (get_or c at 0) l)

-- the operator's words are judged as its cell
pub cell_in_form_fits : (τ : ℕ) (op : Op) (c : List ℕ) (y : ℕ) → length c ≡ cell_words op y → cell_in_form τ op c ≡ cell_fits τ op c
unfolding cell_in_form
cell_in_form_fits τ op c y e = rw (e, size_fits_words op y)

-- a `|` has no words, and nothing else to fit
pub either_in_form : (τ : ℕ) (c : List ℕ) → eqb (length c) 0 ≡ cell_in_form τ Either c
unfolding cell_in_form size_fits cell_fits
either_in_form τ c = go (eqb (length c) 0)
  where
    go : (b : Bool) → b ≡ cond b true false
    go true = refl
    go false = refl
