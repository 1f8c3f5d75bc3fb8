-- The laws of pairs as words: kept pairs are read back as they were written, and a tick keeps every length. Assumes nothing.
use mathlib.Core.Path.{◌≡◌, refl, ap, ◌∙◌}
use mathlib.Core.List.{List, [], ◌∷◌, ◌++◌}
use Prim.Native.Nat.{ℕ, zero, suc, ◌+◌, ◌*◌, ◌≤◌}
use native.Mathlib.Omega.{arith}
use native.Mathlib.Decide.{ℕ_discrete}
use lib.ListN.{length, drop, get_or, length-append, length-drop}
use Rattle.rules.specs.declared.Op.{Op}
use Rattle.rules.specs.declared.Op.TheVariants.{Either, Both, Without, Chain}
use Rattle.rules.proofs.Decisions.{pick_yes, pick_no}
use Rattle.detector.specs.Memory.{Span}
use Rattle.detector.specs.Choice.{gather}
use Rattle.detector.specs.Form.{Sorted}
use Rattle.cell.specs.Words.{kept_words, kept_of, starts_in}
use Rattle.cell.specs.Cell.{cell_words, possible, pairs_of, cell_after, cell_starts, starts_after}

kept_none : (n : ℕ) → kept_of (kept_words n []) ≡ []
unfolding kept_of kept_words
kept_none zero = refl
kept_none (suc n) = pick_yes (ℕ_discrete 0 0) [] (record { start = 0; end = 0 } ∷ kept_of (kept_words n [])) refl

kept_words_above : (n b : ℕ) (l : List Span) → length l ≤ n → Sorted b l → kept_of (kept_words n l) ≡ l
unfolding kept_of kept_words
kept_words_above n b [] h s = kept_none n
kept_words_above zero b (q ∷ l) h s = absurd (omega arith)
kept_words_above (suc n) b (q ∷ l) h s =
    pick_no (ℕ_discrete q.start 0) [] (q ∷ kept_of (kept_words n l)) (λ z. omega (arith, s.0))
    ∙ ap (λ k. q ∷ k) (kept_words_above n q.start l (omega arith) s.1)

-- kept pairs, put into words with zeros after, are read back
pub kept_of_words : (n : ℕ) (l : List Span) → length l ≤ n → Sorted 0 l → kept_of (kept_words n l) ≡ l
kept_of_words n l h s = kept_words_above n 0 l h s

pub length_kept_words : (n : ℕ) (l : List Span) → length (kept_words n l) ≡ 2 * n
unfolding kept_words
length_kept_words zero l = refl
length_kept_words (suc n) [] = omega (arith, length_kept_words n [])
length_kept_words (suc n) (q ∷ l) = omega (arith, length_kept_words n l)

-- one start a pair
pub length_starts_in : (n : ℕ) (c : List ℕ) → length c ≡ 2 * n → length (starts_in c) ≡ n
unfolding starts_in
length_starts_in zero [] h = refl
length_starts_in zero (a ∷ c) h = absurd (omega arith)
length_starts_in (suc n) [] h = absurd (omega arith)
length_starts_in (suc n) (a ∷ []) h = absurd (omega arith)
length_starts_in (suc n) (a ∷ b ∷ c) h = ap suc (length_starts_in n c (omega arith))

-- a tick keeps the length of a cell
pub length_after :
    (op : Op) (t x y : ℕ) (ys c : List ℕ) → length c ≡ cell_words op (length ys) → length (cell_after op t x y ys c) ≡ cell_words op (length ys)
unfolding cell_words cell_after
length_after Either t x y ys c h = h
length_after Both t x y ys c h = refl
length_after Without t x y ys c h = refl
length_after Chain t x y ys c h = omega (arith, length_kept_words (length ys) (gather (pairs_of c) ys))

-- the starts that a cell adds
pub length_cell_starts : (c : List ℕ) (y : ℕ) → length c ≡ cell_words Chain y → length (cell_starts Chain c) ≡ y + 1
unfolding cell_words cell_starts
length_cell_starts c y h =
    length-append (starts_in (drop 2 c)) (get_or c 0 0 ∷ [])
    ∙ ap (λ (n : ℕ). n + 1) (length_starts_in y (drop 2 c) (omega (arith, length-drop 2 c)))

-- an operator has as many possible starts as its p
pub length_starts_after :
    (op : Op) (xs ys c : List ℕ) → length c ≡ cell_words op (length ys) → length (starts_after op xs ys c) ≡ possible op (length xs) (length ys)
unfolding starts_after possible cell_starts
length_starts_after Either xs ys c h = length-append xs ys
length_starts_after Both xs ys c h =
    omega (arith, length-append xs (ys ++ cell_starts Both c), length-append ys (cell_starts Both c))
length_starts_after Without xs ys c h = refl
length_starts_after Chain xs ys c h = omega (arith, length-append xs (cell_starts Chain c), length_cell_starts c (length ys) h)
