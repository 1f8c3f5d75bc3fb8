-- The form of a cell's words, where the next tick allowed is τ (docs/RULES.md, "Room and state"). Assumes nothing: these are definitions.
use Rattle.std.specs.Prelude.{Bool, true, false, cond, List, [], ◌∷◌, ℕ, ◌%◌, ltb, leb, eqb, get_or, drop, length, ◌==◌}
use Rattle.std.specs.List.{list_all}
use Rattle.rules.specs.declared.Op.{Op}
use Rattle.rules.specs.declared.Op.TheVariants.{Either, Both, Without, Chain}

-- a pair is 0,0 or has both words above 0, start <= end, and its end+1 is at most the next tick
unfoldable pub pair_fits : ℕ → ℕ → ℕ → Bool
pair_fits τ a b = cond (eqb a 0) (eqb b 0) (cond (leb a b) (leb b τ) false)

-- every word is zero
unfoldable pub all_zero : List ℕ → Bool
all_zero c = list_all (λ a. a == 0) c

-- the kept pairs are first, with starts strictly rising, and zeros after
unfoldable pub kept_fits : ℕ → ℕ → List ℕ → Bool
kept_fits τ last [] = true
kept_fits τ last (a ∷ []) = eqb a 0
kept_fits τ last (a ∷ b ∷ c) = cond (eqb a 0) (all_zero (b ∷ c)) (cond (ltb last a) (cond (pair_fits τ a b) (kept_fits τ a c) false) false)

-- the form of an operator's cell that has its words
unfoldable pub cell_fits : ℕ → Op → List ℕ → Bool
cell_fits τ Either c = true
cell_fits τ Both c = cond (pair_fits τ (get_or c 0 0) (get_or c 1 0)) (pair_fits τ (get_or c 2 0) (get_or c 3 0)) false
cell_fits τ Without c = leb (get_or c 0 0) τ
cell_fits τ Chain c = cond (pair_fits τ (get_or c 0 0) (get_or c 1 0)) (kept_fits τ 0 (drop 2 c)) false

-- n words are a cell of the operator, for some p(y)
unfoldable pub size_fits : Op → ℕ → Bool
size_fits Either n = eqb n 0
size_fits Both n = eqb n 4
size_fits Without n = eqb n 1
size_fits Chain n = cond (leb 2 n) (eqb (n % 2) 0) false

-- words are a cell of the operator, and in form
unfoldable pub cell_in_form : ℕ → Op → List ℕ → Bool
cell_in_form τ op c = cond (size_fits op (length c)) (cell_fits τ op c) false
