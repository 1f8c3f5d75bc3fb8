-- The possible starts as the machine has them, with a 0 for each kept pair that is empty: as many as p, and no 0 chooses a pair.
-- Assumes nothing.
use Prim.Native.Nat.{ℕ, zero, suc, ◌≤◌}
use mathlib.Core.Path.{◌≡◌, refl, sym, ap, ap₂, ◌∙◌}
use mathlib.Core.List.{List, [], ◌∷◌, ◌++◌}
use native.Mathlib.Omega.{arith}
use lib.ListN.{length}
use Rattle.rules.specs.declared.Op.TheVariants.{Either, Both, Without, Chain}
use Rattle.rules.specs.Pattern.{Pattern, event, pair, within}
use Rattle.detector.specs.Memory.{Span, Memory}
use Rattle.detector.specs.Possible.{starts_of, starts, p}
use Rattle.detector.specs.Choice.{gather}
use Rattle.detector.specs.Form.{Form}
use Rattle.detector.proofs.Choice.{choose_before, gather_cases}
use Rattle.cell.specs.Words.{kept_words, starts_in}
use Rattle.cell.specs.Cell.{cell_words, possible, cell_starts, starts_after}
use Rattle.cell.proofs.WordLaws.{length_starts_after}
use Rattle.watcher.proofs.Cells.{left, right, own, length_own, possible_p}

-- the possible starts, as many as p
unfoldable pub padded : (e : Pattern) → Memory e → List ℕ
padded (event n) m = []
padded (pair op x y) m = starts_after op (padded x (left op x y m)) (padded y (right op x y m)) (own op x y m)
padded (within x n) m = padded x m

pub length_padded : (e : Pattern) (m : Memory e) → length (padded e m) ≡ p e
unfolding padded p
length_padded (event n) m = refl
length_padded (pair op x y) m =
    let xs : List ℕ = padded x (left op x y m) in
    let ys : List ℕ = padded y (right op x y m) in
    let e : length xs ≡ p x = length_padded x (left op x y m) in
    let d : length ys ≡ p y = length_padded y (right op x y m) in
    length_starts_after op xs ys (own op x y m) (length_own op x y m ∙ ap (cell_words op) (sym d)) ∙ ap₂ (possible op) e d ∙ possible_p op x y
length_padded (within x n) m = length_padded x m

-- the starts that are not 0
unfoldable nonzero : List ℕ → List ℕ
nonzero [] = []
nonzero (zero ∷ l) = nonzero l
nonzero (suc a ∷ l) = suc a ∷ nonzero l

nonzero_append : (a b : List ℕ) → nonzero (a ++ b) ≡ nonzero a ++ nonzero b
unfolding nonzero
nonzero_append [] b = refl
nonzero_append (zero ∷ a) b = nonzero_append a b
nonzero_append (suc n ∷ a) b = ap (λ (l : List ℕ). suc n ∷ l) (nonzero_append a b)

nonzero_cons : (n : ℕ) (a b : List ℕ) → nonzero a ≡ nonzero b → nonzero (n ∷ a) ≡ nonzero (n ∷ b)
unfolding nonzero
nonzero_cons zero a b q = q
nonzero_cons (suc n) a b q = ap (λ (l : List ℕ). suc n ∷ l) q

-- nothing ends before 0
gather_nonzero : (old : List Span) (ss : List ℕ) → gather old ss ≡ gather old (nonzero ss)
unfolding gather nonzero
gather_nonzero old [] = refl
gather_nonzero old (zero ∷ ss) =
    gather_cases (λ l. l ≡ gather old (nonzero ss)) old 0 ss
    (λ k. absurd (omega (arith, choose_before old 0 k))) (λ z. gather_nonzero old ss)
gather_nonzero old (suc a ∷ ss) = rw (gather_nonzero old ss)

nonzero_kept : (n : ℕ) (l : List Span) → length l ≤ n → nonzero (starts_in (kept_words n l)) ≡ nonzero (starts_of l)
unfolding starts_in kept_words nonzero
nonzero_kept zero [] k = refl
nonzero_kept zero (q ∷ l) k = absurd (omega arith)
nonzero_kept (suc n) [] k = nonzero_kept n [] (omega arith)
nonzero_kept (suc n) (q ∷ l) k = nonzero_cons q.start (starts_in (kept_words n l)) (starts_of l) (nonzero_kept n l (omega arith))

nonzero_both : (a b c d : List ℕ) → nonzero a ≡ nonzero c → nonzero b ≡ nonzero d → nonzero (a ++ b) ≡ nonzero (c ++ d)
nonzero_both a b c d q r = nonzero_append a b ∙ ap₂ (λ (x y : List ℕ). x ++ y) q r ∙ sym (nonzero_append c d)

-- but for zeros, they are the detector's
nonzero_padded : (τ : ℕ) (e : Pattern) (m : Memory e) → Form τ e m → nonzero (padded e m) ≡ nonzero (starts e m)
unfolding padded starts_after cell_starts
nonzero_padded τ (event n) m f = refl
nonzero_padded τ (pair Either x y) m f =
    nonzero_both (padded x m.0) (padded y m.1) (starts x m.0) (starts y m.1)
    (nonzero_padded τ x m.0 f.0) (nonzero_padded τ y m.1 f.1)
nonzero_padded τ (pair Both x y) m f =
    let sides : List ℕ = m.2.start ∷ m.3.start ∷ [] in
    nonzero_both (padded x m.0) (padded y m.1 ++ sides) (starts x m.0) (starts y m.1 ++ sides)
    (nonzero_padded τ x m.0 f.0)
    (nonzero_both (padded y m.1) sides (starts y m.1) sides (nonzero_padded τ y m.1 f.1) refl)
nonzero_padded τ (pair Without x y) m f = nonzero_padded τ x m.0 f.0
nonzero_padded τ (pair Chain x y) m f =
    let kept : List ℕ = starts_in (kept_words (p y) m.3) in
    let last : List ℕ = m.2.start ∷ [] in
    nonzero_both (padded x m.0) (kept ++ last) (starts x m.0) (starts_of m.3 ++ last)
    (nonzero_padded τ x m.0 f.0)
    (nonzero_both kept last (starts_of m.3) last (nonzero_kept (p y) m.3 f.5) refl)
nonzero_padded τ (within x n) m f = nonzero_padded τ x m f

-- so they gather the same pairs
pub gather_padded : (τ : ℕ) (e : Pattern) (m : Memory e) → Form τ e m → (old : List Span) → gather old (padded e m) ≡ gather old (starts e m)
gather_padded τ e m f old =
    gather_nonzero old (padded e m) ∙ ap (gather old) (nonzero_padded τ e m f) ∙ sym (gather_nonzero old (starts e m))
