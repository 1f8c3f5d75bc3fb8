-- A tick over a state's words is the detector's: on a tree the machine gives its answer and writes the cells of the memory after it.
-- Assumes nothing.
use Prim.Native.Nat.{ℕ, suc, ◌+◌, ◌≤◌}
use mathlib.Core.Path.{◌≡◌, refl, ap}
use mathlib.Core.List.{List, ◌∷◌, ◌++◌, append_assoc, append-nil}
use native.Mathlib.Numerals.{add-one}
use lib.ListN.{length}
use lib.Seq.{take_at, drop_at}
use Rattle.rules.specs.declared.Op.{Op}
use Rattle.rules.specs.declared.Op.TheVariants.{Either, Both, Without, Chain}
use Rattle.rules.specs.Pattern.{Pattern, event, pair, within}
use Rattle.detector.specs.Memory.{Span, Memory}
use Rattle.detector.specs.Possible.{p}
use Rattle.detector.specs.Choice.{choose}
use Rattle.detector.specs.Step.{later, answer, next}
use Rattle.detector.specs.Form.{Form}
use Rattle.detector.proofs.Form.{in_form}
use Rattle.body.specs.inner.Machine.{eval}
use Rattle.cell.specs.Cell.{cell_words, becomes, cell_answer, cell_after}
use Rattle.cell.proofs.WordLaws.{kept_of_words}
use Rattle.watcher.specs.State.{cells}
use Rattle.watcher.specs.inner.Walk.{Value, tick_pair, tick_m}
use Rattle.watcher.proofs.Cells.{left, right, own, cells_pair, cells_ahead, form_left, form_right, length_own}
use Rattle.watcher.proofs.Starts.{padded, length_padded, gather_padded}

-- what a tick leaves on the stack for a tree
abbrev pub value_of : (e : Pattern) → Memory e → ℕ → ℕ → Value
value_of e m t w = (answer e m t w, padded e (next e m t w))

-- the operands step by themselves
next_left : (op : Op) (x y : Pattern) (m : Memory (pair op x y)) (t w : ℕ) → left op x y (next (pair op x y) m t w) ≡ next x (left op x y m) t w
unfolding next
next_left Either x y m t w = refl
next_left Both x y m t w = refl
next_left Without x y m t w = refl
next_left Chain x y m t w = refl

next_right : (op : Op) (x y : Pattern) (m : Memory (pair op x y)) (t w : ℕ) → right op x y (next (pair op x y) m t w) ≡ next y (right op x y m) t w
unfolding next
next_right Either x y m t w = refl
next_right Both x y m t w = refl
next_right Without x y m t w = refl
next_right Chain x y m t w = refl

-- an operator's answer, from its operands' and its own words
own_answer : (τ : ℕ) (op : Op) (x y : Pattern) (m : Memory (pair op x y)) (t w : ℕ) → Form τ (pair op x y) m
    → cell_answer op (t + 1) (answer x (left op x y m) t w) (answer y (right op x y m) t w) (own op x y m) ≡ answer (pair op x y) m t w
unfolding cell_answer answer becomes later
own_answer τ Either x y m t w f = refl
own_answer τ Both x y m t w f = rw (add-one t)
own_answer τ Without x y m t w f = refl
own_answer τ Chain x y m t w f =
    ap (λ (l : List Span). (choose (m.2 ∷ l) (answer y m.1 t w)).start) (kept_of_words (p y) m.3 f.5 f.4)

-- its own words after the tick
own_after : (τ : ℕ) (op : Op) (x y : Pattern) (m : Memory (pair op x y)) (t w : ℕ) → τ ≤ t → Form τ (pair op x y) m
    → cell_after op (t + 1) (answer x (left op x y m) t w) (answer y (right op x y m) t w) (padded y (next y (right op x y m) t w)) (own op x y m)
    ≡ own op x y (next (pair op x y) m t w)
unfolding cell_after next becomes later
own_after τ Either x y m t w k f = refl
own_after τ Both x y m t w k f = rw (add-one t)
own_after τ Without x y m t w k f = refl
own_after τ Chain x y m t w k f =
    let m' : Memory y = next y m.1 t w in
    rw (add-one t, kept_of_words (p y) m.3 f.5 f.4, length_padded y m', gather_padded (suc t) y m' (in_form t w τ k y m.1 f.1) (m.2 ∷ m.3))

-- an operator's step, from its operands' values and the words ahead
pub ticked_pair : (τ : ℕ) (op : Op) (x y : Pattern) (m : Memory (pair op x y)) (t w : ℕ) → τ ≤ t → Form τ (pair op x y) m
    → (written ahead : List ℕ)
    → tick_pair t op (value_of x (left op x y m) t w) (value_of y (right op x y m) t w) (written, own op x y m ++ ahead)
    ≡ (value_of (pair op x y) m t w, (written ++ own op x y (next (pair op x y) m t w), ahead))
unfolding tick_pair padded
ticked_pair τ op x y m t w k f written ahead =
    let c : List ℕ = own op x y m in
    let d : length (padded y (next y (right op x y m) t w)) ≡ p y = length_padded y (next y (right op x y m) t w) in
    let l : length c ≡ cell_words op (p y) = length_own op x y m in
    rw (
      d,
      take_at c ahead (cell_words op (p y)) l,
      drop_at c ahead (cell_words op (p y)) l,
      own_after τ op x y m t w k f,
      own_answer τ op x y m t w f,
      next_left op x y m t w,
      next_right op x y m t w,
    )

-- the cells written for the operands and then for the operator
pub cells_written : (op : Op) (x y : Pattern) (m : Memory (pair op x y)) (t w : ℕ) (written : List ℕ)
    → ((written ++ cells x (next x (left op x y m) t w)) ++ cells y (next y (right op x y m) t w)) ++ own op x y (next (pair op x y) m t w)
    ≡ written ++ cells (pair op x y) (next (pair op x y) m t w)
cells_written op x y m t w written =
    rw (cells_pair op x y (next (pair op x y) m t w), next_left op x y m t w, next_right op x y m t w) (simp append_assoc)

-- on a tree
pub tick_tree : (τ : ℕ) (e : Pattern) (m : Memory e) (t w : ℕ) → τ ≤ t → Form τ e m → (written ahead : List ℕ)
    → eval (tick_m t w) e (written, cells e m ++ ahead) ≡ (value_of e m t w, (written ++ cells e (next e m t w), ahead))
unfolding eval cells answer next padded
tick_tree τ (event n) m t w k f written ahead = rw (append-nil written)
tick_tree τ (pair op x y) m t w k f written ahead =
    let mx : Memory x = left op x y m in
    let my : Memory y = right op x y m in
    let seen : List ℕ = written ++ cells x (next x mx t w) in
    rw (
      cells_ahead op x y m ahead,
      tick_tree τ x mx t w k (form_left τ op x y m f) written (cells y my ++ (own op x y m ++ ahead)),
      tick_tree τ y my t w k (form_right τ op x y m f) seen (own op x y m ++ ahead),
      ← cells_written op x y m t w written,
    )
    (ticked_pair τ op x y m t w k f (seen ++ cells y (next y my t w)) ahead)
tick_tree τ (within x n) m t w k f written ahead = rw (tick_tree τ x m t w k f written ahead)
