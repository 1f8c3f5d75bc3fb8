-- What a walk finds at each entry: its operands on the stack, its cell's words ahead, and a stack that stays low, with few possible starts.
-- Proved once, for the entries of a tree. Assumes nothing.
use Prim.Native.Nat.{ℕ, suc, ◌+◌, ◌-◌, ◌≤◌, ◌<◌, ◌^◌, ◌*◌}
use mathlib.Core.Path.{◌≡◌, subst}
use mathlib.Core.List.{List, [], ◌∷◌, ◌++◌, append_assoc, append-nil}
use native.Mathlib.Nat.{sub-zero}
use native.Mathlib.Omega.{arith}
use lib.ListN.{length, drop, length-append}
use Rattle.detector.proofs.Form.{p_size}
use Rattle.rules.specs.declared.Op.{Op}
use Rattle.rules.specs.Limits.{letters, argument_bytes}
use Rattle.rules.specs.Lists.{All}
use Rattle.rules.specs.Pattern.{Pattern, event, pair, within, size, Proper}
use Rattle.detector.specs.Memory.{Memory}
use Rattle.detector.specs.Possible.{p}
use Rattle.detector.specs.Step.{answer, next}
use Rattle.detector.specs.Form.{Form}
use Rattle.detector.proofs.Form.{answer_le}
use Rattle.body.specs.declared.Entry.{Entry}
use Rattle.body.specs.declared.Entry.TheVariants.{Letter, Pair, Within, Wrong}
use Rattle.body.specs.Entry.{entries_by}
use Rattle.body.specs.Postfix.{postfix}
use Rattle.body.specs.inner.Machine.{step, run}
use Rattle.body.proofs.Scan.{left_suc}
use Rattle.body.proofs.Bodies.{length_by}
use Rattle.cell.specs.Cell.{cell_words}
use Rattle.watcher.specs.State.{header, count_of, cells, InForm}
use Rattle.watcher.specs.inner.Walk.{Value, Cells, entry_in, tick_m, ticked}
use Rattle.watcher.specs.inner.Step.{starts_on}
use Rattle.watcher.proofs.Cells.{left, right, own, cells_ahead, form_left, form_right, length_own}
use Rattle.watcher.proofs.Starts.{padded, length_padded}
use Rattle.watcher.proofs.States.{entries_read, cells_from}
use Rattle.watcher.proofs.Ticks.{value_of, ticked_pair, cells_written}

-- what an entry finds: a letter's type and a restriction's number in their bounds, its operands, and its cell's words ahead
abbrev pub Ready : Entry → List Value → List ℕ → Type 0
Ready (Letter n) st ahead = n < letters
Ready (Pair op) [] ahead = ⊥
Ready (Pair op) (y ∷ []) ahead = ⊥
Ready (Pair op) (y ∷ x ∷ st) ahead = cell_words op (length y.1) ≤ length ahead
Ready (Within n) [] ahead = ⊥
Ready (Within n) (x ∷ st) ahead = n < 256 ^ argument_bytes
Ready Wrong st ahead = ⊥

-- an answer at t
abbrev pub Small : ℕ → Value → Type 0
Small t v = v.0 ≤ suc t

-- the stack after i entries, with some to come
pub record Stands (t i coming : ℕ) (st : List Value) : Type 0 where
  pub small : All (Small t) st
  pub low : length st ≤ coming + 1
  pub few : starts_on st + length st ≤ i

-- every entry finds what it wants, from entry i on
abbrev pub Runs : ℕ → ℕ → ℕ → List Entry → List Value → Cells → Type 0
Runs t w i [] st g = Stands t i 0 st
Runs t w i (s ∷ ss) st g =
    Stands t i (length (s ∷ ss)) st × Ready s st g.1 × Runs t w (i + 1) ss (step (tick_m t w) s st g).0 (step (tick_m t w) s st g).1

runs_stands : (t w i : ℕ) (ss : List Entry) (st : List Value) (g : Cells) → Runs t w i ss st g → Stands t i (length ss) st
runs_stands t w i [] st g r = r
runs_stands t w i (s ∷ ss) st g r = r.0

module _ (t w τ : ℕ) (k : τ ≤ t) where
  -- an operator's turn, after its operands
  runs_pair : (op : Op) (x y : Pattern) (m : Memory (pair op x y)) → Form τ (pair op x y) m
      → (rest : List Entry) (st : List Value) (i : ℕ) (written ahead : List ℕ)
      → All (Small t) st → starts_on (value_of y (right op x y m) t w ∷ value_of x (left op x y m) t w ∷ st) + (length st + 2) ≤ i
      → Runs t w (i + 1) rest (value_of (pair op x y) m t w ∷ st) (written ++ own op x y (next (pair op x y) m t w), ahead)
      → Runs t w i (Pair op ∷ rest) (value_of y (right op x y m) t w ∷ value_of x (left op x y m) t w ∷ st) (written, own op x y m ++ ahead)
  unfolding step
  runs_pair op x y m f rest st i written ahead a b r =
      let mx : Memory x = left op x y m in
      let my : Memory y = right op x y m in
      let g = runs_stands t w (i + 1) rest (value_of (pair op x y) m t w ∷ st) (written ++ own op x y (next (pair op x y) m t w), ahead) r in
      let d : length (padded y (next y my t w)) ≡ p y = length_padded y (next y my t w) in
      let ax = answer_le t w τ k x mx (form_left τ op x y m f) in
      let ay = answer_le t w τ k y my (form_right τ op x y m f) in (
        record { small = (ay, (ax, a)); low = omega (arith, g.low); few = omega arith },
        rw d (omega (arith, length_own op x y m, length-append (own op x y m) ahead)),
        rw (ticked_pair τ op x y m t w k f written ahead) r,
      )

  -- the stack after a tree
  stands_on : (e : Pattern) (m : Memory e) (st : List Value) (i : ℕ) → starts_on st + length st ≤ i
      → starts_on (value_of e m t w ∷ st) + length (value_of e m t w ∷ st) ≤ i + size e
  unfolding starts_on
  stands_on e m st i b = omega (arith, p_size e, length_padded e (next e m t w))

  -- the entries of a tree find what they want, if those after it do
  pub runs_postfix : (e : Pattern) → Proper (256 ^ argument_bytes) e → (m : Memory e) → Form τ e m
      → (rest : List Entry) (st : List Value) (i : ℕ) (written ahead : List ℕ)
      → All (Small t) st → starts_on st + length st ≤ i
      → Runs t w (i + size e) rest (value_of e m t w ∷ st) (written ++ cells e (next e m t w), ahead)
      → Runs t w i (postfix e ++ rest) st (written, cells e m ++ ahead)
  unfolding postfix size cells answer next padded step
  runs_postfix (event n) h m f rest st i written ahead a b r =
      let g = runs_stands t w (i + 1) rest (value_of (event n) m t w ∷ st) (written ++ [], ahead) r in
      (record { small = a; low = omega (arith, g.low); few = b }, h, rw (append-nil written) at r)
  runs_postfix (pair op x y) h m f rest st i written ahead a b r =
      let mx : Memory x = left op x y m in
      let my : Memory y = right op x y m in
      let fx : Form τ x mx = form_left τ op x y m f in
      let fy : Form τ y my = form_right τ op x y m f in
      let vx : Value = value_of x mx t w in
      let vy : Value = value_of y my t w in
      let seen : List ℕ = written ++ cells x (next x mx t w) in
      let bx = stands_on x mx st i b in
      let ax : All (Small t) (vx ∷ st) = (answer_le t w τ k x mx fx, a) in
      let by = stands_on y my (vx ∷ st) (i + size x) bx in
      let j : i + (size x + size y + 1) ≡ i + size x + size y + 1 = omega arith in
      let end = runs_pair op x y m f rest st (i + size x + size y) (seen ++ cells y (next y my t w)) ahead a (omega (arith, by))
      (rw (cells_written op x y m t w written, ← j) r) in
      let more = runs_postfix y h.1 my fy (Pair op ∷ rest) (vx ∷ st) (i + size x) seen (own op x y m ++ ahead) ax bx end in
      rw (cells_ahead op x y m ahead, append_assoc (postfix x) (postfix y ++ (Pair op ∷ [])) rest, append_assoc (postfix y) (Pair op ∷ []) rest)
      (runs_postfix x h.0 mx fx (postfix y ++ (Pair op ∷ rest)) st i written (cells y my ++ (own op x y m ++ ahead)) a b more)
  runs_postfix (within x n) h m f rest st i written ahead a b r =
      let j : i + (size x + 1) ≡ i + size x + 1 = omega arith in
      let g = runs_stands t w (i + (size x + 1)) rest (value_of (within x n) m t w ∷ st) (written ++ cells x (next x m t w), ahead) r in
      let bx = stands_on x m st i b in
      let ax : All (Small t) (value_of x m t w ∷ st) = (answer_le t w τ k x m f, a) in
      rw (append_assoc (postfix x) (Within n ∷ []) rest)
      (runs_postfix x h.0 m f (Within n ∷ rest) st i written ahead a b
      (record { small = ax; low = omega (arith, g.low); few = bx }, h.1, rw j at r))

-- a state in form: where the walk begins
pub runs_start : {s : List ℕ} (f : InForm s) (t w : ℕ) → f.next ≤ t
    → Runs t w 0 (entries_by (entry_in s) 0 (count_of s - 0)) [] ([], drop (header + count_of s) s)
unfolding starts_on
runs_start {s} f t w k =
    let e : Pattern = f.pattern in
    let m : Memory e = f.memory in
    let v : Value = value_of e m t w in
    let end : Stands t (0 + size e) 0 (v ∷ []) = record {
      small = (answer_le t w f.next k e m f.form, tt);
      low = omega arith;
      few = omega (arith, p_size e, length_padded e (next e m t w));
    } in
    rw (sub-zero (count_of s), entries_read f, cells_from f, ← append-nil (postfix e))
    (runs_postfix t w f.next k e f.bodied.proper m f.form [] [] 0 [] f.beyond tt (omega arith) end)

-- and what it comes to
pub walk_start : (t w : ℕ) (s : List ℕ)
    → run (tick_m t w) (entries_by (entry_in s) 0 (count_of s - 0)) [] ([], drop (header + count_of s) s) ≡ ticked t w s
unfolding ticked
walk_start t w s = rw (sub-zero (count_of s))

entries_turn : (f : ℕ → Entry) (n i : ℕ) → i < n → entries_by f i (n - i) ≡ f i ∷ entries_by f (i + 1) (n - (i + 1))
unfolding entries_by
entries_turn f n i h = rw (left_suc n i h)

-- a turn of the walk, by the index
module _ (t w n i : ℕ) (f : ℕ → Entry) (st : List Value) (g : Cells) (r : Runs t w i (entries_by f i (n - i)) st g) where
  pub turn_stands : Stands t i (n - i) st
  turn_stands = rw (length_by f i (n - i)) at (runs_stands t w i (entries_by f i (n - i)) st g r)

  pub turn_ready : i < n → Ready (f i) st g.1
  turn_ready h = (subst (λ (ss : List Entry). Runs t w i ss st g) (entries_turn f n i h) r).1

  pub turn_runs : i < n → Runs t w (i + 1) (entries_by f (i + 1) (n - (i + 1))) (step (tick_m t w) (f i) st g).0 (step (tick_m t w) (f i) st g).1
  turn_runs h = (subst (λ (ss : List Entry). Runs t w i ss st g) (entries_turn f n i h) r).2

-- an operator finds its operands
pub ready_pair : (op : Op) (st : List Value) (ahead : List ℕ) → Ready (Pair op) st ahead → 2 ≤ length st
ready_pair op [] ahead r = absurd r
ready_pair op (y ∷ []) ahead r = absurd r
ready_pair op (y ∷ x ∷ st) ahead r = omega arith

pub ready_within : (n : ℕ) (st : List Value) (ahead : List ℕ) → Ready (Within n) st ahead → 1 ≤ length st
ready_within n [] ahead r = absurd r
ready_within n (x ∷ st) ahead r = omega arith

-- the stack is never deeper than half of the n entries and one, and never holds n possible starts
pub stands_low : (t n i : ℕ) (st : List Value) → Stands t i (n - i) st → i ≤ n → 2 * length st ≤ n + 1
stands_low t n i st d h = omega (arith, d.low, d.few)

pub stands_few : (t n i : ℕ) (st : List Value) → Stands t i (n - i) st → i ≤ n → starts_on st ≤ n - 1
unfolding starts_on
stands_few t n i [] d h = omega arith
stands_few t n i (v ∷ st) d h = omega (arith, d.few)
