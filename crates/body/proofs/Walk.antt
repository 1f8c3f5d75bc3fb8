-- A walk over the entries of a sound body, from any source, a turn at a time. Assumes nothing.
use Rattle.std.specs.Prelude.{None, Ok, Option, Some}
use Prim.Native.Nat.{ℕ, ◌+◌, ◌-◌, ◌*◌, ◌/◌, ◌≤◌, ◌<◌}
use mathlib.Core.Path.{◌≡◌, refl, sym, ◌∙◌}
use mathlib.Core.Bool.{Bool, true, false, cond}
use mathlib.Core.List.{List}
use native.Mathlib.Nat.{sub-zero}
use lib.Dec.{leb}
use lib.ListN.{length}
use borrow.Author.Tests.{leb-true}
use Rattle.rules.proofs.Impossible.{impossible}
use Rattle.rules.specs.declared.Op.{Op}
use Rattle.rules.specs.Limits.{most_entries}
use Rattle.body.specs.declared.Entry.{Entry}
use Rattle.body.specs.declared.Entry.TheVariants.{Letter, Pair, Within, Wrong}
use Rattle.body.specs.Entry.{entry_at, entries_by, entries}
use Rattle.body.specs.Check.{on_depth, depth_of, scan, check_of}
use Rattle.body.specs.inner.Machine.{Machine, step, run}
use Rattle.body.proofs.Sizes.{sized_whole, sound_parts}
use Rattle.body.proofs.Scan.{left_suc, left_zero, scan_turn}

-- one turn of a machine, and its end
pub run_turn : (M : Machine) (f : ℕ → Entry) (n i : ℕ) (st : List M.X) (g : M.G) → i < n
    → run M (entries_by f i (n - i)) st g ≡ run M (entries_by f (i + 1) (n - (i + 1))) (step M (f i) st g).0 (step M (f i) st g).1
unfolding run entries_by
run_turn M f n i st g h = rw (left_suc n i h)

pub run_end : (M : Machine) (f : ℕ → Entry) (n i : ℕ) (st : List M.X) (g : M.G) → n ≤ i → run M (entries_by f i (n - i)) st g ≡ (st, g)
unfolding run entries_by
run_end M f n i st g h = rw (left_zero n i h)

-- the entries from i on break no rule, with d trees there
abbrev pub Rest : (ℕ → Entry) → ℕ → ℕ → ℕ → Type 0
Rest f n i d = scan (entries_by f i (n - i)) i d ≡ None

pub cond_rest : (t : Bool) (e i : ℕ) (f : ℕ → Option ℕ) → on_depth (cond t (Some e) None) (Some i) f ≡ None → (t ≡ true) × (f e ≡ None)
cond_rest true e i f p = (refl, p)
cond_rest false e i f p = impossible cc

module _ (f : ℕ → Entry) (n i d : ℕ) (h : i < n) (r : Rest f n i d) where
  turned : (s : Entry) → f i ≡ s → on_depth (depth_of s d) (Some i) (λ e. scan (entries_by f (i + 1) (n - (i + 1))) (i + 1) e) ≡ None
  turned s e = rw e at (sym (scan_turn f n i d h) ∙ r)

  pub rest_letter : (a : ℕ) → f i ≡ Letter a → Rest f n (i + 1) (d + 1)
  unfolding depth_of
  rest_letter a e = turned (Letter a) e

  pub rest_pair : (op : Op) → f i ≡ Pair op → (2 ≤ d) × Rest f n (i + 1) (d - 1)
  unfolding depth_of
  rest_pair op e =
      let q : (leb 2 d ≡ true) × Rest f n (i + 1) (d - 1) = cond_rest (leb 2 d) (d - 1) i _ (turned (Pair op) e) in
      (leb-true 2 d q.0, q.1)

  pub rest_within : (a : ℕ) → f i ≡ Within a → (1 ≤ d) × Rest f n (i + 1) d
  unfolding depth_of
  rest_within a e =
      let q : (leb 1 d ≡ true) × Rest f n (i + 1) d = cond_rest (leb 1 d) d i _ (turned (Within a) e) in
      (leb-true 1 d q.0, q.1)

  pub rest_wrong : f i ≡ Wrong → ⊥
  unfolding depth_of
  rest_wrong e = let p = turned Wrong e in impossible cc

-- where the walk over a sound body begins
pub record Start (width : ℕ) (b : List ℕ) : Type 0 where
  pub full : length b ≡ (width + 1) * (length b / (width + 1))
  pub least : 1 ≤ length b / (width + 1)
  pub most : length b / (width + 1) ≤ most_entries
  pub rest : Rest (entry_at width b) (length b / (width + 1)) 0 0

pub sound_start : (width : ℕ) (b : List ℕ) → check_of width b ≡ Ok tt → Start width b
unfolding entries
sound_start width b p =
    let q = sound_parts width b p in
    let w = sized_whole width (length b) q.0 in
    record { full = w.full; least = w.least; most = w.most; rest = simp sub-zero q.1 }
