-- One turn of the check, over entries from any source: for a loop that goes by the index. Assumes nothing.
use Rattle.std.specs.Prelude.{None, Option, Some}
use Prim.Native.Nat.{ℕ, suc, ◌+◌, ◌-◌, ◌≤◌, ◌<◌}
use mathlib.Core.Path.{◌≡◌, sym, subst}
use mathlib.Core.Bool.{Bool, true, false, cond}
use native.Mathlib.Omega.{arith}
use lib.Dec.{eqb, leb}
use Rattle.body.specs.declared.Entry.{Entry}
use Rattle.body.specs.declared.Entry.TheVariants.{Letter, Pair, Within, Wrong}
use Rattle.body.specs.Entry.{entries_by}
use Rattle.body.specs.Check.{on_depth, depth_of, scan}

pub left_suc : (n i : ℕ) → i < n → n - i ≡ suc (n - (i + 1))
left_suc n i h = omega arith

pub left_zero : (n i : ℕ) → n ≤ i → n - i ≡ 0
left_zero n i h = omega arith

-- a turn, by whatever the entry does
pub scan_turn : (f : ℕ → Entry) (n i d : ℕ) → i < n
    → scan (entries_by f i (n - i)) i d ≡ on_depth (depth_of (f i) d) (Some i) (λ e. scan (entries_by f (i + 1) (n - (i + 1))) (i + 1) e)
unfolding scan entries_by
scan_turn f n i d h = rw (left_suc n i h)

-- no entry is left
pub scan_end : (f : ℕ → Entry) (n i d : ℕ) → i ≡ n → scan (entries_by f i (n - i)) i d ≡ cond (eqb d 1) None (Some n)
unfolding scan entries_by
scan_end f n i d h = subst (λ k. scan (entries_by f k (n - k)) k d ≡ cond (eqb d 1) None (Some n)) (sym h) (rw (left_zero n n (omega arith)))

abbrev AtMost : ℕ → Option ℕ → Type 0
AtMost m None = Unit {0}
AtMost m (Some e) = e ≤ m

cond_most : (t : Bool) (m e : ℕ) → e ≤ m → AtMost m (cond t (Some e) None)
cond_most true m e h = h
cond_most false m e h = tt

depth_most : (s : Entry) (d : ℕ) → AtMost (d + 1) (depth_of s d)
unfolding depth_of
depth_most (Letter n) d = omega arith
depth_most (Pair op) d = cond_most (leb 2 d) (d + 1) (d - 1) (omega arith)
depth_most (Within n) d = cond_most (leb 1 d) (d + 1) d (omega arith)
depth_most Wrong d = tt

-- an entry leaves at most one tree more
pub step_le : (s : Entry) (d e : ℕ) → depth_of s d ≡ Some e → e ≤ d + 1
step_le s d e p = subst (AtMost (d + 1)) p (depth_most s d)
