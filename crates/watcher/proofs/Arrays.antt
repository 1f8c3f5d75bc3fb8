-- The part of a state that a cell is. Assumes nothing.
use mathlib.Core.Path.{◌≡◌, ap}
use mathlib.Core.List.{List}
use Prim.Native.Nat.{ℕ, ◌+◌, ◌-◌, ◌≤◌}
use native.Mathlib.Omega.{arith}
use lib.ListN.{length, take, drop, length-take, length-drop}
use borrow.Rule.Slice.PartMut.{mid_of}

pub part_is : (s : List ℕ) (at r n : ℕ) → r ≡ n → take (at + r - at) (drop at s) ≡ mid_of at n s
part_is s at r n e = let z : at + r - at ≡ n = omega arith in ap (λ (k : ℕ). take k (drop at s)) z

pub part_long : (s : List ℕ) (at r : ℕ) → at + r ≤ length s → length (take (at + r - at) (drop at s)) ≡ r
part_long s at r h = omega (arith, length-take (at + r - at) (drop at s), length-drop at s)
