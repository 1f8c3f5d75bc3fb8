-- Windows added are counted and summed. Assumes nothing.
use Rattle.std.specs.Prelude.{Ok, Err}
use mathlib.Core.Path.{◌≡◌, ap}
use mathlib.Core.Bool.{Bool, true, false, cond}
use mathlib.Core.List.{◌∷◌}
use Prim.Native.Nat.{ℕ, ◌+◌}
use native.Mathlib.Omega.{arith}
use lib.ListN.{length}
use Rattle.rules.proofs.Impossible.{impossible}
use Rattle.refusal.specs.declared.Refusal.TheVariants.{Range, Full}
use Rattle.tally.specs.declared.Tally.{Tally}
use Rattle.tally.specs.Tallied.{outside, more, over, added_to}
use Rattle.tally.specs.Claim.{span, none, one, Sums}

-- what is added is the window counted
picked : (a b : Bool) (t u : Tally) → cond a (Err (Range 0)) (cond b (Err Full) (Ok t)) ≡ Ok u → t ≡ u
picked true b t u p = impossible cc
picked false true t u p = impossible cc
picked false false t u p = cc

added_more : (t u : Tally) (start end : ℕ) → added_to t start end ≡ Ok u → more t start end ≡ u
unfolding added_to
added_more t u start end p = picked (outside start end) (over (more t start end)) (more t start end) u p

pub sums : Sums
unfolding span
sums t u l none = (omega arith, omega arith)
sums t v l (one {u = u} {l = k} w p a) = counted (added_more t u w.0 w.1 p) (sums u v k a)
  where
    counted : more t w.0 w.1 ≡ u → (v.windows ≡ u.windows + length k) × (v.ticks ≡ u.ticks + span k)
        → (v.windows ≡ t.windows + length (w ∷ k)) × (v.ticks ≡ t.ticks + span (w ∷ k))
    counted e s = (omega (arith, ap (λ (z : Tally). z.windows) e, s.0), omega (arith, ap (λ (z : Tally). z.ticks) e, s.1))
