-- What follows from equations that cannot all hold. Assumes nothing.
use Prim.Native.Nat.{ℕ}
use mathlib.Core.Path.{◌≡◌}
use native.Mathlib.Omega.{arith}

-- anything: write `impossible cc` where the equations in scope make 0 equal to 1
pub impossible {ℓ} : {A : Type ℓ} → ◌≡◌ {A = ℕ} 0 1 → A
impossible z = absurd (omega (arith, z))
