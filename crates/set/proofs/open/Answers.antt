-- `set::open` meets its contract: a file's patterns need more room than there is. Assumes nothing.
use mathlib.Core.Path.{refl, ap}
use native.Mathlib.Omega.{arith}
use Rattle.refusal.specs.declared.Refusal.TheVariants.{Room}
use Rattle.set.specs.File.{short}
use Rattle.set.proofs.open.Goals as goal

pub returns-then-states-needed : goal.returns-then-states-needed
returns-then-states-needed c =
    let r = c.room_summed-needed.ensures in
    (short r.patterns r.file (omega (arith, r.room)) (ap Room r.room), refl)
