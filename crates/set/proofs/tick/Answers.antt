-- `set::tick` meets its contract: the judge's refusal is that of a state. Assumes nothing.
use Rattle.std.proofs.lemmas.Result.{err_from_is_err_and}
use mathlib.Core.Path.{refl}
use native.Mathlib.Omega.{arith}
use Rattle.set.specs.Set.{fault}
use Rattle.set.proofs.tick.Goals as goal

pub returns-in_err-ends : goal.returns-in_err-ends
returns-in_err-ends c =
    let p = err_from_is_err_and c.from_residual.result c.from_residual.ensures.1 in
    rw (p.1, p.2) (fault (omega arith, omega arith) (omega arith) (omega arith) c.in_err-ends.ensures, refl, refl)
