-- `watch::take_read` meets its contract. Assumes nothing.
use Prim.Native.Nat.{◌-◌, min}
use mathlib.Core.Path.{◌≡◌, refl}
use native.Mathlib.Omega.{arith}
use lib.ListN.{length}
use Rattle.watch.specs.Watch.ReadTaken.{some, failed}
use Rattle.watch.proofs.take_read.Goals as goal

pub returns-in-Err : goal.returns-in-Err
returns-in-Err c = failed c.in-Err.is refl refl refl

pub returns-in-Ok : goal.returns-in-Ok
returns-in-Ok c =
    let n : c.min.result - 0 ≡ min c.in-Ok.n (length c.args.buffer.now) = omega (arith, c.min.ensures) in
    some c.in-Ok.is (rw n at c.take_chunk.ensures)
