use mathlib.Core.Path.{◌≡◌}
use Prim.Native.Nat.{◌-◌, ◌/◌}
use native.Mathlib.Omega.{arith}
use lib.ListN.{length, length-set}
use Rattle.cell.proofs.StartLaws.{push_kept, push_latest}
use Rattle.cell.proofs.starts.put_chain.Goals as goal

pub loop-i-preserved : goal.loop-i-preserved
loop-i-preserved c = (
  omega arith,
  simp length-set c.loop-i.invariant.1,
  push_kept c.args.cell.now c.args.starts.now c.args.at c.requires.0 c.requires.1 c.loop-i.starts c.loop-i.i (omega arith)
      c.loop-i.invariant.2,
)

pub returns : goal.returns
returns c =
    let h = c.args in
    let i = c.loop-i.i in
    let kept : length h.cell.now / 2 - 1 ≡ i = omega arith in
    rw kept (push_latest h.cell.now h.starts.now h.at c.requires.0 c.requires.1 c.loop-i.starts i (omega arith) c.loop-i.invariant.2)
