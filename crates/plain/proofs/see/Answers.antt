use Rattle.std.proofs.Common.{arith}
use Rattle.plain.proofs.Masks.{seeing_none, seeing_more}
use Rattle.plain.proofs.see.Goals as goal

pub loop-i-init : goal.loop-i-init
loop-i-init c = seeing_none _ c.args.masks.now c.told-masks

pub loop-i-preserved : goal.loop-i-preserved
loop-i-preserved c = seeing_more _ _ _ _ (omega arith) c.loop-i.invariant
