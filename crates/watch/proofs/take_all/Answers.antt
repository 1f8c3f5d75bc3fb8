use mathlib.Core.Path.{refl}
use Rattle.watch.proofs.Givens.{input_none, input_read}
use Rattle.watch.proofs.take_all.Goals as goal

pub reads-init : goal.reads-init
reads-init c = (input_none _ _ _ c.start.ensures refl, refl)

pub returns-then-is_over : goal.returns-then-is_over
returns-then-is_over c = input_read c.reads.invariant.0 c.take_read-p.ensures

pub reads-preserved : goal.reads-preserved
reads-preserved c = (input_read c.reads.invariant.0 c.take_read-p.ensures, c.is_over.ensures c.if-is_over.false)
