use native.Mathlib.Omega.{arith}
use lib.ListN.{length-drop}
use Rattle.watching.proofs.Chunkings.{chunk_inside}
use Rattle.watch.proofs.Givens.{along_none, along_more}
use Rattle.watch.proofs.take_chunk.Goals as goal

pub loop-at-init : goal.loop-at-init
loop-at-init c = along_none _ _ _ _

pub overflow_add-at : goal.overflow_add-at
overflow_add-at c =
    let x = c.take_some-p.ensures.taken.1 in
    omega (arith, chunk_inside x, length-drop c.loop-at.at c.args.chunk.now, c.loop-at.invariant.inside)

pub loop-at-smaller : goal.loop-at-smaller
loop-at-smaller c =
    let x = c.take_some-p.ensures.taken.1 in
    let d = length-drop c.loop-at.at c.args.chunk.now in
    let some = c.take_some-p.ensures.some (omega (arith, d, c.loop-at-test.true)) in
    omega (arith, chunk_inside x, c.loop-at.invariant.inside)

pub loop-at-preserved : goal.loop-at-preserved
loop-at-preserved c = along_more c.loop-at.invariant c.take_some-p.ensures.taken.0 c.take_some-p.ensures.taken.1
