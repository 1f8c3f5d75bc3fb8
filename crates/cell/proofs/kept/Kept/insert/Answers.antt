use mathlib.Core.Path.{refl}
use native.Mathlib.Omega.{arith}
use Rattle.cell.specs.Pairs.{span_of}
use Rattle.cell.proofs.Insertion.{carry_start, carry_later, carry_past, carry_met, carried_rising}
use Rattle.cell.proofs.kept.Kept.insert.Goals as goal
use Rattle.cell.proofs.kept.Kept.insert.Goals.{then-carried-here-2, else-carried-here-2}

pub loop-i-init : goal.loop-i-init
loop-i-init c = (refl, carry_start c.self.inside.words c.self.inside.count (span_of c.args.pair) c.requires.some c.self.invariant.1)

pub invariant_of-self : goal.invariant_of-self
invariant_of-self c =
    let i = c.loop-i.invariant in
    let met = carry_met i.1 _ _ _ c.put_pair.ensures c.better_of.ensures c.pair_at-here.ensures c.if-carried-here.true (omega arith) (omega arith) in
    (omega (arith, c.self.invariant.0, i.0), carried_rising i.1 _ met)

pub returns-then-carried-here : goal.returns-then-carried-here
returns-then-carried-here c =
    let i = c.loop-i.invariant in
    let met = carry_met i.1 _ _ _ c.put_pair.ensures c.better_of.ensures c.pair_at-here.ensures c.if-carried-here.true (omega arith) (omega arith) in
    rw (← c.self.view_is) met

pub loop-i-preserved : goal.loop-i-preserved
loop-i-preserved c =
    let i = c.loop-i.invariant in
    elim c.if-carried-here-2.branch [
      | then-carried-here-2 w ↦
          rw (w.self-inside-is, w.carried-is)
          (i.0, carry_later i.1 _ _ (omega arith) (omega arith) c.pair_at-here.ensures w.if-carried-here-2.true w.put_pair-then-carried-here-2.ensures)
      | else-carried-here-2 w ↦
          rw (w.self-inside-is, w.carried-is)
          (i.0, carry_past i.1 _ (omega arith) c.pair_at-here.ensures c.if-carried-here.false w.if-carried-here-2.false)
    ]
