use Prim.Native.Nat.{◌+◌, ◌*◌}
use mathlib.Core.Path.{refl, sym, ◌∙◌}
use Rattle.file.proofs.Turns.{AtBody, body_ends, searched_more}
use Rattle.file.proofs.parts.broken_body.Goals as goal
use Rattle.file.proofs.parts.broken_body.Goals.{After-from}

-- the body that is looked at, wherever its number of entries is known
at_body : (w : After-from)
    → AtBody w.args.counts.now w.args.bodies.now w.loop-b.b w.loop-b.at w.from.result (w.loop-b.at + w.from.result * 5)
at_body w = record { counted = w.from.ensures; ends = refl; there = w.loop-b-test.true; before = w.loop-b.invariant }

pub slice_bounds-fault_in-end : goal.slice_bounds-fault_in-end
slice_bounds-fault_in-end c = body_ends (at_body c)

pub loop-b-preserved : goal.loop-b-preserved
loop-b-preserved c = searched_more (at_body (goal.at.loop-b-preserved c).After-from) (sym c.fault_in.ensures ∙ c.in_default.is)
