use mathlib.Core.Path.{◌≡◌}
use native.Mathlib.Omega.{arith}
use Rattle.watching.proofs.Gatherings.{gathering_more, gathering_end}
use Rattle.watching.proofs.batch.read_lines.Goals as goal

pub returns-in_default : goal.returns-in_default
returns-in_default c = gathering_end c.loop-n.invariant

pub loop-n-preserved : goal.loop-n-preserved
loop-n-preserved c =
    gathering_more c.loop-n.invariant c.loop-n-test.true c.in-Some.ensures

pub returns : goal.returns
returns c =
    let all : c.loop-n.n ≡ 64 = omega arith in
    rw all at (gathering_end c.loop-n.invariant)
