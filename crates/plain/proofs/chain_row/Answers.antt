-- `plain::chain_row` meets its contract: what ends before some start of y ends before the latest. Assumes nothing.
use mathlib.Core.Path.{subst}
use Rattle.rules.proofs.Bits.{has_lt}
use Rattle.plain.specs.Row.{IsLatest}
use Rattle.plain.proofs.Sets.{chain_none, chain_at}
use native.Mathlib.Omega.{arith}
use Rattle.plain.proofs.chain_row.Goals as goal

pub bounds-left-u : goal.bounds-left-u
bounds-left-u c =
    let l = subst (IsLatest _) c.in-Some.is c.latest_start.ensures in
    omega (arith, c.requires.long, has_lt c.args.y 64 c.in-Some.u c.ranges.y.fits l.0)

pub returns-in-None : goal.returns-in-None
returns-in-None c =
    chain_none c.args.x.now _ (subst (IsLatest _) c.in-None.is c.latest_start.ensures)

pub returns-in-Some : goal.returns-in-Some
returns-in-Some c =
    let l = subst (IsLatest _) c.in-Some.is c.latest_start.ensures in
    chain_at c.args.x.now _ c.in-Some.u _ l
    (c.requires.masked c.in-Some.u (omega (arith, has_lt c.args.y 64 c.in-Some.u c.ranges.y.fits l.0)))
