-- `cell::better_of` meets its contract: it makes the tests of `better` in their order. Assumes nothing.
use mathlib.Core.Path.{sym}
use Rattle.cell.proofs.Choosing.{better_later, better_earlier, better_sooner, better_other}
use Rattle.cell.proofs.pair.better_of.Goals as goal

pub returns-then-q-p : goal.returns-then-q-p
returns-then-q-p c = sym (better_later _ _ c.if-q-p.true)

pub returns-then-p-q : goal.returns-then-p-q
returns-then-p-q c = sym (better_earlier _ _ c.if-p-q.true)

pub returns-then-p-q-2 : goal.returns-then-p-q-2
returns-then-p-q-2 c =
    sym (better_sooner _ _ c.if-q-p.false c.if-p-q.false c.if-p-q-2.true)

pub returns : goal.returns
returns c =
    sym (better_other _ _ c.if-q-p.false c.if-p-q.false c.if-p-q-2.false)
