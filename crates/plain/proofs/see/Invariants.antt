-- `plain::see` meets its contract: after i rows the masks up to place i are made. Assumes nothing.
use Rattle.plain.proofs.Masks.{Seeing}
use Rattle.plain.proofs.see.Given as goal

abbrev pub invariant-loop-i : goal.invariant-loop-i
invariant-loop-i l = Seeing l.rows l.masks l.sum l.i
