-- `file::finder::find` meets its contract: the entries left of the contents decide. Assumes nothing.
use Rattle.file.proofs.Finds.{Sought}
use Rattle.file.proofs.finder.find.Given as goal

abbrev pub invariant-loop-i : goal.invariant-loop-i
invariant-loop-i l = Sought l.file l.name l.count l.i
