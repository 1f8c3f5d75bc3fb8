-- `watcher::write_entries` meets its contract: i of the words are put. Assumes nothing.
use Rattle.watcher.specs.inner.Form.{words_of}
use Rattle.watcher.proofs.Puts.{Putting}
use Rattle.watcher.proofs.write_entries.Given as goal

abbrev pub invariant-loop-i : goal.invariant-loop-i
invariant-loop-i l = Putting (words_of l.body) 2 l.n l.initial.state l.state l.i
