-- `text::printer::write_tree` meets its contract. The measure is the number of entries. Assumes nothing.
use Rattle.text.proofs.printer.+write_tree.Given as goal

abbrev pub decreases-write_tree : goal.decreases-write_tree
decreases-write_tree l = l.end
