use native.Mathlib.Omega.{arith}
use Rattle.watcher.proofs.Piles.{merged_few}
use Rattle.watcher.proofs.possible.merge.Goals as goal

pub overflow_cast-possible_starts : goal.overflow_cast-possible_starts
overflow_cast-possible_starts c =
    omega (arith, c.possible_starts.ensures, merged_few c.args.op c.pop-x.result c.pop-y.result c.pop-y.ensures c.pop-x.ensures c.requires.few)
