-- `watcher::stack::pair` meets its contract: the cell that is lent is the operator's, and each write is one of the promise's. Assumes nothing.
use Rattle.watcher.proofs.walk.Pairing.{pair_done}
use Rattle.watcher.proofs.stack.pair.Goals as goal

pub returns : goal.returns
returns c =
    pair_done c.requires c.size.result c.size.ensures c.step.ensures c.own_from.ensures
    c.put_starts.ensures
