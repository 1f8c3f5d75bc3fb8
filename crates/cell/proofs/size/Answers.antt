-- `cell::size` meets its contract: each arm is the case of `cell_words`. Assumes nothing.
use Rattle.cell.specs.Cell.{cell_words}
use Rattle.cell.proofs.size.Goals as goal

pub returns-in-Either : goal.returns-in-Either
unfolding cell_words
returns-in-Either c = rw c.in-Either.is

pub returns-in-Both : goal.returns-in-Both
unfolding cell_words
returns-in-Both c = rw c.in-Both.is

pub returns-in-Without : goal.returns-in-Without
unfolding cell_words
returns-in-Without c = rw c.in-Without.is

pub returns-in-Chain : goal.returns-in-Chain
unfolding cell_words
returns-in-Chain c = rw c.in-Chain.is
