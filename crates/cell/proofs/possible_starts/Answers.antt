-- `cell::possible_starts` meets its contract: each arm is the case of `possible`. Assumes nothing.
use Rattle.cell.specs.Cell.{possible}
use Rattle.cell.proofs.possible_starts.Goals as goal

pub returns-in-Either : goal.returns-in-Either
unfolding possible
returns-in-Either c = rw c.in-Either.is

pub returns-in-Both : goal.returns-in-Both
unfolding possible
returns-in-Both c = rw c.in-Both.is

pub returns-in-Without : goal.returns-in-Without
unfolding possible
returns-in-Without c = rw c.in-Without.is

pub returns-in-Chain : goal.returns-in-Chain
unfolding possible
returns-in-Chain c = rw c.in-Chain.is
