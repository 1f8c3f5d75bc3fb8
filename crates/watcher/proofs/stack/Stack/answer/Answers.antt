-- The only answer stands at the lowest place.
use native.Mathlib.Omega.{arith}
use Rattle.watcher.proofs.walk.Merging.{in_use, only_answer}
use Rattle.watcher.proofs.stack.Stack.answer.Goals as goal

pub bounds-self-inside-0 : goal.bounds-self-inside-0
bounds-self-inside-0 c = omega (arith, in_use c.self.invariant c.self.view_is, c.self.invariant.low)

pub returns : goal.returns
returns c = only_answer c.self.invariant c.self.view_is c.requires
