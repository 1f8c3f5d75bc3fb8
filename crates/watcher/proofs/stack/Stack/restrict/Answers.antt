-- The last answer stands at the highest place in use.
use native.Mathlib.Omega.{arith}
use Rattle.watcher.proofs.walk.Merging.{in_use, restricts}
use Rattle.watcher.proofs.stack.Stack.restrict.Goals as goal

pub overflow_sub-top : goal.overflow_sub-top
overflow_sub-top c = omega (arith, in_use c.self.invariant c.self.view_is)

pub bounds-self-inside-top : goal.bounds-self-inside-top
bounds-self-inside-top c = omega (arith, in_use c.self.invariant c.self.view_is, c.self.invariant.low)

pub bounds-self-inside-top-2 : goal.bounds-self-inside-top-2
bounds-self-inside-top-2 c = omega (arith, in_use c.self.invariant c.self.view_is, c.self.invariant.low)

pub invariant_of-self : goal.invariant_of-self
invariant_of-self c = (restricts c.self.invariant c.self.view_is c.requires c.within_answer.result c.args.t c.args.limit c.within_answer.ensures).0

pub returns : goal.returns
returns c = (restricts c.self.invariant c.self.view_is c.requires c.within_answer.result c.args.t c.args.limit c.within_answer.ensures).1
