-- There is room for one answer more.
use native.Mathlib.Omega.{arith}
use Rattle.watcher.specs.inner.Step.{Stacked}
use mathlib.Core.Path.{ap}
use Rattle.watcher.proofs.walk.Merging.{in_use, pushed}
use Rattle.watcher.proofs.stack.Stack.push.Goals as goal

pub bounds-self-inside-self-inside : goal.bounds-self-inside-self-inside
bounds-self-inside-self-inside c = omega (arith, in_use c.self.invariant c.self.view_is, ap (λ (k : Stacked). k.deep) c.self.view_is)

pub bounds-self-inside-self-inside-3 : goal.bounds-self-inside-self-inside-3
bounds-self-inside-self-inside-3 c =
    omega (arith, in_use c.self.invariant c.self.view_is, ap (λ (k : Stacked). k.deep) c.self.view_is, c.self.invariant.base_long)

pub invariant_of-self : goal.invariant_of-self
invariant_of-self c = (pushed c.self.invariant c.self.view_is c.requires c.args.answer).0

pub returns : goal.returns
returns c = (pushed c.self.invariant c.self.view_is c.requires c.args.answer).1
