-- The operands stand at the two highest places, and the operator's answer comes in the lower one.
use native.Mathlib.Omega.{arith}
use Rattle.watcher.proofs.walk.Merging.{in_use, placed, merged_stack, merged_room, merged_done}
use Rattle.watcher.proofs.stack.Stack.merge.Goals as goal

pub overflow_sub-self : goal.overflow_sub-self
overflow_sub-self c = omega (arith, in_use c.self.invariant c.self.view_is, c.requires.operands)

pub pair-requires : goal.pair-requires
pair-requires c = placed c.self.invariant c.self.view_is c.args.op c.args.state.now c.args.at c.args.t c.requires.operands c.requires.fits

pub invariant_of-self : goal.invariant_of-self
invariant_of-self c = merged_stack c.self.invariant c.self.view_is c.args.op c.args.state.now c.args.at c.args.t c.requires.operands c.requires.fits c.pair.ensures

pub returns-clause-merged : goal.returns-clause-merged
returns-clause-merged c = merged_done c.self.invariant c.self.view_is c.args.op c.args.state.now c.args.at c.args.t c.requires.operands c.requires.fits c.pair.ensures

pub returns-clause-kept : goal.returns-clause-kept
returns-clause-kept c = merged_room c.self.invariant c.self.view_is c.args.op c.args.state.now c.args.at c.args.t c.requires.operands c.requires.fits c.pair.ensures
