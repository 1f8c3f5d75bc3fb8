-- `watcher::open` meets its contract: where there is too little room, the words needed are those of the formula. Assumes nothing.
use mathlib.Core.Path.{refl, sym, ◌∙◌}
use native.Mathlib.Omega.{arith}
use Rattle.watcher.specs.inner.Walk.{words_needed}
use Rattle.watcher.proofs.Opens.{refused_room}
use Rattle.watcher.proofs.open.Goals as goal

pub returns-then-state-needed : goal.returns-then-state-needed
unfolding words_needed
returns-then-state-needed c = (
  refused_room c.args.body.now (λ k. omega (arith, c.type_inv.body k)) (sym c.check_body.ensures ∙ c.in_ok-check_body.was) c.args.state.now _
      (omega (arith, c.cells_needed-cells.ensures)) (omega arith),
  refl,
)
