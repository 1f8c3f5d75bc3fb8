-- `watcher::form::cell_end` meets its contract: the cell is too short, in form, or not. Assumes nothing.
use Prim.Native.Nat.{ℕ, ◌+◌}
use mathlib.Core.Path.{sym, ap, ◌∙◌}
use native.Mathlib.Omega.{arith}
use Rattle.watcher.proofs.Cells.{words_le}
use Rattle.watcher.proofs.form.Judging.{cell_taken, cell_short, cell_broken, cell_told}
use Rattle.watcher.proofs.form.cell_end.Goals as goal
use Rattle.watcher.proofs.form.cell_end.Goals.{then-state-end-via-then-state-end, then-state-end-via-else-state-end+then-not-in_form}

pub overflow_add-end : goal.overflow_add-end
overflow_add-end c =
    omega (arith, c.requires.inside, c.ranges.y, c.size.ensures, words_le c.args.op c.args.y)

pub returns-then-state-end : goal.returns-then-state-end
returns-then-state-end c =
    elim c.then-state-end.branch [
      | then-state-end-via-then-state-end w ↦
          cell_short c.args.state.now c.args.op c.args.at c.args.y c.requires.inside (omega (arith, c.size.ensures))
      | then-state-end-via-else-state-end+then-not-in_form w ↦
          cell_broken c.args.state.now c.args.op c.args.at c.args.y (omega (arith, c.size.ensures))
          (cell_told c.args.state.now c.args.op c.args.at c.args.y c.size.result c.size.ensures (omega arith) ∙ sym w.in_form.ensures ∙ w.if-not-in_form.true)
    ]

pub returns : goal.returns
returns c =
    cell_taken c.args.state.now c.args.op c.args.at c.args.y (omega (arith, c.size.ensures))
    (cell_told c.args.state.now c.args.op c.args.at c.args.y c.size.result c.size.ensures (omega arith) ∙ sym c.in_form.ensures ∙ c.if-not-in_form.false) _ (ap (λ (k : ℕ). c.args.at + k) c.size.ensures)
