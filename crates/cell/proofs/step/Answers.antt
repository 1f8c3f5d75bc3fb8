-- `cell::step` meets its contract: each arm is the case of `cell_answer` and `cell_after` where the words are its cell's, and else leaves them.
-- Assumes nothing.
use mathlib.Core.Path.{sym, ◌∙◌}
use borrow.Author.Tests.{eq-eqb, ne_eqb}
use Rattle.cell.proofs.Sizes.{is_either, is_both, is_without, is_chain_ready}
use Rattle.cell.proofs.Steps.{either_stepped, step_answers, step_left}
use Rattle.cell.proofs.step.Goals as goal

pub returns-then-cell-eq0 : goal.returns-then-cell-eq0
returns-then-cell-eq0 c =
    rw c.in-Either.is
    (step_answers (is_either _ _ ∙ eq-eqb _ _ c.if-cell-eq0.true) (either_stepped _ _ _ _ _ _ c.max.ensures))

pub returns-then-cell-eq4 : goal.returns-then-cell-eq4
returns-then-cell-eq4 c =
    rw c.in-Both.is (step_answers (is_both _ _ ∙ eq-eqb _ _ c.if-cell-eq4.true) (c.both_step.ensures _))

pub returns-then-cell-eq1 : goal.returns-then-cell-eq1
returns-then-cell-eq1 c =
    rw c.in-Without.is (step_answers (is_without _ _ ∙ eq-eqb _ _ c.if-cell-eq1.true) (c.without_step.ensures _ _))

pub chain_step-requires : goal.chain_step-requires
chain_step-requires c =
    let u = is_chain_ready _ _ (sym c.is_chain.ensures ∙ c.if-is_chain.true) in
    record { few = u.0; words = u.1 }

pub returns-else-cell-eq0 : goal.returns-else-cell-eq0
returns-else-cell-eq0 c = rw c.in-Either.is (step_left _ _ _ _ _ _ (is_either _ _ ∙ ne_eqb _ _ c.if-cell-eq0.false))

pub returns-else-cell-eq4 : goal.returns-else-cell-eq4
returns-else-cell-eq4 c = rw c.in-Both.is (step_left _ _ _ _ _ _ (is_both _ _ ∙ ne_eqb _ _ c.if-cell-eq4.false))

pub returns-else-cell-eq1 : goal.returns-else-cell-eq1
returns-else-cell-eq1 c = rw c.in-Without.is (step_left _ _ _ _ _ _ (is_without _ _ ∙ ne_eqb _ _ c.if-cell-eq1.false))
