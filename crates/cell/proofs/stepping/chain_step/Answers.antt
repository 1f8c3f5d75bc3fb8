-- The answer and the kept pairs are chosen from the cell as it was, and latest is renewed after them.
use Rattle.std.proofs.Common.{rules}
use native.Mathlib.Omega.{arith}
use Rattle.cell.specs.Cell.{cell_words}
use Rattle.cell.proofs.Steps.{chain_stepped}
use Rattle.cell.proofs.stepping.chain_step.Goals as goal

pub choose_and_keep-answer-requires : goal.choose_and_keep-answer-requires
unfolding cell_words
choose_and_keep-answer-requires c = search rules

pub renew-requires : goal.renew-requires
unfolding cell_words
renew-requires c = search rules

pub returns : goal.returns
unfolding cell_words
returns c =
    chain_stepped _ _ c.args.y c.args.starts.now c.args.cell.now _ _ _ _ (omega (arith, c.requires.words))
    c.choose_and_keep-answer.ensures.1 c.renew.ensures c.choose_and_keep-answer.ensures.0
