-- `cell::push_chain` meets its contract: the starts are put where the words are whole pairs and there is room. Assumes nothing.
use mathlib.Core.Path.{◌≡◌, sym, ◌∙◌}
use mathlib.Core.Bool.{true}
use lib.ListN.{length}
use borrow.Author.Tests.{leb-true}
use Rattle.rules.specs.declared.Op.TheVariants.{Chain}
use Rattle.cell.specs.Form.{size_fits}
use Rattle.cell.proofs.Sizes.{chain_paired}
use Rattle.cell.proofs.StartLaws.{push_answers, push_left, starts_not, chain_starts_fit}
use Rattle.cell.proofs.starts.push_chain.Goals as goal
use Rattle.cell.proofs.starts.push_chain.Goals.{Then-whole_pairs}

size : (c : Then-whole_pairs) → size_fits Chain (length c.args.cell.now) ≡ true
size c = sym c.whole_pairs.ensures ∙ c.if-whole_pairs.true

pub put_chain-requires : goal.put_chain-requires
put_chain-requires c =
    (chain_paired _ (size (goal.at.put_chain-requires c).Then-whole_pairs), leb-true _ _ (sym c.has_room.ensures ∙ c.if-has_room.true))

pub returns-then-has_room : goal.returns-then-has_room
returns-then-has_room c =
    push_answers (chain_starts_fit _ _ _ (size (goal.at.returns-then-has_room c).Then-whole_pairs) ∙ sym c.has_room.ensures ∙ c.if-has_room.true) c.put_chain.ensures

pub returns-else-has_room : goal.returns-else-has_room
returns-else-has_room c = push_left _ _ _ _ (chain_starts_fit _ _ _ (size (goal.at.returns-else-has_room c).Then-whole_pairs) ∙ sym c.has_room.ensures ∙ c.if-has_room.false)

pub returns-else-whole_pairs : goal.returns-else-whole_pairs
returns-else-whole_pairs c = push_left _ _ _ _ (starts_not _ _ _ _ (sym c.whole_pairs.ensures ∙ c.if-whole_pairs.false))
