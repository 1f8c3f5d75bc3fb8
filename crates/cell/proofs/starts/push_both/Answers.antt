-- `cell::push_both` meets its contract: two stores side by side, where there is room for them. Assumes nothing.
use mathlib.Core.Path.{sym, ◌∙◌}
use Prim.Native.Nat.{◌+◌, ◌≤◌}
use lib.ListN.{length}
use borrow.Author.Tests.{leb-true}
use Rattle.cell.proofs.StartLaws.{push_two, push_answers, push_left, both_starts_fit, both_starts_not}
use Rattle.cell.proofs.starts.push_both.Goals as goal
use Rattle.cell.proofs.starts.push_both.Goals.{Then-has_room}

room : (c : Then-has_room) → let h = c.args in h.at + 2 ≤ length h.starts.now
room c = leb-true _ _ (sym c.has_room.ensures ∙ c.if-has_room.true)

pub returns-then-cell-ne4 : goal.returns-then-cell-ne4
returns-then-cell-ne4 c = push_left _ _ _ _ (both_starts_not _ _ _ c.if-cell-ne4.true)

pub returns-then-has_room : goal.returns-then-has_room
returns-then-has_room c =
    push_answers (both_starts_fit _ _ _ c.if-cell-ne4.false ∙ sym c.has_room.ensures ∙ c.if-has_room.true)
    (push_two _ _ _ (room (goal.at.returns-then-has_room c).Then-has_room))

pub returns : goal.returns
returns c = push_left _ _ _ _ (both_starts_fit _ _ _ c.if-cell-ne4.false ∙ sym c.has_room.ensures ∙ c.if-has_room.false)
