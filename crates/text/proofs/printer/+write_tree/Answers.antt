-- Each answer goes by the last entry, which says what tree ends there and where its operands end.
use Rattle.std.proofs.Common.{arith}
use Rattle.text.proofs.Trees.{some_entry, not_wrong, letter_ready, letter_written}
use Rattle.text.proofs.Trees.{right_ready, left_falls, left_ready, pair_written, limited_ready, within_written}
use Rattle.text.proofs.printer.+write_tree.Goals as goal

pub overflow_sub-last : goal.overflow_sub-last
overflow_sub-last t c = some_entry _ _ c.requires

pub letter_byte-requires : goal.letter_byte-requires
letter_byte-requires t c = letter_ready _ _ _ c.in-Letter.ensures c.requires

pub write_tree-right-requires : goal.write_tree-right-requires
write_tree-right-requires t c = (omega (arith, some_entry _ _ c.requires), right_ready _ _ _ c.in-Pair.ensures c.requires)

pub write_tree-left-requires : goal.write_tree-left-requires
write_tree-left-requires t c = (
  omega (arith, left_falls _ _ _ c.in-Pair.ensures c.requires _ _ _ c.write_tree-right.ensures),
  left_ready _ _ _ c.in-Pair.ensures c.requires _ _ _ c.write_tree-right.ensures,
)

pub write_tree-left-requires-in-Within : goal.write_tree-left-requires-in-Within
write_tree-left-requires-in-Within t c = (omega (arith, some_entry _ _ c.requires), limited_ready _ _ _ c.in-Within.ensures c.requires)

pub returns-in-Letter : goal.returns-in-Letter
returns-in-Letter t c = letter_written _ _ _ c.in-Letter.ensures _ _ (rw c.letter_byte.ensures at c.byte.ensures)

pub returns-in-Pair : goal.returns-in-Pair
returns-in-Pair t c =
    pair_written _ _ _ c.in-Pair.ensures _ _ _ _ _ _ _ _
    c.byte-in-Pair.ensures
    c.write_tree-right.ensures
    (rw c.op_byte.ensures at c.byte-in-Pair-2.ensures)
    c.write_tree-left.ensures
    c.byte-in-Pair-3.ensures

pub returns-in-Within : goal.returns-in-Within
returns-in-Within t c =
    within_written _ _ _ c.in-Within.ensures _ _ _ _ _ _ _
    c.byte-in-Within.ensures
    c.number.ensures
    c.byte-in-Within-2.ensures
    c.write_tree-left-in-Within.ensures
    c.byte-in-Within-3.ensures

pub returns-in-Wrong : goal.returns-in-Wrong
returns-in-Wrong t c = absurd (not_wrong _ _ c.in-Wrong.ensures c.requires)
