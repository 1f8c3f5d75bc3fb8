-- `plain::fill_within` meets its contract: the rows made from entry k on are read from those before it. Assumes nothing.
use Rattle.std.proofs.Common.{◌≡◌, arith}
use Rattle.plain.specs.Rows.{rows_of}
use Rattle.plain.proofs.Fills.{read_before, filled_after}
use Rattle.plain.proofs.fill_within.Goals as goal

pub returns : goal.returns
returns c =
    let s = c.split_at_mut-before.ensures in
    let operand : c.entry_rows-operand.result.now ≡ rows_of c.args.rows.now c.args.x = read_before _ _ _ _ _ c.requires.0 (omega (arith, c.requires.1)) s.front c.entry_rows-operand.ensures in
    rw (← operand, s.value) (filled_after _ _ _ _ _ (s.front_len) c.fill.ensures)
