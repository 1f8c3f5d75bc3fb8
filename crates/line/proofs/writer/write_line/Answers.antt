-- `line::writer::write_line` meets its contract: the parts written backwards make the line, for which there is room. Assumes nothing.
use native.Mathlib.Omega.{arith}
use Rattle.line.proofs.Writings.{line_length_bound, line_is, written}
use Rattle.line.proofs.writer.write_line.Goals as goal

pub returns : goal.returns
returns c =
    let a = c.args in
    let bound = line_length_bound a.one.now a.two.now a.a a.b c.ranges.a.fits c.ranges.b.fits in
    let line = line_is a.one.now a.two.now a.a a.b _ _ _ _ _ (omega (arith, bound, c.requires)) (rw c.new-made.ensures at c.byte.ensures.written) c.number.ensures.written c.word.ensures.written c.number-2.ensures.written c.word-2.ensures.written in
    written _ _ _ _ _ (rw (c.written.ensures, line) at c.copy_if_room.ensures) c.map_err.ensures.cases
