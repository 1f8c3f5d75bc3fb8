-- `file::write_file` meets its contract: what it wrote is the file. Assumes nothing.
use mathlib.Core.Path.{sym, ◌∙◌}
use Rattle.file.proofs.Writes.{wrote_file}
use Rattle.file.proofs.write_file.Goals as goal

pub returns : goal.returns
returns c =
    wrote_file _ _ _ _ (sym c.check_parts.ensures ∙ c.in_ok-check_parts.was) c.write_contents.ensures c.copy_from_slice.ensures.after
    c.if-file-needed.false
