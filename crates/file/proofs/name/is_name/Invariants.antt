-- `file::name::is_name` meets its contract: after the first byte, the bytes left decide. Assumes nothing.
use mathlib.Core.Path.{◌≡◌}
use lib.ListN.{drop}
use Rattle.file.specs.Contents.{padded, named}
use Rattle.file.proofs.name.is_name.Given as goal

abbrev pub invariant-loop-i : goal.invariant-loop-i
invariant-loop-i l = padded (drop l.i l.name) ≡ named l.name
