use native.Mathlib.Omega.{arith}
use Rattle.file.proofs.Finds.{sound_long}
use Rattle.file.proofs.finder.find.Goals as goal

pub bounds-file-0 : goal.bounds-file-0
bounds-file-0 c = omega (arith, sound_long c.args.file.now c.requires)
