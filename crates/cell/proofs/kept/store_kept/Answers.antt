use native.Mathlib.Omega.{arith}
use lib.ListN.{length-set}
use Rattle.std.proofs.Common.{rules}
use Rattle.cell.proofs.KeptLaws.{store_word, store_end}
use Rattle.cell.proofs.kept.store_kept.Goals as goal

pub loop-i-preserved : goal.loop-i-preserved
loop-i-preserved c = (
  omega arith,
  simp length-set c.loop-i.invariant.1,
  store_word c.args.cell.now c.args.kept.now c.requires.paired.some c.requires.paired.even c.requires.room c.loop-i.cell _ c.loop-i.i _ (omega arith)
      c.words-words.ensures (search rules) c.loop-i.invariant.2,
)

pub returns : goal.returns
returns c =
    store_end c.args.cell.now c.args.kept.now c.requires.paired.some c.requires.paired.even c.requires.room c.loop-i.cell c.loop-i.i (omega arith) c.loop-i.invariant.2
