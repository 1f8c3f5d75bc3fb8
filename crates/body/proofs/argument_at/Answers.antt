-- `body::argument_at` meets its contract: `value_at` of four bytes is the nested sum. Assumes nothing.
use native.Mathlib.Omega.{arith}
use Rattle.body.proofs.Bytes.{value_four}
use Rattle.body.proofs.argument_at.Goals as goal

pub returns : goal.returns
returns c =
    omega (arith, value_four c.args.body.now c.args.at)
