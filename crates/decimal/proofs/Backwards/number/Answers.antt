use Rattle.std.proofs.Common.{◌∙◌, arith}
use Rattle.decimal.proofs.Written.{last_digit, one_digit, count_last, count_one}
use Rattle.decimal.proofs.Backwards.number.Goals as goal

pub loop-left-preserved : goal.loop-left-preserved
loop-left-preserved g c = (
  λ x p. c.loop-left.invariant.0 x (last_digit _ _ _ _ _ (omega arith) c.byte.ensures.written p),
  count_last _ _ _ _ (omega arith) c.byte.ensures.counts ∙ c.loop-left.invariant.1,
)

pub returns-clause-written : goal.returns-clause-written
returns-clause-written g c = c.loop-left.invariant.0 _ (one_digit _ _ _ _ (omega arith) c.byte-2.ensures.written)

pub returns-clause-counts : goal.returns-clause-counts
returns-clause-counts g c = count_one _ _ _ _ (omega arith) c.byte-2.ensures.counts ∙ c.loop-left.invariant.1
