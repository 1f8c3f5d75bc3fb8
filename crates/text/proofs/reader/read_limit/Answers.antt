use Rattle.std.proofs.Common.{arith}
use Rattle.text.proofs.Numbers.{bad_end, bad_first, value_zero, digits_first, value_other, value_end, bad_over, digits_more}
use Rattle.text.proofs.reader.read_limit.Goals as goal

pub returns-then-at-text : goal.returns-then-at-text
returns-then-at-text c = bad_end _ _ (omega arith)

pub returns-in_default : goal.returns-in_default
returns-in_default c = bad_first _ _ (omega arith) c.in_default.ensures

pub returns-then-first-eq0 : goal.returns-then-first-eq0
returns-then-first-eq0 c = value_zero _ _ _ (omega arith) c.in-Some.ensures (omega arith)

pub loop-end-init : goal.loop-end-init
loop-end-init c = rw c.from-value.ensures (digits_first _ _ _ (omega arith) c.in-Some.ensures (omega arith))

pub returns-in_default-digit : goal.returns-in_default-digit
returns-in_default-digit c = value_other _ _ _ _ c.loop-end.invariant (omega arith) c.in_default-digit.ensures

pub returns-then-value-gt-LAST_TICK : goal.returns-then-value-gt-LAST_TICK
returns-then-value-gt-LAST_TICK c = bad_over _ _ _ _ c.loop-end.invariant _ (omega arith) c.in-Some-digit.ensures (omega arith)

pub loop-end-preserved : goal.loop-end-preserved
loop-end-preserved c =
    rw c.from.ensures
    (digits_more _ _ _ _ c.loop-end.invariant _ (omega arith) c.in-Some-digit.ensures (omega arith))

pub returns : goal.returns
returns c = value_end _ _ _ _ c.loop-end.invariant (omega arith)
