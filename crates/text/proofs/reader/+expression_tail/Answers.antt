-- Each return is one of the cases of `Ways`; the tests and calls on the way to it say which.
use Rattle.std.proofs.Common.{ℕ, arith}
use Rattle.std.proofs.lemmas.Result.{err_from_is_err_and}
use Rattle.text.proofs.Ways.{Opened, no_text, is_letter, no_open, no_left, no_right, no_more, no_shut, is_bracket}
use Rattle.text.proofs.Ways.{no_tail_text, no_sign, no_number, is_number, no_operand, is_operand}
use Rattle.text.proofs.reader.+expression_tail.Goals as goal
use Rattle.text.proofs.reader.+expression_tail.Goals.{expression-Else-byte-ne40, expression-then-last-text-via-then-last-text, expression-then-last-text-via-else-last-text+then-text-last-ne41}

-- what is known once '(' has been read
opened_at : (t : ℕ) (c : expression-Else-byte-ne40 t) → Opened c.args.text.now c.args.at
opened_at t c = record { inside = omega arith; no_letter = c.in_default.ensures.kind; bracket = c.if-byte-ne40.false }

pub expression-returns-then-at-text : goal.expression-returns-then-at-text
expression-returns-then-at-text t c = no_text _ _ (omega arith)

pub expression-returns-in-Some : goal.expression-returns-in-Some
expression-returns-in-Some t c =
    rw c.push.ensures.counted (is_letter _ _ _ _ _ _ (omega arith) c.in-Some.ensures.kind (rw c.from.ensures at c.push.ensures.written))

pub expression-returns-then-byte-ne40 : goal.expression-returns-then-byte-ne40
expression-returns-then-byte-ne40 t c = no_open _ _ (omega arith) c.in_default.ensures.kind c.if-byte-ne40.true

pub expression-returns-in_err-middle : goal.expression-returns-in_err-middle
expression-returns-in_err-middle t c =
    let p = err_from_is_err_and c.from_residual.result c.from_residual.ensures.1 in
    rw (p.1, p.2) (no_left _ _ (opened_at t (goal.at.expression-returns-in_err-middle t c).Else-byte-ne40) c.in_err-middle.ensures)

pub expression-returns-in_err-last : goal.expression-returns-in_err-last
expression-returns-in_err-last t c =
    let p = err_from_is_err_and c.from_residual-in_err-last.result c.from_residual-in_err-last.ensures.1 in
    rw (p.1, p.2) (no_right _ _ (opened_at t (goal.at.expression-returns-in_err-last t c).Else-byte-ne40) c.in_ok-middle.ensures c.in_err-last.ensures)

pub expression-returns-then-last-text : goal.expression-returns-then-last-text
expression-returns-then-last-text t c =
    let o = opened_at t (goal.at.expression-returns-then-last-text t c).Else-byte-ne40 in
    let l = c.in_ok-middle.ensures in
    let r = c.in_ok-last.ensures in
    elim c.then-last-text.branch [
      | expression-then-last-text-via-then-last-text w ↦ no_more _ _ o l r (omega arith)
      | expression-then-last-text-via-else-last-text+then-text-last-ne41 w ↦ no_shut _ _ o l r (omega arith) w.if-text-last-ne41.true
    ]

pub expression-returns : goal.expression-returns
expression-returns t c =
    is_bracket _ _ (opened_at t (goal.at.expression-returns t c).Else-byte-ne40) c.in_ok-middle.ensures c.in_ok-last.ensures (omega (arith, c.in_ok-last.ensures)) c.if-text-last-ne41.false

pub tail-returns-then-at-text : goal.tail-returns-then-at-text
tail-returns-then-at-text t c = no_tail_text _ _ (omega arith)

pub tail-returns-in-None : goal.tail-returns-in-None
tail-returns-in-None t c = no_sign _ _ (omega arith) c.in-None.ensures

pub tail-returns-in_err-number-in-Some-Limit : goal.tail-returns-in_err-number-in-Some-Limit
tail-returns-in_err-number-in-Some-Limit t c =
    let p = err_from_is_err_and c.from_residual.result c.from_residual.ensures.1 in
    rw (p.1, p.2) (no_number _ _ (omega arith) (rw c.in-Some-Limit.field-0-is at c.in-Some-Limit.ensures) c.in_err-number-in-Some-Limit.ensures)

pub tail-returns-in_ok-number-in-Some-Limit : goal.tail-returns-in_ok-number-in-Some-Limit
tail-returns-in_ok-number-in-Some-Limit t c =
    rw c.push.ensures.counted
    (is_number _ _ (omega arith) (rw c.in-Some-Limit.field-0-is at c.in-Some-Limit.ensures) _ _ _ c.in_ok-number-in-Some-Limit.ensures c.push.ensures.written)

pub tail-returns-in_err-end-in-Some-Operator : goal.tail-returns-in_err-end-in-Some-Operator
tail-returns-in_err-end-in-Some-Operator t c =
    let p = err_from_is_err_and c.from_residual-in_err-end-in-Some-Operator.result c.from_residual-in_err-end-in-Some-Operator.ensures.1 in
    rw (p.1, p.2) (no_operand _ _ (omega arith) _ (rw c.in-Some-Operator.field-0-is at c.in-Some-Operator.ensures) c.in_err-end-in-Some-Operator.ensures)

pub tail-returns-in_ok-end-in-Some-Operator : goal.tail-returns-in_ok-end-in-Some-Operator
tail-returns-in_ok-end-in-Some-Operator t c =
    rw c.push-in-Some-Operator.ensures.counted
    (is_operand _ _ (omega arith) _ (rw c.in-Some-Operator.field-0-is at c.in-Some-Operator.ensures) _ c.in_ok-end-in-Some-Operator.ensures
    (rw c.op_number.ensures at c.push-in-Some-Operator.ensures.written))
