-- `line::read_tick` meets its contract: each way out, by what the number and the letters were read to. Assumes nothing.
use Rattle.std.specs.Prelude.{Some, None}
use Rattle.std.proofs.lemmas.Result.{err_from_is_err_and}
use native.Mathlib.Omega.{arith}
use mathlib.Core.Path.{◌≡◌, sym, subst, ◌∙◌}
use Rattle.refusal.specs.declared.Refusal.TheVariants.{Line}
use Rattle.line.specs.Answer.RefusedLine.{long, malformed, range}
use Rattle.line.specs.inner.Number.{NumberOf, IsNumber}
use Rattle.line.proofs.Parses.{no_line}
use Rattle.line.proofs.Readings.{parsed_none, parsed_end, parsed_other, parsed_no_letter, out_of_range, in_range}
use Rattle.line.proofs.read_tick.Goals as goal
use Rattle.line.proofs.read_tick.Goals.{In_ok-number, then-number-line-via-then-number-line, then-number-line-via-else-number-line+then-line-number-ne32}

-- the number, as `read_number` promises it
number_is : (c : In_ok-number) → IsNumber c.args.line.now c.in_ok-number.number.end c.in_ok-number.number.value
number_is c =
    let some : c.read_number.result ≡ Some c.in_ok-number.number = grind arith in
    subst (NumberOf _) some c.read_number.ensures

pub returns-then-line-gt-MOST_LINE : goal.returns-then-line-gt-MOST_LINE
returns-then-line-gt-MOST_LINE c = long (omega arith)

pub returns-in_err-number : goal.returns-in_err-number
returns-in_err-number c =
    let p = err_from_is_err_and c.from_residual.result c.from_residual.ensures.1 in
    let line : c.in_err-number.field-0.0 ≡ Line = grind arith in
    let none : c.read_number.result ≡ None = grind arith in
    rw (p.1, p.2, line) (malformed (no_line _ (parsed_none _ (subst (NumberOf _) none c.read_number.ensures))))

pub returns-then-number-line : goal.returns-then-number-line
returns-then-number-line c =
    let number = number_is (goal.at.returns-then-number-line c).In_ok-number in
    elim c.then-number-line.branch [
      | then-number-line-via-then-number-line w ↦ malformed (no_line _ (parsed_end _ number (omega arith)))
      | then-number-line-via-else-number-line+then-line-number-ne32 w ↦ malformed (no_line _ (parsed_other _ number (omega (arith, number)) w.if-line-number-ne32.true))
    ]

pub returns-in_err-events : goal.returns-in_err-events
returns-in_err-events c =
    let number = number_is (goal.at.returns-in_err-events c).In_ok-number in
    let p = err_from_is_err_and c.from_residual-in_err-events.result c.from_residual-in_err-events.ensures.1 in
    let line : c.in_err-events.field-0.0 ≡ Line = grind arith in
    let none : c.read_letters.result ≡ None = grind arith in
    rw (p.1, p.2, line)
    (malformed (no_line _ (parsed_no_letter _ number (omega (arith, number)) c.if-line-number-ne32.false
    (sym none ∙ c.read_letters.ensures))))

pub returns-then-number-gt-LAST_TICK : goal.returns-then-number-gt-LAST_TICK
returns-then-number-gt-LAST_TICK c =
    let number = number_is (goal.at.returns-then-number-gt-LAST_TICK c).In_ok-number in
    let some : c.read_letters.result ≡ Some c.in_ok-events.events = grind arith in
    range (out_of_range _ number (omega (arith, number)) c.if-line-number-ne32.false (omega arith) _
    (sym some ∙ c.read_letters.ensures) (omega arith))

pub returns : goal.returns
returns c =
    let number = number_is (goal.at.returns c).In_ok-number in
    let some : c.read_letters.result ≡ Some c.in_ok-events.events = grind arith in
    in_range _ number (omega (arith, number)) c.if-line-number-ne32.false (omega arith) _
    (sym some ∙ c.read_letters.ensures) (omega arith)
