-- `text::read_pattern` meets its contract: what `expression` promises of the whole text gives the answer. Assumes nothing.
use Rattle.std.proofs.Common.{replicate, refl, arith}
use Rattle.std.proofs.lemmas.Result.{err_from_is_err_and}
use Rattle.text.specs.Answer.RefusedText.{long, syntax, many}
use Rattle.text.specs.inner.Written.{body_length}
use Rattle.text.specs.inner.Helpers.{IsExpression}
use Rattle.text.proofs.Readings.{reached, stuck, over, many_entries, read}
use Rattle.text.proofs.read_pattern.Goals as goal
use Rattle.text.proofs.read_pattern.Goals.{In_ok-end}

-- the text is an expression up to some place
read_to : (c : In_ok-end) → let made = c.expression.new.made in
    IsExpression c.args.text.now 0 0 (replicate body_length 0) made.bytes c.in_ok-end.end made.entries
read_to c =
    let m = c.new-made.ensures in
    rw (m.0, m.1) at (reached _ (omega arith) _ _ c.expression.ensures c.in_ok-end.ensures.cases)

pub returns-then-text-gt-MOST_TEXT : goal.returns-then-text-gt-MOST_TEXT
returns-then-text-gt-MOST_TEXT c = (long (record { long = omega arith }), refl)

pub returns-in_err-end : goal.returns-in_err-end
returns-in_err-end c =
    let p = err_from_is_err_and c.from_residual.result c.from_residual.ensures.1 in
    rw (p.1, p.2) (stuck _ (omega arith) _ _ _ _ _ c.expression.ensures c.in_err-end.ensures.cases, refl)

pub returns-then-end-text : goal.returns-then-end-text
returns-then-end-text c = (syntax (over _ (omega arith) (read_to (goal.at.returns-then-end-text c).In_ok-end) (omega arith)), refl)

pub returns-then-made-gt-MOST_ENTRIES : goal.returns-then-made-gt-MOST_ENTRIES
returns-then-made-gt-MOST_ENTRIES c =
    (many (many_entries _ (omega arith) (read_to (goal.at.returns-then-made-gt-MOST_ENTRIES c).In_ok-end) (omega arith) (omega arith)), refl)

pub returns : goal.returns
returns c =
    read _ (omega arith) (read_to (goal.at.returns c).In_ok-end) _ _ _ _ _ (omega arith) (omega arith) (grind arith) c.copy_if_room.ensures c.map_err-2.ensures.cases
