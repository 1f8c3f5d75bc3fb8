-- `plain::evaluate` meets its contract: the refusals in their order, then all rows. Assumes nothing.
use mathlib.Core.Path.{sym}
use native.Mathlib.Omega.{arith}
use Rattle.std.proofs.lemmas.Result.{err_from_is_err_and}
use Rattle.rules.specs.Limits.{argument_bytes}
use Rattle.body.proofs.Walk.{sound_start}
use Rattle.plain.proofs.Answers.{body_refused, record_refused, room_refused, all_evaluated}
use Rattle.plain.proofs.evaluate.Goals as goal

pub returns-in_err-check_body : goal.returns-in_err-check_body
returns-in_err-check_body c =
    let p = err_from_is_err_and c.from_residual.result c.from_residual.ensures.1 in
    rw (p.1, p.2) (body_refused _ _ _ _ (sym c.in_err-check_body.ensures))

pub returns-then-events-gt-MOST_WORDS : goal.returns-then-events-gt-MOST_WORDS
returns-then-events-gt-MOST_WORDS c = record_refused _ _ _ (sym c.in_ok-check_body.ensures) (omega arith)

pub overflow_mul-needed : goal.overflow_mul-needed
overflow_mul-needed c = omega (arith, (sound_start argument_bytes c.args.body.now (sym c.in_ok-check_body.ensures)).most)

pub returns-then-rows-needed : goal.returns-then-rows-needed
returns-then-rows-needed c = room_refused _ _ _ (sym c.in_ok-check_body.ensures) (omega arith) (omega arith)

pub returns : goal.returns
returns c = all_evaluated _ _ _ (sym c.in_ok-check_body.ensures) (omega arith) (omega arith) _ c.fill_rows.ensures
