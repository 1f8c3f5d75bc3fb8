-- `watching::open_line` meets its contract: the text is read, and then the state opened for its body. Assumes nothing.
use mathlib.Core.Path.{refl}
use Rattle.std.proofs.lemmas.Result.{err_from_is_err_and}
use Rattle.watching.specs.Answer.FirstLine.{unread, unopened, opened}
use Rattle.watching.proofs.Takings.{part_first}
use Rattle.watching.proofs.open_line.Goals as goal

pub returns-in_err-bytes : goal.returns-in_err-bytes
returns-in_err-bytes c =
    let p = err_from_is_err_and c.from_residual.result c.from_residual.ensures.1 in
    rw (p.1, p.2) (unread c.in_err-bytes.ensures refl)

pub returns-in_err-open : goal.returns-in_err-open
returns-in_err-open c =
    let p = err_from_is_err_and c.from_residual-in_err-open.result c.from_residual-in_err-open.ensures.1 in
    rw (p.1, p.2) (unopened c.in_ok-bytes.ensures (rw (part_first c.in_ok-bytes.bytes c.read_pattern.new.body) at c.in_err-open.ensures))

pub returns : goal.returns
returns c = opened c.in_ok-bytes.ensures (rw (part_first c.in_ok-bytes.bytes c.read_pattern.new.body) at c.in_ok-open.ensures)
