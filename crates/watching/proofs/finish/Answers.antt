-- `watching::finish` meets its contract: there is room for the last line, and for the tally after it. Assumes nothing.
use mathlib.Core.Path.{refl}
use native.Mathlib.Omega.{arith}
use Rattle.watching.proofs.Progress.{writes_within, writes_on, writes_length, writes_then, writes_whole}
use Rattle.watching.proofs.finish.Goals as goal

pub returns : goal.returns
returns c =
    let first = writes_within {d = c.args.out.now} {m = 60} (omega (arith, c.if-out-lt-MOST_FINISH.false)) c.take_last-last.ensures.written in
    let both = writes_then first (writes_on (omega (arith, first.fits, writes_length first)) c.finish_line.ensures) in
    (omega arith, (_, record { last = _; bytes = _; takes = c.take_last-last.ensures.takes; whole = refl }, writes_whole both))
