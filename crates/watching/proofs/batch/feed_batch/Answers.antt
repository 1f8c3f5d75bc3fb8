-- `watching::batch::feed_batch` meets its contract: the lines are read, fed and reported. Assumes nothing.
use mathlib.Core.Path.{subst}
use native.Mathlib.Omega.{arith}
use lib.ListN.{length-take, length-drop}
use Rattle.watcher.specs.Feed.{FeedAnswers}
use Rattle.watching.proofs.Appending.{lent_rest}
use Rattle.watching.proofs.Progress.{no_progress}
use Rattle.watching.proofs.Batches.{fed_ready, batch_progress}
use Rattle.watching.proofs.batch.feed_batch.Goals as goal

pub report_all-reported-requires : goal.report_all-reported-requires
report_all-reported-requires c =
    let fed = subst (FeedAnswers _ _ _ _ _ _) c.in-Ok.is c.feed.ensures in
    fed_ready fed c.requires.1 (omega (arith, length-take c.read_lines-lines.result.count c.read_lines-lines.new.ticks, c.read_lines-lines.ensures.few))
    (rw (lent_rest c.args.p.written c.args.out.now) (omega (arith, length-drop c.args.p.written c.args.out.now, c.requires.2)))

pub returns-in-Err : goal.returns-in-Err
returns-in-Err c =
    let left = subst (FeedAnswers _ _ _ _ _ _) c.in-Err.is c.feed.ensures in
    rw left.1 (no_progress c.requires.0)

pub returns-in-Ok : goal.returns-in-Ok
returns-in-Ok c =
    let fed = subst (FeedAnswers _ _ _ _ _ _) c.in-Ok.is c.feed.ensures in
    batch_progress c.requires.0 c.requires.1 c.requires.2 c.read_lines-lines.ensures fed c.report_all-reported.ensures
