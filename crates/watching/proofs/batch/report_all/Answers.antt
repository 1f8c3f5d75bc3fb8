use Rattle.watching.proofs.Reports.{reporting_more, reporting_end}
use Rattle.watching.proofs.batch.report_all.Goals as goal

pub loop-i-preserved : goal.loop-i-preserved
loop-i-preserved c =
    reporting_more c.requires c.loop-i.invariant c.loop-i-test.true c.report-reported.ensures

pub returns : goal.returns
returns c = reporting_end c.requires c.loop-i.invariant c.loop-i-test.false
