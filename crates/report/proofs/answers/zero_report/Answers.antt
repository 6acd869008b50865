use Rattle.report.specs.Report.{zero_report}
use Rattle.report.proofs.answers.zero_report.Goals as goal

pub returns : goal.returns
unfolding zero_report
returns c = rw (c.no_problems-problems.ensures, c.no_overlaps-overlaps.ensures)
