use Rattle.report.specs.Report.{refusal}
use Rattle.report.proofs.answers.refusal.Goals as goal

pub returns : goal.returns
unfolding refusal
returns c = rw c.zero_report-report.ensures
