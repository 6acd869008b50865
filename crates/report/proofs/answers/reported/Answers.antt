use Rattle.std.proofs.Common.{refl}
use Rattle.report.specs.Report.{reported}
use Rattle.report.proofs.answers.reported.Goals as goal

pub returns : goal.returns
unfolding reported
returns c = refl
