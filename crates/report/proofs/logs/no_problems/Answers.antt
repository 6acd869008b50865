use Rattle.std.proofs.Common.{refl}
use Rattle.report.specs.Report.{no_problems}
use Rattle.report.proofs.logs.no_problems.Goals as goal

pub returns : goal.returns
unfolding no_problems
returns c = refl
