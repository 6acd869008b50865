use Rattle.std.proofs.Common.{refl}
use Rattle.report.specs.Report.{no_overlaps}
use Rattle.report.proofs.logs.no_overlaps.Goals as goal

pub returns : goal.returns
unfolding no_overlaps
returns c = refl
