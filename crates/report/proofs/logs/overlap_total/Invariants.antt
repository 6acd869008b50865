use Rattle.std.proofs.Common.{◌≡◌, ◌+◌, ◌-◌, ◌^◌, ◌<◌, min, drop}
use Rattle.report.specs.Report.{sum_of}
use Rattle.report.proofs.logs.overlap_total.Given as goal

abbrev pub invariant-loop-count : goal.invariant-loop-count
invariant-loop-count l = (l.total < 2 ^ 64) × (min (l.total + sum_of (drop l.count-index l.count-items)) (2 ^ 64 - 1) ≡ min (sum_of l.count-items) (2 ^ 64 - 1))
