use Rattle.std.proofs.Common.{◌<◌, ◌≤◌, length, arith, rules}
use Rattle.report.proofs.Laws.{sum_done, sum_more}
use Rattle.report.proofs.logs.overlap_total.Goals as goal

pub loop-count-preserved : goal.loop-count-preserved
loop-count-preserved c = let more : c.loop-count.count-index < length c.args.claimants = search rules in
    (omega (arith, c.saturating_add-total.ensures), sum_more _ _ _ _ _ _ more c.saturating_add-total.ensures c.loop-count.invariant.1)

pub returns : goal.returns
returns c = let done : length c.args.claimants ≤ c.loop-count.count-index = search rules in
    omega (arith, sum_done c.args.claimants c.loop-count.count-index c.loop-count.total done, c.loop-count.invariant.0, c.loop-count.invariant.1)
