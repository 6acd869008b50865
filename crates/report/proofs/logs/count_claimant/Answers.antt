use Rattle.std.proofs.Common.{refl, arith, rules}
use Rattle.report.proofs.Laws.{one_of_sum, claimant_counted, claimant_unknown}
use Rattle.report.proofs.logs.count_claimant.Goals as goal

pub overflow_add-next : goal.overflow_add-next
overflow_add-next c = omega (arith, one_of_sum c.args.claimants c.saturating_sub-place.result)

pub returns-then-place-lt-KINDS : goal.returns-then-place-lt-KINDS
returns-then-place-lt-KINDS c = claimant_counted _ _ _ _ c.saturating_sub-place.ensures refl

pub returns-else-place-lt-KINDS : goal.returns-else-place-lt-KINDS
returns-else-place-lt-KINDS c = claimant_unknown _ _ _ _ c.saturating_sub-place.ensures (search rules) refl
