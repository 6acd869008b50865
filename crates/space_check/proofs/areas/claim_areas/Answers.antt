use Rattle.space_check.proofs.PassLaws.{areas_end, areas_turn, areas_run}
use Rattle.report.proofs.StepLaws.{left_first, left_on, left_err, left_done, stepped_run}
use Prim.Native.Nat.{ℕ, ◌+◌, ◌-◌}
use native.Mathlib.Omega.{arith}
use mathlib.Core.Path.{◌≡◌, refl, ap}
use Rattle.blocks.specs.Reads.{run}
use Rattle.space_check.proofs.areas.claim_areas.Goals as goal

pub returns-in_err-log : goal.returns-in_err-log
returns-in_err-log c =
    stepped_run (left_err c.loop-kind.invariant (c.claim.ensures _) _ _ c.in_err-log.was _ (ap (run _) (areas_turn _ _ _ _ _ _ (omega arith) (omega arith) _ refl _ c.area_of-area.ensures)) _ c.from_residual.ensures.1)
    (rw c.block-sb.ensures (areas_run _ _ _ _ _ _))

pub loop-kind-preserved : goal.loop-kind-preserved
loop-kind-preserved c =
    let less : 7 - (c.loop-kind.kind + 1) ≡ 7 - c.loop-kind.kind - 1 = omega arith in
    rw less (left_on c.loop-kind.invariant (c.claim.ensures _) _ c.in_ok-log.was (record { next = c.loop-kind.kind + 1; left = 7 - c.loop-kind.kind - 1 }) (ap (run _) (areas_turn _ _ _ _ _ _ (omega arith) (omega arith) _ refl _ c.area_of-area.ensures)) (omega arith))

pub returns : goal.returns
returns c = stepped_run (left_done c.loop-kind.invariant (areas_end _ _ _ _ _ _ (omega arith))) (rw c.block-sb.ensures (areas_run _ _ _ _ _ _))
