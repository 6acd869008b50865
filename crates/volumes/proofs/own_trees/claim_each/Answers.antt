use native.Mathlib.Omega.{arith}
use mathlib.Core.Path.{◌≡◌, refl, ap}
use Prim.Native.Nat.{◌-◌}
use Rattle.blocks.specs.Reads.{run}
use Rattle.checkpoint.specs.Superblock.{volume_places}
use Rattle.report.proofs.StepLaws.{left_on, left_err, left_done}
use Rattle.volumes.specs.clauses.Answers.{claims_from}
use Rattle.volumes.proofs.ClaimLaws.{claims_next}
use Rattle.volumes.proofs.own_trees.claim_each.Goals as goal

pub returns-in_err-log : goal.returns-in_err-log
returns-in_err-log c =
    left_err c.loop-place.invariant (rw c.volume_id.ensures at c.claim_place.ensures) _ _ c.in_err-log.was _ (ap (run _) (claims_next _ _ _ _ _ _ _ _ (rw c.volume_places-place-end.ensures.0 at c.loop-place-test.true))) _ c.from_residual.ensures.1

pub loop-place-preserved : goal.loop-place-preserved
loop-place-preserved c =
    left_on c.loop-place.invariant (rw c.volume_id.ensures at c.claim_place.ensures) _ c.in_ok-log.was _ (ap (run _) (claims_next _ _ _ _ _ _ _ _ (rw c.volume_places-place-end.ensures.0 at c.loop-place-test.true))) (omega (arith, c.loop-place-test.true, c.volume_places-place-end.ensures.0))

pub returns : goal.returns
unfolding claims_from
returns c =
    let none : volume_places c.args.sb.now - c.loop-place.place ≡ 0 = omega (arith, c.loop-place-test.false, c.volume_places-place-end.ensures.0) in
    left_done c.loop-place.invariant (rw none refl)
