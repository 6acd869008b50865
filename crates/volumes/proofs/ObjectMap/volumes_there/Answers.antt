use native.Mathlib.Omega.{arith}
use mathlib.Core.Path.{◌≡◌, refl, ap, ◌∙◌}
use Prim.Native.Nat.{◌-◌}
use Rattle.blocks.specs.Reads.{run}
use Rattle.blocks.proofs.Laws.{at_err, at_ok}
use Rattle.checkpoint.specs.Superblock.{volume_places}
use Rattle.volumes.specs.clauses.Answers.{there_from}
use Rattle.volumes.proofs.VolumeLaws.{there_next}
use Rattle.volumes.proofs.ObjectMap.volumes_there.Goals as goal

pub returns-in_err-volume_at : goal.returns-in_err-volume_at
returns-in_err-volume_at c = at_err _ _ _ _ (rw c.volume_id.ensures at c.volume_at.ensures) _ _ _ c.in_err-volume_at.was _ c.from_residual.ensures.1 ∙ (ap (run _) (there_next _ _ _ _ _ _ (rw c.volume_places-place-end.ensures.0 at c.loop-place-test.true)) ∙ c.loop-place.invariant)

pub loop-place-preserved : goal.loop-place-preserved
loop-place-preserved c = at_ok _ _ _ _ (rw c.volume_id.ensures at c.volume_at.ensures) _ _ c.in_ok-volume_at.was _ refl ∙ (ap (run _) (there_next _ _ _ _ _ _ (rw c.volume_places-place-end.ensures.0 at c.loop-place-test.true)) ∙ c.loop-place.invariant)

pub returns : goal.returns
unfolding there_from run
returns c =
    let none : volume_places c.args.sb.now - c.loop-place.place ≡ 0 = omega (arith, c.loop-place-test.false, c.volume_places-place-end.ensures.0) in
    rw none at c.loop-place.invariant
