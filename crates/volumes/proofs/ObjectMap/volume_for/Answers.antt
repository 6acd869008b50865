use Rattle.blocks.proofs.Laws.{at_err, at_ok}
use Rattle.volumes.specs.Volumes.{volume_for}
use Rattle.volumes.proofs.ObjectMap.volume_for.Goals as goal

pub returns-in_err-address : goal.returns-in_err-address
unfolding volume_for
returns-in_err-address c = at_err _ _ _ _ c.address_for.ensures _ _ _ c.in_err-address.was _ c.from_residual.ensures.1

pub returns : goal.returns
unfolding volume_for
returns c = at_ok _ _ _ _ c.address_for.ensures _ _ c.in_ok-address.was _ c.read_volume.ensures
