use mathlib.Core.Path.{refl}
use borrow.Author.Tests.{ne_eqb}
use Rattle.volumes.specs.Volumes.{is_volume}
use Rattle.volumes.proofs.VolumeLaws.{volume_of_kind}
use Rattle.volumes.proofs.superblocks.is_volume.Goals as goal

pub returns-then-kind-eq-VOLUME : goal.returns-then-kind-eq-VOLUME
returns-then-kind-eq-VOLUME c = volume_of_kind _ _ _ c.kind.ensures c.if-kind-eq-VOLUME.true c.u32_of.ensures.is

pub returns-else-kind-eq-VOLUME : goal.returns-else-kind-eq-VOLUME
unfolding is_volume
returns-else-kind-eq-VOLUME c = rw (← c.kind.ensures, ne_eqb _ 13 c.if-kind-eq-VOLUME.false) refl
