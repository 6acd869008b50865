use mathlib.Core.Path.{refl}
use borrow.Author.Tests.{eq-eqb, ne_eqb}
use Rattle.blocks.specs.Reads.{run}
use Rattle.blocks.proofs.Laws.{at_err, at_ok}
use Rattle.volumes.specs.Volumes.{volume_at}
use Rattle.volumes.proofs.ObjectMap.volume_at.Goals as goal

pub returns-then-id-eq0 : goal.returns-then-id-eq0
unfolding volume_at run
returns-then-id-eq0 c = rw (eq-eqb _ 0 c.if-id-eq0.true) refl

pub returns-in_err-volume : goal.returns-in_err-volume
unfolding volume_at
returns-in_err-volume c = rw (ne_eqb _ 0 c.if-id-eq0.false) (at_err _ _ _ _ c.volume_for.ensures _ _ _ c.in_err-volume.was _ c.from_residual.ensures.1)

pub returns : goal.returns
unfolding volume_at run
returns c = rw (ne_eqb _ 0 c.if-id-eq0.false) (at_ok _ _ _ _ c.volume_for.ensures _ _ c.in_ok-volume.was _ refl)
