use mathlib.Core.Path.{sym, ◌∙◌}
use Rattle.blocks.proofs.Laws.{at_err, at_ok, is_given, need_false}
use Rattle.volumes.specs.Volumes.{read_volume}
use Rattle.volumes.proofs.VolumeLaws.{volume_read}
use Rattle.volumes.proofs.superblocks.read_volume.Goals as goal

pub returns-in_err-object : goal.returns-in_err-object
unfolding read_volume
returns-in_err-object c = at_err _ _ _ _ c.object_block.ensures _ _ _ c.in_err-object.was _ c.from_residual.ensures.1

pub returns-then-is_volume : goal.returns-then-is_volume
returns-then-is_volume c = sym (volume_read _ _ _ _ (is_given _ _ _ _ c.object_block.ensures _ c.in_ok-object.was) (sym c.is_volume.ensures ∙ c.if-is_volume.true))

pub returns-else-is_volume : goal.returns-else-is_volume
unfolding read_volume
returns-else-is_volume c = at_ok _ _ _ _ c.object_block.ensures _ _ c.in_ok-object.was _ (sym (need_false _ _ _ _ (sym c.is_volume.ensures ∙ c.if-is_volume.false)))
