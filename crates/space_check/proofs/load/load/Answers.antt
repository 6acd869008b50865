use Rattle.blocks.proofs.Laws.{at_err, at_ok}
use Rattle.checkpoint.specs.Superblock.{object_map_address}
use Rattle.space_check.specs.Check.{load_parts}
use Rattle.space_check.proofs.PassLaws.{map_same}
use mathlib.Core.Path.{ap, ◌∙◌}
use Rattle.space_check.proofs.load.load.Goals as goal

pub returns-in_err-root : goal.returns-in_err-root
unfolding load_parts
returns-in_err-root c = at_err _ _ _ _ (c.load_object_map.ensures ∙ map_same _ _ _ _ (c.object_map_address-map.ensures ∙ ap object_map_address c.block-sb.ensures)) _ _ _ c.in_err-root.was _ c.from_residual.ensures.1

pub returns : goal.returns
unfolding load_parts
returns c = at_ok _ _ _ _ (c.load_object_map.ensures ∙ map_same _ _ _ _ (c.object_map_address-map.ensures ∙ ap object_map_address c.block-sb.ensures)) _ _ c.in_ok-root.was _ c.load_manager.ensures
