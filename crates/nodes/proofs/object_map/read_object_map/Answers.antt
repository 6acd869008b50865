use Rattle.blocks.proofs.Laws.{at_err, at_ok}
use Rattle.nodes.specs.ObjectMap.{read_object_map}
use Rattle.nodes.proofs.Laws.{map_kind, map_stored, map_root}
use Rattle.nodes.proofs.object_map.read_object_map.Goals as goal

pub returns-in_err-object : goal.returns-in_err-object
unfolding read_object_map
returns-in_err-object c = at_err _ _ _ _ c.object_block.ensures _ _ _ c.in_err-object.was _ c.from_residual.ensures.1

pub returns-then-kind-ne-OBJECT_MAP : goal.returns-then-kind-ne-OBJECT_MAP
unfolding read_object_map
returns-then-kind-ne-OBJECT_MAP c = at_ok _ _ _ _ c.object_block.ensures _ _ c.in_ok-object.was _ (map_kind _ _ _ c.kind.ensures _ c.if-kind-ne-OBJECT_MAP.true)

pub returns-then-u32_of-ne-PHYSICAL : goal.returns-then-u32_of-ne-PHYSICAL
unfolding read_object_map
returns-then-u32_of-ne-PHYSICAL c = at_ok _ _ _ _ c.object_block.ensures _ _ c.in_ok-object.was _ (map_stored _ _ _ c.kind.ensures c.if-kind-ne-OBJECT_MAP.false _ c.u32_of.ensures.is c.if-u32_of-ne-PHYSICAL.true)

pub returns : goal.returns
unfolding read_object_map
returns c = at_ok _ _ _ _ c.object_block.ensures _ _ c.in_ok-object.was _ (map_root _ _ _ c.kind.ensures c.if-kind-ne-OBJECT_MAP.false _ c.u32_of.ensures.is c.if-u32_of-ne-PHYSICAL.false _ c.u64_of.ensures.is)
