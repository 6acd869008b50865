use Rattle.interface.proofs.NodeLaws.{numbered}
use Rattle.interface.proofs.build_node.Goals as goal

pub returns : goal.returns
returns c = let a = c.args in
    numbered a.node.now (record { oid = a.oid; xid = a.xid; obj_type = a.obj_type; subtype = a.subtype; level = a.level; root = a.root }) a.info.now a.parts.now a.lengths.now c.sizes_of-sizes.ensures c.build-built.ensures c.built_number.ensures
