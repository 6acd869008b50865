use Rattle.node_build.proofs.RegionLaws.{packed_is}
use Rattle.node_build.proofs.layout.is_packed.Goals as goal

pub returns : goal.returns
returns c = packed_is _ _ _ c.u32_of.ensures.is c.has_bit.ensures
