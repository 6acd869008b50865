use Rattle.node_build.proofs.RegionLaws.{sealed_is}
use Rattle.node_build.proofs.build.seal.Goals as goal

pub returns : goal.returns
returns c = sealed_is _ _ _ _ c.put.ensures.0 c.checksum-sum.ensures
