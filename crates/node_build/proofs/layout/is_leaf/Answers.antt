use Rattle.node_build.proofs.RegionLaws.{leaf_is}
use Rattle.node_build.proofs.layout.is_leaf.Goals as goal

pub returns : goal.returns
returns c = leaf_is _
