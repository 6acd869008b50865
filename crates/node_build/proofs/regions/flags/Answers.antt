use Rattle.node_build.proofs.RegionLaws.{flags_are}
use Rattle.node_build.proofs.regions.flags.Goals as goal

pub returns : goal.returns
returns c = flags_are _ _ _ _ _ _ c.is_leaf.ensures c.flag-root.ensures.0 c.flag-leaf.ensures.0 c.fixed_flag.ensures.0
