use Rattle.node_build.proofs.RegionLaws.{offset_none, offset_some}
use Rattle.node_build.proofs.regions.offset_for.Goals as goal

pub returns-then-stated-eq-GHOST : goal.returns-then-stated-eq-GHOST
returns-then-stated-eq-GHOST c = offset_none _ c.if-stated-eq-GHOST.true _

pub returns-else-stated-eq-GHOST : goal.returns-else-stated-eq-GHOST
returns-else-stated-eq-GHOST c = offset_some _ c.if-stated-eq-GHOST.false _
