use Rattle.node_build.proofs.RegionLaws.{taken_none, taken_some}
use Rattle.node_build.proofs.request.value_length.Goals as goal

pub returns-then-stated-eq-GHOST : goal.returns-then-stated-eq-GHOST
returns-then-stated-eq-GHOST c = taken_none _ c.if-stated-eq-GHOST.true

pub returns-else-stated-eq-GHOST : goal.returns-else-stated-eq-GHOST
returns-else-stated-eq-GHOST c = taken_some _ c.if-stated-eq-GHOST.false
