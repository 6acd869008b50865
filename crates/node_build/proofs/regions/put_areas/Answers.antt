use Rattle.node_build.proofs.RegionLaws.{wrote_as, lists_are, areas_are}
use Rattle.writers.proofs.Laws.{wrote_then}
use native.Mathlib.Omega.{arith}
use Rattle.node_build.proofs.regions.put_areas.Goals as goal

pub returns : goal.returns
returns c = (
  wrote_as (areas_are _ _ _)
      (wrote_then (wrote_then (wrote_then (wrote_then c.put-a.ensures.0 c.put-b.ensures.0) c.put-c.ensures.0) c.put-d.ensures.0) (wrote_as lists_are c.put.ensures.0)),
  omega arith,
)
