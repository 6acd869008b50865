use Rattle.node_build.proofs.RegionLaws.{wrote_as}
use Rattle.writers.proofs.Laws.{wrote_then}
use native.Mathlib.Omega.{arith}
use mathlib.Core.Path.{ap}
use Rattle.node_build.specs.Build.{areas}
use Rattle.node_build.proofs.regions.put_headers.Goals as goal

pub returns : goal.returns
returns c = let a = c.args in (
  wrote_then (wrote_then c.put_object_header-shape.ensures.0 c.put_shape-areas.ensures.0) (wrote_as (ap (λ n. areas a.plan.table a.plan.keys n) c.free_length-free.ensures) c.put_areas.ensures.0),
  omega (arith, c.put_areas.ensures.1, c.put_shape-areas.ensures.1, c.put_object_header-shape.ensures.1),
)
