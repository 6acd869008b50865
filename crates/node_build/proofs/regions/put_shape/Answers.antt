use Rattle.node_build.proofs.RegionLaws.{wrote_as, shape_is}
use Rattle.writers.proofs.Laws.{wrote_then}
use native.Mathlib.Omega.{arith}
use Rattle.node_build.proofs.regions.put_shape.Goals as goal

pub returns : goal.returns
returns c = (wrote_as (shape_is _ _ _ _ c.flags.ensures) (wrote_then (wrote_then c.put-level.ensures.0 c.put-keys.ensures.0) c.put.ensures.0), omega arith)
