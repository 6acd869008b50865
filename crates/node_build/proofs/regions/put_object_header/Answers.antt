use Rattle.node_build.proofs.RegionLaws.{wrote_as, object_is}
use Rattle.writers.proofs.Laws.{wrote_then}
use native.Mathlib.Omega.{arith}
use Rattle.node_build.proofs.regions.put_object_header.Goals as goal

pub returns : goal.returns
returns c = (wrote_as (object_is _) (wrote_then (wrote_then (wrote_then c.put-xid.ensures.0 c.put-obj_type.ensures.0) c.put-subtype.ensures.0) c.put.ensures.0), omega arith)
