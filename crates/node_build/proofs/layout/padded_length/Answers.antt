use Rattle.node_build.proofs.RegionLaws.{padded_packed, padded_eights}
use native.Mathlib.Omega.{arith}
use Rattle.node_build.proofs.layout.padded_length.Goals as goal

pub returns-then-packed : goal.returns-then-packed
returns-then-packed c = (padded_packed _ _ c.if-packed.true, omega arith, omega arith)

pub returns-else-packed : goal.returns-else-packed
returns-else-packed c = (padded_eights _ _ c.if-packed.false _ c.in_eights.ensures.0, c.in_eights.ensures.1, c.in_eights.ensures.2)
