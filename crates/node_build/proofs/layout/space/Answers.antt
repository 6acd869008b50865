use Rattle.node_build.proofs.RegionLaws.{space_root, space_other}
use native.Mathlib.Omega.{arith}
use Rattle.node_build.proofs.layout.space.Goals as goal

pub returns-then-root : goal.returns-then-root
returns-then-root c = (space_root _ _ c.if-root.true, omega arith)

pub returns-else-root : goal.returns-else-root
returns-else-root c = (space_other _ _ c.if-root.false, omega arith)
