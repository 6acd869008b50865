use native.Mathlib.Omega.{arith}
use mathlib.Core.Path.{refl}
use borrow.Author.Tests.{eq-eqb, ne_eqb}
use Rattle.blocks.specs.Reads.{run}
use Rattle.report.proofs.StepLaws.{stays_ok}
use Rattle.volumes.specs.Volumes.{claim_snapshots}
use Rattle.volumes.proofs.own_trees.claim_snapshots.Goals as goal

pub returns-then-root-eq0 : goal.returns-then-root-eq0
unfolding claim_snapshots run
returns-then-root-eq0 c = stays_ok _ _ _ _ (rw (← c.u64_of-root.ensures.is, eq-eqb c.u64_of-root.result 0 (omega (arith, c.if-root-eq0.true))) refl)

pub returns : goal.returns
unfolding claim_snapshots
returns c = rw (← c.u64_of-root.ensures.is, ne_eqb c.u64_of-root.result 0 c.if-root-eq0.false) c.claim_tree.ensures
