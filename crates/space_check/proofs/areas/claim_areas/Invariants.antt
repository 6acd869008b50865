use Rattle.report.proofs.StepLaws.{Left}
use Prim.Native.Nat.{◌-◌}
use Rattle.space_check.specs.clauses.Stages.{areas_from}
use Rattle.claims.specs.clauses.Answers.{owned}
use Rattle.manager.specs.clauses.Place.{placed}
use Rattle.blocks.specs.Blocks.{block_of}
use Rattle.space_check.proofs.areas.claim_areas.Given as goal

abbrev pub invariant-loop-kind : goal.invariant-loop-kind
invariant-loop-kind l = Left (block_of l.image l.container.size) l.container.count (record { next = 1; left = 6 }) (record { next = l.kind; left = 7 - l.kind }) (owned l.initial.map l.initial.log) (owned l.map l.log) (λ to. areas_from l.container l.sb (placed (block_of l.image l.container.size) l.container.size l.manager) to.left to.next)
