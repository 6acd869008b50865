use Prim.Native.Nat.{◌-◌}
use Rattle.blocks.specs.Blocks.{block_of}
use Rattle.checkpoint.specs.Superblock.{volume_places}
use Rattle.claims.specs.clauses.Answers.{owned}
use Rattle.report.proofs.StepLaws.{Left}
use Rattle.volumes.specs.clauses.Answers.{places_left}
use Rattle.volumes.proofs.own_trees.claim_each.Given as goal

abbrev pub invariant-loop-place : goal.invariant-loop-place
invariant-loop-place l =
    let f = block_of l.image l.objects.container.size in
    let n = volume_places l.sb in
    Left f l.objects.container.count (record { next = 0; left = n }) (record { next = l.place; left = n - l.place }) (owned l.initial.map l.initial.log) (owned l.map l.log) (λ at. places_left l.objects l.sb at f)
