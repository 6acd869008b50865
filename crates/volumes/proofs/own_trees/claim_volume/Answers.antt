use Rattle.report.proofs.StepLaws.{step_stop, step_then, read_stop, read_then}
use Rattle.volumes.specs.Volumes.{claim_volume}
use Rattle.volumes.proofs.own_trees.claim_volume.Goals as goal

pub returns-in_err-log : goal.returns-in_err-log
unfolding claim_volume
returns-in_err-log c = rw (← c.u64_of-at.ensures.is) (step_stop (c.claim.ensures _) _ _ _ c.in_err-log.was _ c.from_residual.ensures.1)

pub returns-in_err-root : goal.returns-in_err-root
unfolding claim_volume
returns-in_err-root c = rw (← c.u64_of-at.ensures.is) (step_then (c.claim.ensures _) _ _ _ c.in_ok-log.was (read_stop _ _ _ c.read_map.ensures _ c.in_err-root.was c.from_residual-in_err-root.ensures.1))

pub returns-in_err-log-2 : goal.returns-in_err-log-2
unfolding claim_volume
returns-in_err-log-2 c = rw (← c.u64_of-at.ensures.is) (step_then (c.claim.ensures _) _ _ _ c.in_ok-log.was (read_then _ _ _ c.read_map.ensures _ c.in_ok-root.was (step_stop c.claim_tree.ensures _ _ _ c.in_err-log-2.was _ c.from_residual-in_err-log-2.ensures.1)))

pub returns-in_err-log-3 : goal.returns-in_err-log-3
unfolding claim_volume
returns-in_err-log-3 c =
    rw (← c.u64_of-at.ensures.is, ← c.u64_of.ensures.is)
    (step_then (c.claim.ensures _) _ _ _ c.in_ok-log.was (read_then _ _ _ c.read_map.ensures _ c.in_ok-root.was (step_then c.claim_tree.ensures _ _ _ c.in_ok-log-2.was (step_stop c.claim_tree-2.ensures _ _ _ c.in_err-log-3.was _ c.from_residual-in_err-log-3.ensures.1))))

pub returns : goal.returns
unfolding claim_volume
returns c =
    rw (← c.u64_of-at.ensures.is, ← c.u64_of.ensures.is)
    (step_then (c.claim.ensures _) _ _ _ c.in_ok-log.was (read_then _ _ _ c.read_map.ensures _ c.in_ok-root.was (step_then c.claim_tree.ensures _ _ _ c.in_ok-log-2.was (step_then c.claim_tree-2.ensures _ _ _ c.in_ok-log-3.was c.claim_snapshots.ensures))))
