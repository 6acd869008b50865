use Rattle.blocks.proofs.Laws.{is_refused}
use Rattle.report.proofs.StepLaws.{stays_err, read_then, stepped_run}
use Rattle.volumes.proofs.ClaimLaws.{there_refused, volumes_refused, volumes_again}
use Rattle.volumes.proofs.own_trees.claim_volumes.Goals as goal

pub returns-in_err-volumes_there : goal.returns-in_err-volumes_there
returns-in_err-volumes_there c = stays_err _ _ _ _ (volumes_refused _ _ _ _ _ _ _ (there_refused _ _ _ _ _ _ _ _ (is_refused _ _ _ _ c.volumes_there.ensures _ c.in_err-volumes_there.was))) _ c.from_residual.ensures.1

pub returns : goal.returns
returns c = stepped_run (read_then _ _ _ c.volumes_there.ensures _ c.in_ok-volumes_there.was c.claim_each.ensures) (volumes_again _ _ _ _ _ _)
