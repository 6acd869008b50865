use Rattle.space_check.specs.Check.{claim_mappings_and_volumes}
use Rattle.report.proofs.StepLaws.{step_then, step_stop, stepped_is}
use Rattle.space_check.proofs.PassLaws.{volumes_of}
use Rattle.space_check.proofs.audits.claim_mappings_and_volumes.Goals as goal

pub returns-in_err-log : goal.returns-in_err-log
unfolding claim_mappings_and_volumes
returns-in_err-log c = step_stop c.claim_mappings.ensures _ _ _ c.in_err-log.was _ c.from_residual.ensures.1

pub returns : goal.returns
unfolding claim_mappings_and_volumes
returns c = step_then c.claim_mappings.ensures _ _ _ c.in_ok-log.was (stepped_is c.claim_volumes.ensures (volumes_of _ _ _ _ _ _ c.block-sb.ensures))
