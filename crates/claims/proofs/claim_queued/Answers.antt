use Rattle.report.proofs.StepLaws.{read_then, read_stop}
use Rattle.claims.specs.Claims.{claim_queued}
use Rattle.claims.proofs.claim_queued.Goals as goal

pub returns-in_err-run : goal.returns-in_err-run
unfolding claim_queued
returns-in_err-run c f = read_stop _ _ _ (c.run_of.ensures f) _ c.in_err-run.was c.from_residual.ensures.1

pub returns : goal.returns
unfolding claim_queued
returns c f = read_then _ _ _ (c.run_of.ensures f) _ c.in_ok-run.was (c.claim.ensures f)
