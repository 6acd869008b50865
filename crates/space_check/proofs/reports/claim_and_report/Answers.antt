use Rattle.space_check.proofs.PassLaws.{made}
use Rattle.space_check.specs.Check.{claim_and_report}
use Rattle.report.proofs.StepLaws.{step_stop}
use Rattle.space_check.proofs.reports.claim_and_report.Goals as goal

pub returns-in_err-log : goal.returns-in_err-log
unfolding claim_and_report
returns-in_err-log c = step_stop c.claim_all.ensures _ _ _ c.in_err-log.was _ c.from_residual.ensures.1

pub returns : goal.returns
unfolding claim_and_report
returns c = made c.claim_all.ensures _ _ _ c.in_ok-log.was c.report_of.ensures
