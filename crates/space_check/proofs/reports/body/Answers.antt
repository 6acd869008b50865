use Rattle.space_check.proofs.PassLaws.{root_read}
use Rattle.space_check.specs.Check.{body}
use Rattle.report.proofs.StepLaws.{stays_err, stepped_run}
use Rattle.blocks.proofs.Laws.{is_given, is_refused, then_given, then_refused}
use mathlib.Core.Path.{sym}
use Rattle.space_check.proofs.reports.body.Goals as goal

pub audit_and_claim-requires : goal.audit_and_claim-requires
audit_and_claim-requires c = root_read _ _ _ _ _ (is_given _ _ _ _ c.load.ensures _ c.in_ok-parts.was)

pub returns-in_err-parts : goal.returns-in_err-parts
unfolding body
returns-in_err-parts c = stays_err _ _ _ _ (then_refused _ _ _ _ (is_refused _ _ _ _ c.load.ensures _ c.in_err-parts.was)) _ c.from_residual.ensures.1

pub returns : goal.returns
unfolding body
returns c = stepped_run c.audit_and_claim.ensures (sym (then_given _ _ _ _ (is_given _ _ _ _ c.load.ensures _ c.in_ok-parts.was)))
