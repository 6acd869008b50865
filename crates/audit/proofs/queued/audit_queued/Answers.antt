use Rattle.std.proofs.Common.{sym, ◌∙◌}
use Rattle.report.proofs.StepLaws.{read_then, read_stop, need_then, need_stop}
use Rattle.audit.specs.Audit.{audit_queued}
use Rattle.audit.proofs.queued.audit_queued.Goals as goal

pub returns-in_err-run : goal.returns-in_err-run
unfolding audit_queued
returns-in_err-run c = read_stop _ _ _ (c.run_of.ensures _) _ c.in_err-run.was c.from_residual.ensures.1

pub returns-then-not-has_run : goal.returns-then-not-has_run
unfolding audit_queued
returns-then-not-has_run c = read_then _ _ _ (c.run_of.ensures _) _ c.in_ok-run.was (need_stop _ _ _ (sym c.has_run.ensures ∙ c.if-not-has_run.true))

pub returns : goal.returns
unfolding audit_queued
returns c = read_then _ _ _ (c.run_of.ensures _) _ c.in_ok-run.was (need_then _ _ _ (sym c.has_run.ensures ∙ c.if-not-has_run.false) c.audit_run.ensures)
