use Rattle.std.proofs.Common.{sym, refl}
use Rattle.blocks.specs.Reads.{run}
use Rattle.report.proofs.StepLaws.{stepped_is, step_then, step_stop, stays_ok}
use Rattle.free_ring.specs.clauses.Sets.{set_bytes}
use Rattle.free_ring.proofs.AuditLaws.{none_free, walked_free}
use Rattle.free_ring.proofs.SetLaws.{clear_set}
use Rattle.free_ring.proofs.audits.audit_free.Goals as goal

pub returns-then-list-eq-NO_HEAD : goal.returns-then-list-eq-NO_HEAD
unfolding run
returns-then-list-eq-NO_HEAD c = λ f count map. rw c.with_ring.ensures (stepped_is (stays_ok (λ x. x) count map _ refl) (sym (none_free _ _ _ _ _ _ c.if-list-eq-NO_HEAD.true)))

pub in_use-requires : goal.in_use-requires
in_use-requires c = clear_set set_bytes refl

pub returns-in_err-audit : goal.returns-in_err-audit
returns-in_err-audit c = λ f count map. stepped_is (step_stop (c.audit_visited.ensures _ c.in_use.ensures f count map) (λ x. x) _ _ c.in_err-audit.was _ c.from_residual.ensures.1) (walked_free _ _ _ _ _ _ _ c.if-list-eq-NO_HEAD.false c.walk-walked.ensures)

pub returns : goal.returns
returns c = λ f count map. stepped_is (step_then (c.audit_visited.ensures _ c.in_use.ensures f count map) (λ x. x) _ _ c.in_ok-audit.was (c.close_ring.ensures f count map)) (walked_free _ _ _ _ _ _ _ c.if-list-eq-NO_HEAD.false c.walk-walked.ensures)
