use mathlib.Core.Path.{sym, ap, ◌∙◌}
use borrow.Author.Tests.{eq-eqb, ne_eqb}
use Rattle.blocks.specs.Reads.{refused, run}
use Rattle.blocks.proofs.Laws.{at_err, at_ok, need_false, need_true}
use Rattle.report.proofs.StepLaws.{passed_on}
use Rattle.volumes.specs.Volumes.{mapped_by}
use Rattle.volumes.proofs.VolumeLaws.{or_none, or_some}
use Rattle.volumes.proofs.superblocks.mapped_by.Goals as goal

pub returns-in_err-value : goal.returns-in_err-value
unfolding mapped_by run
returns-in_err-value c =
    let ghost = or_none _ _ (sym c.ok_or.ensures.value ∙ c.in_err-value.was) in
    λ f. passed_on _ _ _ c.from_residual.ensures.1 ∙ rw ghost.0 (ap refused ghost.1)

pub returns-in_err-field_in : goal.returns-in_err-field_in
unfolding mapped_by
returns-in_err-field_in c = λ f. rw (or_some _ _ (sym c.ok_or.ensures.value ∙ c.in_ok-value.was)) (at_err _ _ f _ (c.field_in.ensures f) _ _ _ c.in_err-field_in.was _ c.from_residual-in_err-field_in.ensures.1)

pub returns-then-branch-id : goal.returns-then-branch-id
unfolding mapped_by
returns-then-branch-id c = λ f. rw (or_some _ _ (sym c.ok_or.ensures.value ∙ c.in_ok-value.was)) (at_ok _ _ f _ (c.field_in.ensures f) _ _ c.in_ok-field_in.was _ (c.live_address.ensures f ∙ sym (need_true f _ _ _ (eq-eqb _ _ c.if-branch-id.true))))

pub returns-else-branch-id : goal.returns-else-branch-id
unfolding mapped_by
returns-else-branch-id c = λ f. rw (or_some _ _ (sym c.ok_or.ensures.value ∙ c.in_ok-value.was)) (at_ok _ _ f _ (c.field_in.ensures f) _ _ c.in_ok-field_in.was _ (sym (need_false f _ _ _ (ne_eqb _ _ c.if-branch-id.false))))
