use Rattle.report.proofs.StepLaws.{step_then, step_stop}
use Rattle.audit.specs.Audit.{tally_bitmap}
use Rattle.audit.proofs.bitmap.tally_bitmap.Goals as goal

pub returns-in_err-zeros : goal.returns-in_err-zeros
unfolding tally_bitmap
returns-in_err-zeros c = λ f. step_stop (c.mark_bits.ensures f) (λ x. x) _ _ c.in_err-zeros.was _ c.from_residual.ensures.1

pub returns : goal.returns
unfolding tally_bitmap
returns c = λ f. step_then (c.mark_bits.ensures f) (λ x. x) _ _ c.in_ok-zeros.was (c.tally.ensures f _ _)
