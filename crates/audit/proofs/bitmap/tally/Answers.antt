use Rattle.std.proofs.Common.{refl}
use Rattle.blocks.specs.Reads.{run}
use Rattle.report.proofs.StepLaws.{stays_ok, read_then, read_stop}
use Rattle.audit.specs.Audit.{tally}
use Rattle.audit.proofs.bitmap.tally.Goals as goal

pub returns-in_err-free : goal.returns-in_err-free
unfolding tally
returns-in_err-free c = λ f count map. read_stop _ _ _ (c.add.ensures f) _ c.in_err-free.was c.from_residual.ensures.1

pub returns-in_err-wrong : goal.returns-in_err-wrong
unfolding tally
returns-in_err-wrong c = λ f count map. read_then _ _ _ (c.add.ensures f) _ c.in_ok-free.was (rw (← c.differing.ensures) (read_stop _ _ _ (c.add-2.ensures f) _ c.in_err-wrong.was c.from_residual-in_err-wrong.ensures.1))

pub returns : goal.returns
unfolding run tally
returns c = λ f count map. read_then _ _ _ (c.add.ensures f) _ c.in_ok-free.was (rw (← c.differing.ensures, c.with_counts.ensures) (read_then _ _ _ (c.add-2.ensures f) _ c.in_ok-wrong.was (stays_ok (λ x. x) count map _ refl)))
