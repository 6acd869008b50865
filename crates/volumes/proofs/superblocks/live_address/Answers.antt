use mathlib.Core.Path.{sym, ap, ◌∙◌}
use mathlib.Core.Bool.{not}
use Rattle.blocks.specs.Reads.{run}
use Rattle.blocks.proofs.Laws.{at_err, at_ok, need_false, need_true}
use Rattle.volumes.specs.Volumes.{live_address}
use Rattle.volumes.proofs.superblocks.live_address.Goals as goal

pub returns-in_err-address : goal.returns-in_err-address
unfolding live_address
returns-in_err-address c = λ f. at_err _ _ f _ (c.field_in.ensures f) _ _ _ c.in_err-address.was _ c.from_residual.ensures.1

pub returns-then-is_deleted : goal.returns-then-is_deleted
unfolding live_address
returns-then-is_deleted c = λ f. at_ok _ _ f _ (c.field_in.ensures f) _ _ c.in_ok-address.was _ (sym (need_false f _ _ _ (ap not (sym c.is_deleted.ensures ∙ c.if-is_deleted.true))))

pub returns-else-is_deleted : goal.returns-else-is_deleted
unfolding live_address run
returns-else-is_deleted c = λ f. at_ok _ _ f _ (c.field_in.ensures f) _ _ c.in_ok-address.was _ (sym (need_true f _ _ _ (ap not (sym c.is_deleted.ensures ∙ c.if-is_deleted.false))))
