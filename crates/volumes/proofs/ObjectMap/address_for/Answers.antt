use mathlib.Core.Path.{sym, ap, ◌∙◌}
use Rattle.blocks.specs.Reads.{refused, run}
use Rattle.blocks.proofs.Laws.{at_err, at_ok}
use Rattle.report.proofs.StepLaws.{passed_on}
use Rattle.volumes.specs.Volumes.{address_for, volume_address}
use Rattle.volumes.proofs.VolumeLaws.{or_none, or_some}
use Rattle.volumes.proofs.ObjectMap.address_for.Goals as goal

pub returns-in_err-lookup : goal.returns-in_err-lookup
unfolding address_for
returns-in_err-lookup c = at_err _ _ _ _ c.lookup.ensures _ _ _ c.in_err-lookup.was _ c.from_residual.ensures.1

pub returns-in_err-entry : goal.returns-in_err-entry
unfolding address_for volume_address run
returns-in_err-entry c =
    let none = or_none _ _ (sym c.ok_or.ensures.value ∙ c.in_err-entry.was) in
    passed_on _ _ _ c.from_residual-in_err-entry.ensures.1 ∙ at_ok _ _ _ _ c.lookup.ensures _ _ c.in_ok-lookup.was _ (rw none.0 (ap refused none.1))

pub returns : goal.returns
unfolding address_for volume_address
returns c = at_ok _ _ _ _ c.lookup.ensures _ _ c.in_ok-lookup.was _ (rw (or_some _ _ (sym c.ok_or.ensures.value ∙ c.in_ok-entry.was), ← c.block-node.ensures) (c.mapped_by.ensures _))
