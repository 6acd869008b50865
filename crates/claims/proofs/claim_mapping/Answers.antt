use mathlib.Core.Path.{refl, sym, ◌∙◌}
use Rattle.blocks.specs.Reads.{run}
use Rattle.blocks.proofs.Laws.{is_given, is_refused}
use Rattle.report.proofs.StepLaws.{stays_ok, stays_err, stepped_run}
use Rattle.claims.specs.Claims.{claim_mapping, claim_mapped}
use Rattle.claims.proofs.Laws.{mapping_refused, mapping_deleted, mapping_live}
use Rattle.claims.proofs.claim_mapping.Goals as goal

pub returns-in-None : goal.returns-in-None
unfolding run claim_mapping claim_mapped
returns-in-None c f = rw c.in-None.is (stays_ok _ _ _ _ refl)

pub returns-in_err-address-in-Some : goal.returns-in_err-address-in-Some
returns-in_err-address-in-Some c f =
    stays_err _ _ _ _ (mapping_refused _ _ c.args.node.now c.args.place _ c.in-Some.is f _ (is_refused _ _ f _ (c.mapped_address.ensures f) _ c.in_err-address-in-Some.was)) _ c.from_residual.ensures.1

pub returns-then-is_deleted : goal.returns-then-is_deleted
returns-then-is_deleted c f =
    stays_ok _ _ _ _ (mapping_deleted _ _ _ _ _ c.in-Some.is f _ (is_given _ _ f _ (c.mapped_address.ensures f) _ c.in_ok-address-in-Some.was) (sym c.is_deleted.ensures ∙ c.if-is_deleted.true))

pub returns-else-is_deleted : goal.returns-else-is_deleted
returns-else-is_deleted c f =
    stepped_run (c.claim.ensures f) (sym (mapping_live _ _ _ _ _ c.in-Some.is f _ (is_given _ _ f _ (c.mapped_address.ensures f) _ c.in_ok-address-in-Some.was) (sym c.is_deleted.ensures ∙ c.if-is_deleted.false)))
