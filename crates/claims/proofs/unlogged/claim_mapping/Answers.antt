use mathlib.Core.Path.{refl, sym, ◌∙◌}
use Rattle.blocks.specs.Reads.{run, no_blocks}
use Rattle.blocks.proofs.Laws.{is_given, is_refused}
use Rattle.block_map.proofs.Laws.{kept_same, not_made, was_made}
use Rattle.claims.specs.Claims.{claim_mapping, claim_mapped}
use Rattle.claims.specs.clauses.Unlogged.{unlogged_mapped}
use Rattle.claims.proofs.Laws.{mapping_deleted}
use Rattle.claims.proofs.UnloggedLaws.{made_then, deleted_alone, address_there}
use Rattle.claims.proofs.unlogged.claim_mapping.Goals as goal

pub returns-in_default : goal.returns-in_default
unfolding run claim_mapping claim_mapped unlogged_mapped
returns-in_default c = rw c.in_default.is (refl, λ f. was_made (λ log. refl) (kept_same _ _))

pub returns-in_default-mapped_address : goal.returns-in_default-mapped_address
unfolding unlogged_mapped
returns-in_default-mapped_address c = (rw (c.in-Some.is, is_refused _ _ no_blocks _ (c.mapped_address.ensures no_blocks) _ c.in_default-mapped_address.is) refl, λ f. not_made)

pub returns-then-is_deleted : goal.returns-then-is_deleted
returns-then-is_deleted c =
    let gone = sym c.is_deleted.ensures ∙ c.if-is_deleted.true in (
      deleted_alone _ _ _ _ _ c.in-Some.is _ (is_given _ _ no_blocks _ (c.mapped_address.ensures no_blocks) _ c.in-Ok.is) gone,
      λ f. was_made (λ log. mapping_deleted _ _ _ _ _ c.in-Some.is f _ (is_given _ _ f _ (c.mapped_address.ensures f) _ c.in-Ok.is) gone) (kept_same _ _),
    )

pub returns : goal.returns
unfolding claim_mapping claim_mapped
returns c =
    let live = sym c.is_deleted.ensures ∙ c.if-is_deleted.false in (
      c.claim_unlogged.ensures.0 ∙ address_there _ _ _ _ _ c.in-Some.is _ (is_given _ _ no_blocks _ (c.mapped_address.ensures no_blocks) _ c.in-Ok.is) live,
      λ f. rw c.in-Some.is (made_then _ _ _ c.mapped_address.ensures _ c.in-Ok.is (rw live (c.claim_unlogged.ensures.1 f))),
    )
