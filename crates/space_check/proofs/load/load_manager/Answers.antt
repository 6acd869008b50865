use Rattle.blocks.proofs.Laws.{at_err, at_ok}
use Rattle.checkpoint.specs.clauses.InPlace.{mapped_in}
use Rattle.manager.specs.Manager.{manager}
use Rattle.space_check.specs.Check.{manager_part}
use Rattle.space_check.proofs.PassLaws.{manager_same}
use mathlib.Core.Path.{◌∙◌}
use Rattle.space_check.proofs.load.load_manager.Goals as goal

pub returns-in_err-manager : goal.returns-in_err-manager
unfolding manager_part
returns-in_err-manager c = at_err _ _ _ _ (c.load.ensures ∙ manager_same _ _ _ (mapped_in _ c.args.checkpoint) _ c.block-sb.ensures _ (c.lookup-mapped.ensures ∙ rw c.manager_id-id.ensures)) _ _ _ c.in_err-manager.was _ c.from_residual.ensures.1

pub returns : goal.returns
unfolding manager_part
returns c = at_ok _ _ _ _ (c.load.ensures ∙ manager_same _ _ _ (mapped_in _ c.args.checkpoint) _ c.block-sb.ensures _ (c.lookup-mapped.ensures ∙ rw c.manager_id-id.ensures)) _ _ c.in_ok-manager.was _ c.load_pool.ensures
