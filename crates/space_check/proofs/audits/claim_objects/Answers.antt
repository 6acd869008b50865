use Rattle.blocks.specs.Blocks.{block_of}
use Rattle.blocks.proofs.Laws.{is_refused, is_given}
use Rattle.space_check.proofs.PassLaws.{objects_undescribed, objects_described}
use Rattle.trees.proofs.ReadLaws.{walk_read}
use Rattle.report.proofs.StepLaws.{stays_err, step_then, step_stop, stepped_ok, stepped_run}
use mathlib.Core.Path.{sym}
use Rattle.space_check.proofs.audits.claim_objects.Goals as goal

pub claim_mappings_and_volumes-requires : goal.claim_mappings_and_volumes-requires
claim_mappings_and_volumes-requires c = walk_read _ _ _ _ _ _ _ (stepped_ok c.walk.ensures _ c.in_ok-log.was)

pub returns-in_err-description : goal.returns-in_err-description
returns-in_err-description c =
    let f = block_of c.args.image.now c.args.checkpoint.container.size in
    stays_err _ _ _ _ (objects_undescribed _ _ _ _ _ _ _ c.requires _ (is_refused _ _ f _ (rw c.block-node.ensures at (c.describe.ensures f)) _ c.in_err-description.was)) _ c.from_residual.ensures.1

pub returns-in_err-log : goal.returns-in_err-log
returns-in_err-log c =
    let f = block_of c.args.image.now c.args.checkpoint.container.size in
    stepped_run (step_stop c.walk.ensures _ _ _ c.in_err-log.was _ c.from_residual-in_err-log.ensures.1)
    (sym (objects_described _ _ _ _ _ _ _ c.requires _ (is_given _ _ f _ (rw c.block-node.ensures at (c.describe.ensures f)) _ c.in_ok-description.was)))

pub returns : goal.returns
returns c =
    let f = block_of c.args.image.now c.args.checkpoint.container.size in
    stepped_run (step_then c.walk.ensures _ _ _ c.in_ok-log.was c.claim_mappings_and_volumes.ensures)
    (sym (objects_described _ _ _ _ _ _ _ c.requires _ (is_given _ _ f _ (rw c.block-node.ensures at (c.describe.ensures f)) _ c.in_ok-description.was)))
