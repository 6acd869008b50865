use Rattle.std.proofs.Common.{sym, arith, ◌∙◌}
use Rattle.blocks.proofs.Laws.{then_refused}
use Rattle.report.specs.Report.{add_overlap}
use Rattle.report.proofs.Laws.{note_room, note_full, overlap_room, overlap_added, overlap_err}
use Rattle.report.proofs.StepLaws.{passed_on}
use Rattle.report.proofs.logs.add_overlap.Goals.{then-overlaps, else-overlaps}
use Rattle.report.proofs.logs.add_overlap.Goals as goal

pub returns-in_err-add : goal.returns-in_err-add
unfolding add_overlap
returns-in_err-add c = λ f. passed_on _ _ _ c.from_residual.ensures.1 ∙ sym (then_refused f _ _ _ (overlap_err c.args.log _ c.overlap_total-overlaps.ensures _ f (c.add.ensures f) _ c.in_err-add.was))

pub count_claimant-claimants-requires : goal.count_claimant-claimants-requires
count_claimant-claimants-requires c =
    omega (arith, overlap_room c.args.log _ c.overlap_total-overlaps.ensures _ _ (c.add.ensures (λ n. c.args.log.claimants)) _ c.in_ok-add.was, c.overlap_total-overlaps.ensures)

pub returns : goal.returns
returns c = λ f.
    overlap_added c.args.log _ c.overlap_total-overlaps.ensures _ f (c.add.ensures f) c.args.overlap _ c.in_ok-add.was _ c.count_claimant-claimants.ensures _
    (elim c.if-overlaps.branch [ then-overlaps w ↦ w.first-is ∙ sym (note_room _ _ _ w.if-overlaps.true) | else-overlaps w ↦ w.first-is ∙ sym (note_full _ _ _ w.if-overlaps.false) ])
