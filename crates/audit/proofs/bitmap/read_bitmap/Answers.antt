use Rattle.std.proofs.Common.{sym, ◌∙◌}
use Rattle.blocks.proofs.Laws.{is_given}
use Rattle.report.proofs.StepLaws.{read_then, read_stop, need_then, need_stop}
use Rattle.audit.specs.Audit.{read_bitmap, tally_bitmap}
use Rattle.audit.proofs.Laws.{raw_below, entered}
use Rattle.audit.proofs.bitmap.read_bitmap.Goals as goal

pub returns-in_err-bits : goal.returns-in_err-bits
unfolding read_bitmap
returns-in_err-bits c = read_stop _ _ _ c.raw_block.ensures.block _ c.in_err-bits.was c.from_residual.ensures.1

pub returns-then-not-has_bits : goal.returns-then-not-has_bits
unfolding read_bitmap
returns-then-not-has_bits c = read_then _ _ _ c.raw_block.ensures.block _ c.in_ok-bits.was (need_stop _ _ _ (sym c.has_bits.ensures ∙ c.if-not-has_bits.true))

pub returns : goal.returns
unfolding read_bitmap
returns c =
    let below = raw_below _ _ _ _ (is_given _ _ _ _ c.raw_block.ensures.block _ c.in_ok-bits.was) in
    let tallied = entered (tally_bitmap _ _ _) (c.tally_bitmap.ensures _) c.use_block.ensures below in
    read_then _ _ _ c.raw_block.ensures.block _ c.in_ok-bits.was (need_then _ _ _ (sym c.has_bits.ensures ∙ c.if-not-has_bits.false) tallied)
