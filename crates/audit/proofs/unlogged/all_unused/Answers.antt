use Rattle.std.proofs.Common.{refl, sym, ◌∙◌}
use Rattle.pool.proofs.Laws.{block_part}
use Rattle.audit.proofs.UnloggedLaws.{unused_done, unused_used, unused_unmarked, unused_more}
use Rattle.audit.proofs.unlogged.all_unused.Goals as goal

pub returns-then-used_at : goal.returns-then-used_at
returns-then-used_at c = sym (unused_used _ _ _ _ _ c.loop-block-test.true (sym c.used_at.ensures ∙ c.if-used_at.true)) ∙ c.loop-block.invariant

pub marked_near-requires : goal.marked_near-requires
marked_near-requires c = block_part _ _ _ _ _ refl _ c.bitmap_block-part.ensures

pub returns-then-not-marked_near : goal.returns-then-not-marked_near
returns-then-not-marked_near c =
    let unmarked = sym c.marked_near.ensures ∙ c.if-not-marked_near.true in
    sym (unused_unmarked _ _ _ _ _ c.loop-block-test.true (sym c.used_at.ensures ∙ c.if-used_at.false) unmarked) ∙ c.loop-block.invariant

pub loop-block-preserved : goal.loop-block-preserved
loop-block-preserved c =
    let marked = sym c.marked_near.ensures ∙ c.if-not-marked_near.false in
    sym (unused_more _ _ _ _ _ c.loop-block-test.true (sym c.used_at.ensures ∙ c.if-used_at.false) marked) ∙ c.loop-block.invariant

pub returns : goal.returns
returns c = sym (unused_done _ _ _ _ _ c.loop-block-test.false) ∙ c.loop-block.invariant
