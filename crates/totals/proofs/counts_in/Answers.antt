use mathlib.Core.Path.{sym, ◌∙◌}
use Rattle.block_map.specs.BlockMap.{is_used}
use Rattle.block_map.proofs.Rows.{greatest_more, greatest_done}
use Rattle.totals.specs.clauses.Counting.{lost_kind}
use Rattle.totals.specs.Totals.{is_leaked}
use Rattle.totals.proofs.Laws.{counted_fits, count_more, count_done}
use Rattle.totals.proofs.counts_in.Goals as goal

pub loop-byte-preserved : goal.loop-byte-preserved
loop-byte-preserved c = let inv = c.loop-byte.invariant in
    let more = c.loop-byte-test.true in (
      counted_fits c.is_used.result _ _ inv.0,
      counted_fits c.is_leaked.result _ _ inv.1,
      count_more is_used _ _ _ _ more c.is_used.ensures ∙ inv.2,
      count_more is_leaked _ _ _ _ more c.is_leaked.ensures ∙ inv.3,
      greatest_more lost_kind _ _ _ _ more (c.max-lost.ensures ∙ rw c.lost_kind.ensures) ∙ inv.4,
    )

pub returns : goal.returns
returns c = let all = c.loop-byte-test.false in
    let inv = c.loop-byte.invariant in
    rw (
      sym (count_done is_used _ _ _ all) ∙ inv.2,
      sym (count_done is_leaked _ _ _ all) ∙ inv.3,
      sym (greatest_done lost_kind _ _ _ all) ∙ inv.4,
    )
