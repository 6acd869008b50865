use mathlib.Core.Path.{sym, ◌∙◌}
use Rattle.block_map.specs.clauses.Rows.{itself}
use Rattle.block_map.proofs.Rows.{greatest_more, greatest_done}
use Rattle.block_map.proofs.greatest.Goals as goal

pub loop-byte-preserved : goal.loop-byte-preserved
loop-byte-preserved c = greatest_more itself _ _ _ _ c.loop-byte-test.true c.max-g.ensures ∙ c.loop-byte.invariant

pub returns : goal.returns
returns c = sym (greatest_done itself _ _ _ c.loop-byte-test.false) ∙ c.loop-byte.invariant
