use mathlib.Core.Path.{refl}
use borrow.Author.Rules.{rules}
use Rattle.block_map.specs.BlockMap.{cleared}
use Rattle.block_map.proofs.Rows.{row_cleared}
use Rattle.block_map.proofs.clear.Goals as goal

pub loop-at-init : goal.loop-at-init
unfolding cleared
loop-at-init c = (search rules, refl, refl)

pub loop-at-preserved : goal.loop-at-preserved
loop-at-preserved c = (search rules, search rules, row_cleared _ _ _ _ _ (search rules) (search rules) c.loop-at.invariant.2 c.clear_row.ensures)

pub returns : goal.returns
returns c = rw (← c.min-end.ensures) (row_cleared _ _ _ _ _ (search rules) (search rules) c.loop-at.invariant.2 c.clear_row-2.ensures)
