use mathlib.Core.Path.{ap, ◌∙◌}
use borrow.Author.Rules.{rules}
use Rattle.fields.proofs.Laws.{below_limit, past_limit}
use Rattle.block_map.specs.BlockMap.{is_used, used_at}
use Rattle.block_map.proofs.used_at.Goals as goal

pub returns-then-block-container : goal.returns-then-block-container
unfolding used_at
returns-then-block-container c = let asked = c.args in
    c.is_used.ensures ∙ (ap is_used c.cell.ensures ∙ below_limit asked.block asked.container.count _ (search rules))

pub returns-else-block-container : goal.returns-else-block-container
unfolding used_at
returns-else-block-container c = let asked = c.args in
    past_limit asked.block asked.container.count _ (search rules)
