use Rattle.std.proofs.Common.{rules}
use Rattle.checkpoint.specs.Checkpoint.{best_from}
use Rattle.checkpoint.proofs.choice.better.Goals as goal

pub returns-then-wins : goal.returns-then-wins
unfolding best_from
returns-then-wins c = rw (← c.block-block.ensures, ← c.wins.ensures, c.if-wins.true) (search rules)

pub returns-else-wins : goal.returns-else-wins
unfolding best_from
returns-else-wins c = rw (← c.block-block.ensures, ← c.wins.ensures, c.if-wins.false)
