use mathlib.Core.Path.{ap, ◌∙◌}
use Rattle.blocks.specs.Reads.{no_blocks}
use Rattle.trees.specs.clauses.Walks.{number_in, pointer_at}
use Rattle.trees.proofs.ChildLaws.{number_or}
use Rattle.trees.proofs.children.pointer_at.Goals as goal

pub returns : goal.returns
unfolding pointer_at
returns c = c.unwrap_or.ensures ∙ (number_or c.pointer_of.result ∙ ap number_in (c.pointer_of.ensures no_blocks))
