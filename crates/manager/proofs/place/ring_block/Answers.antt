use Rattle.manager.specs.clauses.Place.{address_in}
use mathlib.Core.Path.{◌∙◌}
use Rattle.manager.proofs.place.ring_block.Goals as goal

pub returns : goal.returns
unfolding address_in
returns c = c.block_after.ensures ∙ rw c.ring_index-k.ensures
