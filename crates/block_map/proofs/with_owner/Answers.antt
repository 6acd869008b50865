use borrow.Author.Rules.{rules}
use Rattle.block_map.proofs.Laws.{owner_set}
use Rattle.block_map.proofs.with_owner.Goals as goal

pub returns : goal.returns
returns c = owner_set c.args.byte c.args.kind (search rules)
