use Rattle.block_map.proofs.Laws.{bit_set}
use Rattle.block_map.proofs.with_use.Goals as goal

pub returns : goal.returns
returns c = bit_set 5 c.args.byte
