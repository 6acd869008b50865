use lib.Bits.{and_mask}
use Rattle.block_map.proofs.owner.Goals as goal

pub returns : goal.returns
returns c = and_mask c.args.byte 4
