use Rattle.pool.proofs.Laws.{bit_read_of}
use Rattle.std.proofs.Common.{refl}
use Rattle.pool.proofs.bit_near.Goals as goal

pub returns : goal.returns
returns c = bit_read_of _ _ _ _ _ _ c.byte_near-b.ensures refl refl c.bit_of.ensures
