use Rattle.std.proofs.Common.{arith}
use Rattle.free_ring.proofs.SetLaws.{bit_put, one_shifted}
use Rattle.free_ring.proofs.sets.set_bit.Goals as goal

pub returns : goal.returns
returns c = bit_put _ _ _ (omega arith) (one_shifted _ (omega arith))
