use Rattle.block_map.proofs.Rows.{zero_test}
use Rattle.block_map.proofs.is_zero.Goals as goal

pub returns : goal.returns
returns c = rw c.greatest.ensures (zero_test _)
