use Rattle.std.proofs.Common.{◌∙◌, arith}
use Rattle.pool.proofs.LoadLaws.{ceil_fits}
use Rattle.pool.proofs.has_bits.Goals as goal

pub returns : goal.returns
returns c = rw (c.div_ceil-2.ensures, c.div_ceil.ensures) (ceil_fits _ _ _ c.requires ∙ ceil_fits _ _ _ (omega arith))
