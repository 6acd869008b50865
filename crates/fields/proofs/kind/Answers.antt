use mathlib.Core.Path.{◌∙◌}
use lib.Bits.{and_mask}
use Rattle.fields.proofs.kind.Goals as goal

pub returns : goal.returns
returns c = and_mask c.u32_of.result 16 ∙ rw c.u32_of.ensures.is
