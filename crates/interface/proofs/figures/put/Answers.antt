use mathlib.Core.Path.{sym}
use lib.Seq.{set_out}
use Rattle.interface.proofs.figures.put.Goals as goal

pub returns-else-at-figures : goal.returns-else-at-figures
returns-else-at-figures c = sym (set_out _ _ _ c.if-at-figures.false)
