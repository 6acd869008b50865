use Rattle.interface.proofs.NodeLaws.{sizes_fixed}
use Rattle.interface.proofs.sizes_of.Goals as goal

pub returns-then-fixed : goal.returns-then-fixed
returns-then-fixed c = sizes_fixed _ _ _ c.if-fixed.true
