use mathlib.Core.Path.{refl, ap, ◌∙◌}
use Rattle.nodes.specs.Node.{level_of}
use Rattle.nodes.specs.Scan.{scan}
use Rattle.report.proofs.StepLaws.{stepped_is}
use Rattle.trees.proofs.scans.scan.Goals as goal

pub returns : goal.returns
unfolding scan
returns g c = stepped_is c.scan_node.ensures (rw (c.level-level.ensures.0 ∙ ap level_of c.block.ensures) refl)
