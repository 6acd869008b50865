use Rattle.nodes.proofs.Laws.{part_refused}
use native.Mathlib.Omega.{arith}
use mathlib.Core.Path.{sym}
use Rattle.nodes.proofs.entries.key_of.Goals as goal

pub returns-then-node-slot : goal.returns-then-node-slot
returns-then-node-slot c = λ f. sym (part_refused f _ _ _ (omega arith))
