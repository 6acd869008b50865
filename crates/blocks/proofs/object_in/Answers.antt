use Rattle.blocks.proofs.Laws.{object_zero, object_past, object_there, object_bad}
use Rattle.blocks.specs.Reads.{given}
use Rattle.fletcher.specs.Fletcher.{verifies}
use native.Mathlib.Omega.{arith}
use mathlib.Core.Path.{sym, ap, ◌∙◌}
use Rattle.blocks.proofs.object_in.Goals as goal

pub returns-then-n-eq0 : goal.returns-then-n-eq0
returns-then-n-eq0 c = sym (object_zero _ _ _ c.if-n-eq0.true)

pub returns-then-container-n : goal.returns-then-container-n
returns-then-container-n c = sym (object_past _ _ _ (omega arith) c.if-container-n.true)

pub returns-then-verify : goal.returns-then-verify
returns-then-verify c = ap given c.block_in-object.ensures ∙ sym (object_there _ _ _ (omega arith) (omega arith) (ap verifies (sym c.block_in-object.ensures) ∙ (sym c.verify.ensures ∙ c.if-verify.true)))

pub returns-else-verify : goal.returns-else-verify
returns-else-verify c = sym (object_bad _ _ _ (omega arith) (omega arith) (ap verifies (sym c.block_in-object.ensures) ∙ (sym c.verify.ensures ∙ c.if-verify.false)))
