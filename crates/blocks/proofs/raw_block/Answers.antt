use Rattle.blocks.proofs.Laws.{raw_there, raw_past}
use mathlib.Core.Path.{sym, ap, ◌∙◌}
use Rattle.blocks.specs.Reads.{given}
use Rattle.blocks.proofs.raw_block.Goals as goal

pub returns-then-address-container-clause-block : goal.returns-then-address-container-clause-block
returns-then-address-container-clause-block c = ap given c.block.ensures ∙ sym (raw_there _ _ _ c.if-address-container.true)

pub returns-then-address-container-clause-there : goal.returns-then-address-container-clause-there
returns-then-address-container-clause-there c = λ f. sym (raw_there f _ _ c.if-address-container.true)

pub returns-else-address-container-clause-block : goal.returns-else-address-container-clause-block
returns-else-address-container-clause-block c = sym (raw_past _ _ _ c.if-address-container.false)

pub returns-else-address-container-clause-there : goal.returns-else-address-container-clause-there
returns-else-address-container-clause-there c = λ f. sym (raw_past f _ _ c.if-address-container.false)
