use Rattle.space_check.specs.clauses.Stages.{superblock_area}
use borrow.Author.Tests.{eq-eqb, ne_eqb}
use Rattle.space_check.proofs.areas.superblock_area.Goals as goal

pub returns-then-kind-eq-DESCRIPTOR_AREA : goal.returns-then-kind-eq-DESCRIPTOR_AREA
unfolding superblock_area
returns-then-kind-eq-DESCRIPTOR_AREA c = rw (c.descriptor_base.ensures, c.without_top_bit.ensures, c.descriptor_blocks.ensures) (simp (eq-eqb _ _ c.if-kind-eq-DESCRIPTOR_AREA.true))

pub returns : goal.returns
unfolding superblock_area
returns c = rw (c.data_base.ensures, c.without_top_bit-2.ensures, c.data_blocks.ensures) (simp (ne_eqb _ _ c.if-kind-eq-DESCRIPTOR_AREA.false))
