use Rattle.space_check.specs.clauses.Stages.{area_of}
use borrow.Author.Tests.{eq-eqb, ne_eqb, le-leb, lt-leb}
use mathlib.Core.Path.{◌∙◌}
use Rattle.space_check.proofs.areas.area_of.Goals as goal

pub returns-then-kind-eq-CONTAINER_SUPERBLOCK : goal.returns-then-kind-eq-CONTAINER_SUPERBLOCK
unfolding area_of
returns-then-kind-eq-CONTAINER_SUPERBLOCK c = simp (eq-eqb _ _ c.if-kind-eq-CONTAINER_SUPERBLOCK.true)

pub returns-then-kind-eq-OBJECT_MAP : goal.returns-then-kind-eq-OBJECT_MAP
unfolding area_of
returns-then-kind-eq-OBJECT_MAP c = rw c.object_map_address-a.ensures (simp (ne_eqb _ _ c.if-kind-eq-CONTAINER_SUPERBLOCK.false, eq-eqb _ _ c.if-kind-eq-OBJECT_MAP.true))

pub returns-then-kind-le-DATA_AREA : goal.returns-then-kind-le-DATA_AREA
unfolding area_of
returns-then-kind-le-DATA_AREA c = c.superblock_area.ensures ∙ simp (ne_eqb _ _ c.if-kind-eq-CONTAINER_SUPERBLOCK.false, ne_eqb _ _ c.if-kind-eq-OBJECT_MAP.false, le-leb _ _ c.if-kind-le-DATA_AREA.true)

pub returns : goal.returns
unfolding area_of
returns c = c.pool_area.ensures ∙ simp (ne_eqb _ _ c.if-kind-eq-CONTAINER_SUPERBLOCK.false, ne_eqb _ _ c.if-kind-eq-OBJECT_MAP.false, lt-leb _ _ c.if-kind-le-DATA_AREA.false)
