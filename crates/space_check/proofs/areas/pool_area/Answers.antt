use Rattle.space_check.specs.clauses.Stages.{pool_area}
use borrow.Author.Tests.{eq-eqb, ne_eqb}
use Rattle.space_check.proofs.areas.pool_area.Goals as goal

pub returns-then-kind-eq-INTERNAL_POOL : goal.returns-then-kind-eq-INTERNAL_POOL
unfolding pool_area
returns-then-kind-eq-INTERNAL_POOL c = rw (c.u64_of.ensures.is, c.u64_of-then-kind-eq-INTERNAL_POOL.ensures.is) (simp (eq-eqb _ _ c.if-kind-eq-INTERNAL_POOL.true))

pub returns : goal.returns
unfolding pool_area
returns c = rw (c.u64_of-2.ensures.is, c.u32_of.ensures.is) (simp (ne_eqb _ _ c.if-kind-eq-INTERNAL_POOL.false))
