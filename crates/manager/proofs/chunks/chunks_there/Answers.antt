use Rattle.std.proofs.Common.{sym, refl, ◌∙◌, arith}
use Rattle.blocks.specs.Reads.{run}
use Rattle.manager.specs.Chunks.{chunks_from}
use Rattle.manager.specs.clauses.Lists.{records}
use Rattle.manager.proofs.ListLaws.{chunks_fit, chunks_outside}
use Rattle.manager.proofs.chunks.chunks_there.Goals as goal

pub returns-then-count-eq0 : goal.returns-then-count-eq0
unfolding run chunks_from records
returns-then-count-eq0 c = λ f. rw (sym c.u32_of-count.ensures.is ∙ c.if-count-eq0.true) refl

pub returns-then-block-count : goal.returns-then-block-count
returns-then-block-count c = λ f. sym (chunks_outside f _ _ _ (omega (arith, c.u32_of-count.ensures.is)) (omega (arith, c.u32_of-count.ensures.is)))

pub returns : goal.returns
returns c = λ f. sym (chunks_fit f _ _ _ (omega (arith, c.u32_of-count.ensures.is)))
