use Rattle.claims.proofs.Laws.{block_taken, block_overlaps}
use Rattle.claims.proofs.claim_block.Goals as goal

pub returns-then-takes : goal.returns-then-takes
returns-then-takes c = block_taken _ _ _ _ (rw (← c.cell.ensures, ← c.owner-owner.ensures, ← c.takes.ensures) c.if-takes.true) c.requires _ c.own_block.ensures

pub returns : goal.returns
returns c count _ =
    block_overlaps _ _ _ _ (rw (← c.cell.ensures, ← c.owner-owner.ensures, ← c.takes.ensures) c.if-takes.false) _ (rw (c.owner-owner.ensures, c.cell.ensures) at c.add_overlap.ensures) count
