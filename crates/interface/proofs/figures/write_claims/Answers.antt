use Rattle.interface.proofs.Laws.{claims_stored}
use Rattle.interface.proofs.figures.write_claims.Goals as goal

pub returns : goal.returns
returns c = let lost = c in
    let first = lost in
    let total = first in
    claims_stored total.args.report _ _ _ _ _ _ total.overlap_total.ensures total.put.ensures first.put_overlaps.ensures lost.put_lost.ensures c.put_all.ensures
