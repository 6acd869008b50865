use Rattle.interface.proofs.Laws.{later_stored}
use Rattle.interface.proofs.figures.write_later.Goals as goal

pub returns : goal.returns
returns c = let ring = c in
    let claimants = ring in
    let lost = claimants in
    later_stored lost.args.report _ _ _ _ lost.put_lost.ensures claimants.put_claimants.ensures ring.put.ensures
