use native.Mathlib.Omega.{arith}
use Rattle.report.proofs.StepLaws.{read_then, read_stop, stepped_is}
use Rattle.claims.specs.Claims.{claim}
use Rattle.claims.proofs.Laws.{clipped}
use Rattle.claims.proofs.claim.Goals as goal

pub returns-in_err-add : goal.returns-in_err-add
unfolding claim
returns-in_err-add c f = read_stop _ _ _ (c.add.ensures f) _ c.in_err-add.was c.from_residual.ensures.1

pub returns : goal.returns
unfolding claim
returns c f =
    let from = rw c.owner-claimant.ensures at c.claim_from.ensures c.args.container.count (omega (arith, c.min-next.ensures, c.min-end.ensures)) f in
    read_then _ _ _ (c.add.ensures f) _ c.in_ok-add.was (stepped_is from (clipped _ c.args.start _ c.args.container.count _ _ _ c.min-end.ensures c.min-next.ensures))
