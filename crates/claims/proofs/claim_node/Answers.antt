use Rattle.claims.specs.Claims.{claim_node}
use Rattle.claims.proofs.claim_node.Goals as goal

pub returns : goal.returns
unfolding claim_node
returns c = c.claim.ensures
