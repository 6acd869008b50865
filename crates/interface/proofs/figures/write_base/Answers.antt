use Rattle.interface.proofs.Laws.{base_stored}
use Rattle.interface.proofs.figures.write_base.Goals as goal

pub returns : goal.returns
returns c = base_stored _ _ _ _ c.write_audit.ensures c.write_claims.ensures
