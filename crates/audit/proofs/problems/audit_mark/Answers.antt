use Rattle.audit.specs.Audit.{audit_mark}
use Rattle.audit.proofs.problems.audit_mark.Goals as goal

pub returns : goal.returns
unfolding audit_mark
returns c = λ f count map. rw (← c.pool_marked-marked.ensures) (c.unless.ensures f count map)
