use Rattle.trees.proofs.visitors.MainQueueVisitor.visit_unlogged.Goals as goal

pub returns : goal.returns
returns c = (c.claim_queued.ensures.0, c.claim_queued.ensures.1 _)
