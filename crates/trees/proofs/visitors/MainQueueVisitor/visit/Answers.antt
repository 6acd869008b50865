use Rattle.trees.proofs.visitors.MainQueueVisitor.visit.Goals as goal

pub returns : goal.returns
returns c = c.claim_queued.ensures _
