use Rattle.trees.proofs.visitors.MappingsVisitor.visit_unlogged.Goals as goal

pub returns : goal.returns
returns c = (c.claim_mapping.ensures.0, c.claim_mapping.ensures.1 _)
