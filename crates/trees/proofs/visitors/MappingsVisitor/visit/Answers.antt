use Rattle.trees.proofs.visitors.MappingsVisitor.visit.Goals as goal

pub returns : goal.returns
returns c = c.claim_mapping.ensures _
