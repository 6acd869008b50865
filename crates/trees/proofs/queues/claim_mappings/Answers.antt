use Rattle.blocks.specs.clauses.Images.{blocks_in}
use Rattle.report.proofs.StepLaws.{stepped_is}
use Rattle.trees.proofs.QueueLaws.{mappings_claimed}
use Rattle.trees.proofs.queues.claim_mappings.Goals as goal

pub returns : goal.returns
returns c = stepped_is c.scan.ensures (mappings_claimed (blocks_in c.args.image c.args.checkpoint.container) c.args.checkpoint _ _ _)
