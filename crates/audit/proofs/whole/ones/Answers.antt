use Rattle.std.proofs.Common.{rules}
use Rattle.audit.proofs.OnesLaws.{ones_added}
use Rattle.audit.proofs.whole.ones.Goals as goal

pub returns : goal.returns
returns c = ones_added c.args.byte (search rules)
