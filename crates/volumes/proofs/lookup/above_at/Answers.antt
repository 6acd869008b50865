use Rattle.std.proofs.Common.{rules}
use Rattle.blocks.proofs.Laws.{at_err, at_ok}
use Rattle.volumes.specs.Lookup.{above_at}
use Rattle.volumes.proofs.lookup.above_at.Goals as goal

pub returns-in_err-entry : goal.returns-in_err-entry
unfolding above_at
returns-in_err-entry c = λ f. search (rules, at_err, c.entry.ensures f, c.in_err-entry.was)

pub returns : goal.returns
unfolding above_at
returns c = λ f. search (rules, at_ok, c.entry.ensures f, c.in_ok-entry.was, c.above.ensures f)
