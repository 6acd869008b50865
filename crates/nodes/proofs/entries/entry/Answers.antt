use Rattle.blocks.specs.Reads.{run}
use Rattle.blocks.proofs.Laws.{at_err, at_ok}
use Rattle.nodes.specs.Node.{entry}
use Rattle.std.proofs.Common.{rules}
use Rattle.nodes.proofs.entries.entry.Goals as goal

pub returns-in_err-row : goal.returns-in_err-row
unfolding entry
returns-in_err-row c = λ f. search (rules, at_err, c.slot.ensures f, c.in_err-row.was)

pub returns-in_err-key : goal.returns-in_err-key
unfolding entry
returns-in_err-key c = λ f. search (rules, at_ok, at_err, c.slot.ensures f, c.in_ok-row.was, c.key_of.ensures f, c.in_err-key.was)

pub returns-in_err-value : goal.returns-in_err-value
unfolding entry
returns-in_err-value c = λ f. search (rules, at_ok, at_err, c.slot.ensures f, c.in_ok-row.was, c.key_of.ensures f, c.in_ok-key.was, c.value_of.ensures f, c.in_err-value.was)

pub returns : goal.returns
unfolding entry run
returns c = λ f. search (rules, at_ok, c.slot.ensures f, c.in_ok-row.was, c.key_of.ensures f, c.in_ok-key.was, c.value_of.ensures f, c.in_ok-value.was)
