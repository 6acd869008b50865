use Rattle.std.proofs.Common.{rules}
use mathlib.Core.Path.{ap}
use Rattle.blocks.specs.Reads.{given, run}
use Rattle.blocks.proofs.Laws.{at_err, at_ok}
use Rattle.volumes.specs.Lookup.{above}
use Rattle.volumes.proofs.lookup.above.Goals as goal

pub returns-in_err-key_id : goal.returns-in_err-key_id
unfolding above
returns-in_err-key_id c = λ f. search (rules, at_err, c.field_in.ensures f, c.in_err-key_id.was)

pub returns-in_err-key_xid : goal.returns-in_err-key_xid
unfolding above
returns-in_err-key_xid c = λ f. search (rules, at_ok, at_err, c.field_in.ensures f, c.in_ok-key_id.was, c.field_in-2.ensures f, c.in_err-key_xid.was)

pub returns : goal.returns
unfolding above run
returns c = λ f. search (rules, at_ok, c.field_in.ensures f, c.in_ok-key_id.was, c.field_in-2.ensures f, c.in_ok-key_xid.was, ap given c.is_above.ensures)
