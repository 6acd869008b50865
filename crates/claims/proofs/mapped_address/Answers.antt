use borrow.Author.Rules.{rules}
use Rattle.blocks.proofs.Laws.{at_ok, at_err}
use Rattle.claims.specs.Claims.{mapped_address}
use Rattle.claims.proofs.mapped_address.Goals as goal

pub returns-in_err-field_in : goal.returns-in_err-field_in
unfolding mapped_address
returns-in_err-field_in c = λ f. search (rules, at_err, c.field_in.ensures f, c.in_err-field_in.was)

pub returns-in_err-field_in-2 : goal.returns-in_err-field_in-2
unfolding mapped_address
returns-in_err-field_in-2 c = λ f. search (rules, at_ok, at_err, c.field_in.ensures f, c.in_ok-field_in.was, c.field_in-2.ensures f, c.in_err-field_in-2.was)

pub returns : goal.returns
unfolding mapped_address
returns c = λ f. search (rules, at_ok, c.field_in.ensures f, c.in_ok-field_in.was, c.field_in-2.ensures f, c.in_ok-field_in-2.was, c.field_in-3.ensures f)
