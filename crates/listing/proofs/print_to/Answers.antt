use borrow.Author.Rules.{rules}
use Rattle.listing.proofs.Laws.{printed_there}
use Rattle.listing.proofs.print_to.Goals as goal

pub returns : goal.returns
returns c =
    let there = printed_there _ _ _ _ _ _ c.check-answer.ensures c.put_answer.ensures (search rules) in
    record { prints = there.0; prefix_len = there.1 }
