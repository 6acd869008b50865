use Rattle.listing_text.specs.Listing.{answer_lines}
use Rattle.listing_text.proofs.page.Page.put_ending.Goals as goal

pub returns-in-Ok : goal.returns-in-Ok
unfolding answer_lines
returns-in-Ok c = rw c.in-Ok.is c.put_report.ensures

pub returns-in-Err : goal.returns-in-Err
unfolding answer_lines
returns-in-Err c = rw c.in-Err.is (rw c.number_of.ensures at c.refused_line.ensures)
