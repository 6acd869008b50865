use Rattle.listing_text.specs.Lines.{overlaps_line, lost_line}
use Rattle.listing_text.specs.Listing.{report_lines}
use Rattle.listing_text.proofs.Laws.{◌then◌, by_figure}
use Rattle.listing_text.proofs.page.Page.put_report.Goals as goal

pub returns : goal.returns
unfolding report_lines
returns c =
    c.title_line.ensures
    then c.pool_line.ensures
    then rw c.named.ensures at c.put_each.ensures
    then c.bitmaps_line.ensures
    then by_figure overlaps_line c.overlap_total-total.ensures c.overlaps_line.ensures
    then c.claimant_lines.ensures
    then rw (c.named-2.ensures, c.overlap_total-total.ensures) at c.put_each-2.ensures
    then by_figure lost_line c.lost_total.ensures c.lost_line.ensures
    then c.lost_lines.ensures
    then c.leaked_line.ensures
    then c.result_line.ensures
