use Rattle.std.proofs.Common.{eq-eqb, ne_eqb}
use Rattle.listing_text.proofs.Laws.{◌then◌}
use Rattle.listing_text.proofs.page.Page.result_line.Goals as goal

pub returns-then-verdict-eq-CONSISTENT : goal.returns-then-verdict-eq-CONSISTENT
returns-then-verdict-eq-CONSISTENT c = rw (eq-eqb _ _ c.if-verdict-eq-CONSISTENT.true) (c.put.ensures then c.put-then-verdict-eq-CONSISTENT.ensures)

pub returns-else-verdict-eq-CONSISTENT : goal.returns-else-verdict-eq-CONSISTENT
returns-else-verdict-eq-CONSISTENT c = rw (ne_eqb _ _ c.if-verdict-eq-CONSISTENT.false) (c.put.ensures then c.put-else-verdict-eq-CONSISTENT.ensures)
