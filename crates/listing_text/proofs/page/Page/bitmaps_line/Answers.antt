use Rattle.std.proofs.Common.{eq-eqb, ne_eqb}
use Rattle.listing_text.proofs.Laws.{◌then◌}
use Rattle.listing_text.proofs.page.Page.bitmaps_line.Goals as goal

pub returns-then-free-device_free : goal.returns-then-free-device_free
returns-then-free-device_free c = rw (eq-eqb _ _ c.if-free-device_free.true) (c.put_line.ensures then c.put.ensures)

pub returns-else-free-device_free : goal.returns-else-free-device_free
returns-else-free-device_free c = rw (ne_eqb _ _ c.if-free-device_free.false) (c.put_line.ensures then c.put-else-free-device_free.ensures)
