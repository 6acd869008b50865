use Rattle.std.proofs.Common.{eq-eqb, ne_eqb}
use mathlib.Core.List.{flat_map}
use Rattle.listing_text.specs.Listing.{claimant_if}
use Rattle.listing_text.proofs.Laws.{nothing, ◌then◌}
use Rattle.listing_text.proofs.page.Page.claimant.Goals as goal

pub returns-then-count-ne0 : goal.returns-then-count-ne0
unfolding claimant_if flat_map
returns-then-count-ne0 c = rw (ne_eqb _ _ c.if-count-ne0.true) (c.claimant_line.ensures then nothing _)

pub returns-else-count-ne0 : goal.returns-else-count-ne0
unfolding claimant_if flat_map
returns-else-count-ne0 c = rw (eq-eqb _ _ c.if-count-ne0.false) (nothing _)
