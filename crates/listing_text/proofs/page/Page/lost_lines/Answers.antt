use Rattle.std.proofs.Common.{refl, arith}
use Rattle.listing_text.specs.Listing.{places_by_name}
use Rattle.listing_text.proofs.Laws.{less_left, none_left, each_more, each_done}
use Rattle.listing_text.proofs.page.Page.lost_lines.Goals as goal

pub loop-place-preserved : goal.loop-place-preserved
unfolding places_by_name
loop-place-preserved c = less_left c.loop-place.invariant (each_more _ places_by_name c.loop-place.place-index 0 _ (omega arith) refl) c.lost_kind.ensures

pub returns : goal.returns
unfolding places_by_name
returns c = none_left c.loop-place.invariant (each_done _ places_by_name c.loop-place.place-index (omega arith))
