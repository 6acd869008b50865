use Rattle.std.proofs.Common.{drop}
use mathlib.Core.List.{flat_map}
use Rattle.listing_text.specs.Listing.{places_by_name, lost_kind_line_of}
use Rattle.listing_text.proofs.Laws.{Left}
use Rattle.listing_text.proofs.page.Page.lost_lines.Given as goal

abbrev pub invariant-loop-place : goal.invariant-loop-place
invariant-loop-place l = Left l.initial.self l.self (flat_map (lost_kind_line_of l.lost) (drop l.place-index places_by_name)) (flat_map (lost_kind_line_of l.lost) places_by_name)
