use Rattle.std.proofs.Common.{drop}
use mathlib.Core.List.{flat_map}
use Rattle.listing_text.proofs.Laws.{Left}
use Rattle.listing_text.proofs.page.Page.put_each.Given as goal

abbrev pub invariant-loop-item : goal.invariant-loop-item
invariant-loop-item g l = Left l.initial.self l.self (flat_map g.L.Line.line (drop l.item-index l.items)) (flat_map g.L.Line.line l.items)
