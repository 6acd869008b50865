use Rattle.std.proofs.Common.{◌≤◌, drop}
use Rattle.listing_text.specs.Lines.{filled_from, filled}
use Rattle.listing_text.proofs.Laws.{Left}
use Rattle.listing_text.proofs.page.Page.put_line.Given as goal

abbrev pub invariant-loop-c : goal.invariant-loop-c
invariant-loop-c l = (l.next ≤ l.c-index) × Left l.initial.self l.self (filled_from (drop l.c-index l.format) l.figures l.next) (filled l.format l.figures)
