use Rattle.std.proofs.Common.{◌+◌, take, drop}
use mathlib.Core.List.{flat_map}
use Rattle.report.specs.Report.{kinds}
use Rattle.listing_text.specs.Listing.{claimants_from, claimant_line_of}
use Rattle.listing_text.proofs.Laws.{Left}
use Rattle.listing_text.proofs.page.Page.claimant_lines.Given as goal

abbrev pub invariant-loop-i : goal.invariant-loop-i
invariant-loop-i l = Left l.initial.self l.self (flat_map claimant_line_of (claimants_from (l.i + 1) (drop l.i l.claimants))) (flat_map claimant_line_of (claimants_from 1 (take kinds l.claimants)))
