use Rattle.std.proofs.Common.{arith}
use Rattle.listing_text.proofs.Laws.{less_left, none_left, claimants_more, claimants_done}
use Rattle.listing_text.proofs.page.Page.claimant_lines.Goals as goal

pub loop-i-preserved : goal.loop-i-preserved
loop-i-preserved c = less_left c.loop-i.invariant (claimants_more _ c.loop-i.i (omega arith)) c.claimant.ensures

pub returns : goal.returns
returns c = none_left c.loop-i.invariant (claimants_done _ c.loop-i.i (omega arith))
