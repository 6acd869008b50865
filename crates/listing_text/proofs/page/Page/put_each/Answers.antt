use Rattle.std.proofs.Common.{arith}
use Rattle.listing_text.proofs.Laws.{less_left, none_left, each_more, each_done}
use Rattle.listing_text.proofs.page.Page.put_each.Goals as goal

pub loop-item-preserved : goal.loop-item-preserved
loop-item-preserved g c = less_left c.loop-item.invariant (each_more _ _ c.loop-item.item-index _ _ (omega arith) c.item-item.is) c.put_on.ensures

pub returns : goal.returns
returns g c = none_left c.loop-item.invariant (each_done _ _ c.loop-item.item-index (omega arith))
