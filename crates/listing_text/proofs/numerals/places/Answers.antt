use Rattle.std.proofs.Common.{arith}
use Rattle.listing_text.proofs.Digits.{places_log}
use Rattle.listing_text.proofs.numerals.places.Goals as goal

pub returns : goal.returns
returns c = places_log _ _ (omega arith) (omega arith) _ _ c.max.ensures c.ilog.ensures.power_le c.ilog.ensures.next_power_gt
