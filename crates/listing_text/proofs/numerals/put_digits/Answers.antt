use Rattle.std.proofs.Common.{◌∙◌, arith, rules}
use Rattle.listing_text.proofs.Digits.{digit_next, digits_done}
use Rattle.listing_text.proofs.numerals.put_digits.Goals as goal

pub loop-i-preserved : goal.loop-i-preserved
loop-i-preserved c = (search rules, digit_next _ _ _ c.loop-i.i _ (omega arith) (omega arith) c.glyph.ensures ∙ c.loop-i.invariant.1)

pub returns : goal.returns
returns c = digits_done _ _ _ c.loop-i.i (omega arith) ∙ c.loop-i.invariant.1
