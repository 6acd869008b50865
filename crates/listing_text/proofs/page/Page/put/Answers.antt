use Rattle.std.proofs.Common.{refl, arith}
use Rattle.std.proofs.lemmas.Slice.{put_mid-paste}
use Rattle.listing_text.proofs.Laws.{one, put_whole, put_none}
use Rattle.listing_text.proofs.page.Page.put.Goals as goal

pub returns-then-end-self : goal.returns-then-end-self
returns-then-end-self c = one _ _ _ refl (put_none _ _ _ _ (omega arith) refl)

pub returns : goal.returns
returns c = one _ _ _ refl (put_whole _ _ _ _ _ (omega arith) (omega arith) (put_mid-paste _ _ _ _ _ _ c.copy_from_slice.ensures.after (omega arith) refl))
