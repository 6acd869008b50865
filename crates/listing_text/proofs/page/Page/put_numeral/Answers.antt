use Rattle.std.proofs.Common.{◌≡◌, ◌+◌, ◌-◌, length, take, drop, refl, ◌∙◌, arith, length-take-le, length-drop}
use Rattle.std.proofs.lemmas.Slice.{put_mid-paste}
use Rattle.listing_text.specs.Text.{numeral}
use Rattle.listing_text.proofs.Laws.{one, put_whole, put_none}
use Rattle.listing_text.proofs.Digits.{numeral_length, numeral_by}
use Rattle.listing_text.proofs.page.Page.put_numeral.Goals as goal

pub returns-then-end-self : goal.returns-then-end-self
returns-then-end-self c = one _ _ _ refl (put_none _ _ _ _ (omega (arith, numeral_length c.args.base c.args.figure, c.places.ensures)) refl)

pub returns : goal.returns
returns c =
    let out = c.args.self.now.out.now in
    let at = c.args.self.now.at in
    let long : c.places.result ≡ length (numeral c.args.base c.args.figure) = omega (arith, numeral_length c.args.base c.args.figure, c.places.ensures) in
    let whole : c.saturating_add-end.result ≡ at + c.places.result = omega arith in
    let part : length (take (c.saturating_add-end.result - at) (drop at out)) ≡ c.places.result =
    length-take-le _ _ (simp length-drop (omega arith)) ∙ omega arith in
    one _ _ _ refl (put_whole _ _ _ _ _ (omega arith) (omega arith)
    (put_mid-paste _ _ _ _ _ _ (numeral_by _ _ _ _ (part ∙ c.places.ensures) c.put_digits.ensures) (omega arith) refl))
