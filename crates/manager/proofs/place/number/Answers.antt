use Rattle.std.proofs.Common.{sym, ◌∙◌}
use Rattle.manager.proofs.Laws.{number_in}
use Rattle.manager.proofs.place.number.Goals as goal

pub returns-then-fits-2 : goal.returns-then-fits-2
returns-then-fits-2 c =
    number_in _ _ _ _ _ _ _ _ _ c.requires c.quotient.ensures c.remainder-at.ensures c.ring_block-block.ensures (sym c.fits.ensures ∙ c.if-fits.true) (sym c.fits-then-fits.ensures ∙ c.if-fits-2.true) c.number.ensures
