use Rattle.nodes.proofs.Laws.{room_there, room_missing, fixed_outside, fixed_given}
use native.Mathlib.Omega.{arith}
use mathlib.Core.Path.{sym, refl}
use mathlib.Core.Path.{ap}
use mathlib.Core.Bool.{not}
use Rattle.nodes.proofs.entries.fixed_slot.Goals as goal

pub returns-then-not-fits : goal.returns-then-not-fits
returns-then-not-fits c = λ f. sym (fixed_outside f _ _ _ (room_missing _ _ _ _ c.fits.ensures (ap not c.if-not-fits.true)))

pub returns : goal.returns
returns c = let tested = c in
    λ f. sym (fixed_given f _ _ _ _ c.u16_of-koff.ensures.is (room_there _ _ _ _ tested.fits.ensures (ap not tested.if-not-fits.false)) refl c.u16_of-voff.ensures.is c.fixed_value-vlen.ensures)
