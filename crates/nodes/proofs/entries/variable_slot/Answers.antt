use Rattle.nodes.proofs.Laws.{room_there, room_missing, variable_outside, variable_given}
use native.Mathlib.Omega.{arith}
use mathlib.Core.Path.{sym}
use mathlib.Core.Path.{ap}
use mathlib.Core.Bool.{not}
use Rattle.nodes.proofs.entries.variable_slot.Goals as goal

pub returns-then-not-fits : goal.returns-then-not-fits
returns-then-not-fits c = λ f. sym (variable_outside f _ _ (room_missing _ _ _ _ c.fits.ensures (ap not c.if-not-fits.true)))

pub returns : goal.returns
returns c = let tested = c in
    λ f. sym (variable_given f _ _ _ c.u16_of-koff.ensures.is (room_there _ _ _ _ tested.fits.ensures (ap not tested.if-not-fits.false)) c.u16_of-klen.ensures.is c.u16_of-voff.ensures.is c.u16_of-vlen.ensures.is)
