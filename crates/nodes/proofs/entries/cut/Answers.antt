use Rattle.nodes.proofs.Laws.{room_there, room_missing, part_given, part_refused}
use mathlib.Core.Path.{sym}
use mathlib.Core.Path.{ap}
use mathlib.Core.Bool.{not}
use Rattle.nodes.proofs.entries.cut.Goals as goal

pub returns-then-not-fits : goal.returns-then-not-fits
returns-then-not-fits c = λ f. sym (part_refused f _ _ _ (room_missing _ _ _ _ c.fits.ensures (ap not c.if-not-fits.true)))

pub returns : goal.returns
returns c = λ f. sym (part_given f _ _ _ (room_there _ _ _ _ c.fits.ensures (ap not c.if-not-fits.false)))
