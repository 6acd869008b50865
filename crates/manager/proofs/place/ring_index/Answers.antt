use Rattle.std.proofs.Common.{sym}
use native.Mathlib.Nat.{add-mod}
use Rattle.manager.proofs.place.ring_index.Goals as goal

pub returns : goal.returns
returns c = rw (c.remainder-3.ensures, c.remainder.ensures, c.remainder-2.ensures, c.saturating_sub-offset.ensures, c.ring_length-ring.ensures) (sym (add-mod _ _ _))
