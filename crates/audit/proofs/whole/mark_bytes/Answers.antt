use Rattle.std.proofs.Common.{◌≡◌, sym, ◌∙◌, ◌*◌, arith}
use Rattle.audit.specs.clauses.Bits.{bits_marked}
use Rattle.audit.proofs.WholeLaws.{bytes_few, bytes_long, bytes_more, byte_none, bits_over}
use Rattle.audit.proofs.whole.mark_bytes.Goals.{Joined-bits-j-eq0, then-bits-j-eq0, else-bits-j-eq0}
use Rattle.audit.proofs.whole.mark_bytes.Goals as goal

byte : (c : Joined-bits-j-eq0) → record { map = c.if-bits-j-eq0.map; figures = c.if-bits-j-eq0.zeros } ≡ bits_marked c.args.bits.now c.args.start 8 (8 * c.loop-j.j) (record { map = c.loop-j.map; figures = c.loop-j.zeros })
byte c = elim c.if-bits-j-eq0.branch [
  | then-bits-j-eq0 w ↦ rw (w.map-is, w.zeros-is) (byte_none _ _ _ _ _ w.if-bits-j-eq0.true)
  | else-bits-j-eq0 w ↦ rw (w.map-is, w.zeros-is) w.mark_byte-zeros.ensures
]

pub loop-j-preserved : goal.loop-j-preserved
loop-j-preserved c =
    let inv = c.loop-j.invariant in
    let below = c.loop-j-test.true in
    let marked = byte (goal.at.loop-j-preserved c).Joined-bits-j-eq0 in
    (bytes_few _ _ _ _ _ _ _ _ below (omega arith) marked inv.0, bytes_long _ _ _ _ _ _ _ _ below (omega arith) marked ∙ inv.1, bytes_more _ _ _ _ _ _ _ _ below (omega arith) marked _ inv.2)

pub returns : goal.returns
returns c = sym (bits_over _ _ _ _ _ _ (omega arith)) ∙ c.loop-j.invariant.2
