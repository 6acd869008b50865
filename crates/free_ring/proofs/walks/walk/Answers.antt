use Rattle.std.proofs.Common.{refl, arith, rules}
use Rattle.free_ring.specs.clauses.Sets.{set_bytes}
use Rattle.manager.proofs.ListLaws.{values_length}
use Rattle.free_ring.proofs.WalkLaws.{walking, walked_outside, walked_again, room, walked_tail, walking_on}
use Rattle.free_ring.proofs.walks.walk.Goals as goal

pub loop-i-init : goal.loop-i-init
loop-i-init c = walking _ _ _ _ set_bytes (values_length _ _ _ _) refl (search rules)

pub returns-then-list-i : goal.returns-then-list-i
returns-then-list-i c = walked_outside _ _ _ _ _ _ _ c.loop-i.invariant c.if-list-i.true

pub returns-then-bit_at : goal.returns-then-bit_at
returns-then-bit_at c = walked_again _ _ _ _ _ _ _ c.loop-i.invariant _ c.bit_at.ensures c.if-list-i.false c.if-bit_at.true

pub overflow_add-count : goal.overflow_add-count
overflow_add-count c = record { fits = omega (arith, room _ _ _ _ _ _ _ c.loop-i.invariant _ c.bit_at.ensures c.if-list-i.false c.if-bit_at.false) }

pub returns-then-i-list : goal.returns-then-i-list
returns-then-i-list c = walked_tail _ _ _ _ _ _ _ c.loop-i.invariant _ c.bit_at.ensures c.if-list-i.false c.if-bit_at.false c.if-i-list.true

pub loop-i-smaller : goal.loop-i-smaller
loop-i-smaller c = omega (arith, room _ _ _ _ _ _ _ c.loop-i.invariant _ c.bit_at.ensures c.if-list-i.false c.if-bit_at.false)

pub loop-i-preserved : goal.loop-i-preserved
loop-i-preserved c = walking_on _ _ _ _ _ _ _ c.loop-i.invariant _ c.bit_at.ensures c.if-list-i.false c.if-bit_at.false _ _ c.if-i-list.false c.set_bit.ensures c.next_index-i.ensures
