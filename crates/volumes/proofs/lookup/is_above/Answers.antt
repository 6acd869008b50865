use borrow.Author.Tests.{lt-ltb, le-ltb, ne_eqb}
use Rattle.volumes.specs.Lookup.{is_above}
use Rattle.volumes.proofs.LookupLaws.{above_equal}
use Rattle.volumes.proofs.lookup.is_above.Goals as goal

pub returns-then-id-key_id : goal.returns-then-id-key_id
unfolding is_above
returns-then-id-key_id c = simp (lt-ltb _ _ c.if-id-key_id.true)

pub returns-then-key_id-id : goal.returns-then-key_id-id
returns-then-key_id-id c = above_equal _ _ _ _ c.if-key_id-id.true

pub returns-else-key_id-id : goal.returns-else-key_id-id
unfolding is_above
returns-else-key_id-id c = simp (le-ltb _ _ c.if-id-key_id.false, ne_eqb _ _ c.if-key_id-id.false)
