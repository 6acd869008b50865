-- Laws of queued blocks, one at a time.
use Rattle.std.proofs.Common.{◌≡◌, refl, ℕ, ◌+◌, ◌-◌, ◌≤◌, ◌<◌}
use Rattle.blocks.specs.Reads.{done, ◌>>=◌}
use Rattle.blocks.specs.declared.Container.{Container}
use Rattle.block_map.specs.BlockMap.{Marked}
use Rattle.pool.specs.Pool.{Pool}
use Rattle.audit.specs.Audit.{audit_queued_block, audit_queued_from}
use Rattle.audit.specs.declared.Audit.{Audit}
use Rattle.audit.proofs.Laws.{none_left, one_less}

-- the blocks of a run from a on, before its end
module _ (c : Container) (p : Pool) (end a : ℕ) (s : Marked Audit) where
  pub queued_done : end ≤ a → audit_queued_from c p (end - a) a s ≡ done s
  unfolding audit_queued_from
  queued_done h = rw (none_left end a h) refl

  pub queued_more : a < end → audit_queued_from c p (end - a) a s ≡ audit_queued_block c p a s >>= audit_queued_from c p (end - (a + 1)) (a + 1)
  unfolding audit_queued_from
  queued_more h = rw (one_less end a h) refl
