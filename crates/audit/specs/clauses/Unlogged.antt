-- Runs of blocks in the pool queue that log nothing.
use Rattle.std.specs.Prelude.{Bool, true, false, not, ◌&&◌, List, ℕ, zero, suc, ◌+◌, leb}
use Rattle.blocks.specs.Reads.{Outcome, given, refused, run, no_blocks}
use Rattle.blocks.specs.clauses.Images.{Lent, bytes, blocks_in, LentMut, bytes_lent}
use Rattle.blocks.specs.declared.Container.{Container}
use Rattle.nodes.specs.clauses.Answers.{entry_in}
use Rattle.nodes.specs.declared.EntryPlace.{EntryPlace}
use Rattle.block_map.specs.BlockMap.{update, used_at, used}
use Rattle.block_map.specs.clauses.Maps.{Unlogged}
use Rattle.pool.specs.Pool.{Pool, pool_marked}
use Rattle.pool.specs.clauses.Place.{pool_on}
use Rattle.pool.specs.declared.PoolPlace.{PoolPlace}
use Rattle.queue.specs.Queue.{run_of}
use Rattle.queue.specs.declared.Run.{Run}
use Rattle.audit.specs.clauses.Answers.{queued_in}

-- each of the left blocks from a on is unused, and marked in the pool's bitmap
unfoldable pub all_unused : Container → Pool → List ℕ → ℕ → ℕ → Bool
all_unused c p map zero a = true
all_unused c p map (suc left) a = not (used_at c map a) && pool_marked p a && all_unused c p map left (a + 1)

-- the left blocks from a on used
unfoldable pub used_from : ℕ → ℕ → List ℕ → List ℕ
used_from zero a map = map
used_from (suc left) a map = used_from left (a + 1) (update used a map)

-- what an entry of the pool queue names is a run that the container has, and logs nothing
unfoldable pub unlogged_run : Container → Pool → List ℕ → Outcome Run → Bool
unlogged_run c p map (refused r) = false
unlogged_run c p map (given run) = leb (run.start + run.count) c.count && all_unused c p map run.count run.start

abbrev pub unlogged_on : Lent → LentMut → Container → PoolPlace → Lent → EntryPlace → Bool
unlogged_on image map c place node entry = unlogged_run c (pool_on image c place) (bytes_lent map) (run no_blocks (run_of (entry_in (bytes node) entry)))

-- the entry was audited where it logs nothing
abbrev pub AuditsUnlogged : Lent → LentMut → Container → PoolPlace → Lent → EntryPlace → Bool → Type 0
AuditsUnlogged image map c place node entry r =
    let f = blocks_in image.entry c in Unlogged f c.count r (bytes_lent map) map.exit.now (queued_in c place node entry f)
