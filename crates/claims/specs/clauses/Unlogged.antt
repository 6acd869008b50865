-- Claims that overlap nothing.
use Rattle.std.specs.Prelude.{Bool, true, false, ◌||◌, List, ◌≡◌, ℕ, zero, suc, ◌+◌, ◌-◌, min, eqb, get_or, Option, Some, None}
use Rattle.std.specs.List.{list_all, range_with_len}
use Rattle.blocks.specs.Reads.{Reads, Outcome, given, refused, run, no_blocks}
use Rattle.blocks.specs.Blocks.{sum}
use Rattle.blocks.specs.clauses.Images.{LentMut, bytes_lent}
use Rattle.blocks.specs.declared.Container.{Container}
use Rattle.nodes.specs.Node.{Entry}
use Rattle.nodes.specs.ObjectMap.{is_deleted}
use Rattle.block_map.specs.BlockMap.{Marked, update, owner_of, owned_by}
use Rattle.block_map.specs.clauses.Maps.{Unlogged}
use Rattle.report.specs.declared.OverlapLog.{OverlapLog}
use Rattle.totals.specs.Totals.{unowned}
use Rattle.queue.specs.Queue.{run_of}
use Rattle.claims.specs.Claims.{volume_superblock, free_queue, mapped_address}

-- a block is unowned, or the kind's own; and so is each of the left blocks from a on
abbrev pub takes : ℕ → List ℕ → ℕ → Bool
takes kind map a = let owner = owner_of (get_or map a 0) in eqb owner unowned || eqb owner kind

abbrev pub taken_from : ℕ → List ℕ → ℕ → ℕ → Bool
taken_from kind map left a = list_all (takes kind map) (range_with_len a left)

-- the map once the kind owns them
unfoldable pub owned_from : ℕ → List ℕ → ℕ → ℕ → List ℕ
owned_from kind map zero a = map
owned_from kind map (suc left) a = owned_from kind (update (owned_by kind) a map) left (a + 1)

-- whether something was given, and meets a test
abbrev pub meets : {A : Type 0} → Outcome A → (A → Bool) → Bool
meets (given a) test = test a
meets (refused r) test = false

-- whether a claim overlaps nothing, and isn't refused; no image is needed for that
unfoldable pub unlogged_claim : Container → ℕ → ℕ → ℕ → List ℕ → Bool
unlogged_claim c kind start len map = meets (run no_blocks (sum start len)) (λ n. taken_from kind map (min n c.count - start) start)

unfoldable pub unlogged_mapped : Container → List ℕ → Option (List ℕ) → List ℕ → Bool
unlogged_mapped c key None map = true
unlogged_mapped c key (Some v) map = meets (run no_blocks (mapped_address key v)) (λ a. is_deleted v || unlogged_claim c volume_superblock a 1 map)

abbrev pub unlogged_mapping : Container → Entry → List ℕ → Bool
unlogged_mapping c e map = unlogged_mapped c e.key e.value map

unfoldable pub unlogged_queued : Container → Entry → List ℕ → Bool
unlogged_queued c e map = meets (run no_blocks (run_of e)) (λ r. unlogged_claim c free_queue r.start r.count map)

-- a claim on the map that is lent, made where a test of the map holds, and there alone: it then logs nothing
abbrev pub ClaimsUnlogged : LentMut → Container → Bool → (List ℕ → Bool) → (Marked OverlapLog → Reads (Marked OverlapLog)) → Type 0
ClaimsUnlogged map c r test pass = (r ≡ test (bytes_lent map)) × ((f : ℕ → List ℕ) → Unlogged f c.count r (bytes_lent map) map.exit.now pass)
