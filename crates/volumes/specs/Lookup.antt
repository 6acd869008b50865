-- Document 02: "look up the newest mapping not above the checkpoint's xid (in a tree out of order, the one that `lookup_le` reaches)"
use Rattle.std.specs.Prelude.{Bool, ◌||◌, ◌&&◌, List, ℕ, zero, suc, ◌+◌, ◌-◌, ◌/◌, eqb, ltb}
use Rattle.std.specs.Prelude.{Option, Some, None}
use Rattle.fields.specs.Choice.{choose}
use Rattle.blocks.specs.Reads.{Reads, done, refuse, ◌>>=◌}
use Rattle.blocks.specs.Blocks.{field}
use Rattle.blocks.specs.declared.Container.{Container}
use Rattle.blocks.specs.declared.ObjectId.{ObjectId}
use Rattle.blocks.specs.declared.Refusal.TheVariants.{WrongLevel}
use Rattle.nodes.specs.Node.{Entry, is_leaf, level_of, key_count, entry, pointer, read_node}
use Rattle.nodes.specs.Scan.{one_below}
use Rattle.nodes.specs.declared.Description.{Description}

-- whether a key's id and xid are above the target's: the ids first, and the xids where they are equal
unfoldable pub is_above : ObjectId → ℕ → ℕ → ℕ → Bool
is_above id xid i x = ltb id.0 i || (eqb i id.0 && ltb xid x)

-- both fields of a key are read before they are compared
unfoldable pub above : ObjectId → ℕ → List ℕ → Reads Bool
above id xid key = do
  i ← field 8 key 0
  x ← field 8 key 8
  done (is_above id xid i x)

module _ (d : Description) (id : ObjectId) (xid : ℕ) (b : List ℕ) where
  -- whether entry i's key is above the target; its value must be there too
  unfoldable pub above_at : ℕ → Reads Bool
  above_at i = entry d b i >>= λ e. above id xid e.key

  -- how many keys come before the first above the target, as halving finds it among those from lo up to hi, of which there are at most left
  unfoldable pub search_from : ℕ → ℕ → ℕ → Reads ℕ
  search_from zero lo hi = done lo
  search_from (suc left) lo hi =
      choose (ltb lo hi)
      (λ _. above_at ((lo + hi) / 2) >>= λ a. choose a (λ _. search_from left lo ((lo + hi) / 2)) (λ _. search_from left ((lo + hi) / 2 + 1) hi))
      (λ _. done lo)

  unfoldable pub search : Reads ℕ
  search = search_from (key_count b) 0 (key_count b)

-- the child of entry i of a node of a level: "each child must be exactly one level below its parent"
unfoldable pub child_at : Container → Description → ℕ → List ℕ → ℕ → Reads (List ℕ)
child_at c d level b i = do
  e ← entry d b i
  a ← pointer e.value
  n ← read_node c (record { 0 = a })
  one_below level n

module _ (c : Container) (d : Description) (id : ObjectId) where
  -- down from a node, with so many levels left, its own among them; where some node on the way has no key at or below the target: none
  unfoldable pub lookup_from : ℕ → List ℕ → Reads (Option Entry)
  lookup_from zero b = refuse WrongLevel
  lookup_from (suc level) b =
      search d id c.xid b >>= λ n. choose (eqb n 0) (λ _. done None)
      (λ _. choose (is_leaf b)
      (λ _. entry d b (n - 1) >>= λ e. done (Some e))
      (λ _. child_at c d level b (n - 1) >>= lookup_from level))

  -- from the root b down: level 0 is the last
  unfoldable pub lookup_le : List ℕ → Reads (Option Entry)
  lookup_le b = lookup_from (suc (level_of b)) b
