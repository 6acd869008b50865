-- The volumes that a superblock names, and the claims of their own trees. Quoted sentences are of document 02.
use Rattle.std.specs.Prelude.{Bool, not, ◌&&◌, List, [], ◌∷◌, ◌++◌, ℕ, zero, suc, ◌+◌, eqb, ltb}
use Rattle.std.specs.Prelude.{Option, Some, None}
use Rattle.fields.specs.Choice.{choose}
use Rattle.fields.specs.Fields.{num}
use Rattle.fields.specs.Header.{kind_of, volume_kind}
use Rattle.blocks.specs.Reads.{Reads, done, refuse, ◌>>=◌, need}
use Rattle.blocks.specs.Blocks.{field, read_raw, read_object}
use Rattle.blocks.specs.declared.Address.{Address}
use Rattle.blocks.specs.declared.Container.{Container}
use Rattle.blocks.specs.declared.ObjectId.{ObjectId}
use Rattle.blocks.specs.declared.Refusal.TheVariants.{PastContainer, VolumeUnmapped, NotVolume}
use Rattle.nodes.specs.Node.{Entry, read_node, describe}
use Rattle.nodes.specs.ObjectMap.{root_address, is_deleted}
use Rattle.nodes.specs.Walk.{walk}
use Rattle.nodes.specs.declared.Description.{Description}
use Rattle.checkpoint.specs.Superblock.{volume_places, volume_id}
use Rattle.block_map.specs.BlockMap.{Marked}
use Rattle.report.specs.declared.OverlapLog.{OverlapLog}
use Rattle.claims.specs.Claims.{object_map, object_map_node, extent_node, snapshot_node, claim, claim_node}
use Rattle.volumes.specs.Lookup.{lookup_le}

-- the address in a mapping's value, whose bytes must be there before its flag is looked at
unfoldable pub live_address : List ℕ → Reads Address
live_address v = do
  a ← field 8 v 8
  _ ← need (not (is_deleted v)) VolumeUnmapped
  done (record { 0 = a })

-- "23, a volume's lookup reaches none, a ghost or a deleted mapping": another id's mapping is none of this one's
unfoldable pub mapped_by : ObjectId → List ℕ → Option (List ℕ) → Reads Address
mapped_by id key None = refuse VolumeUnmapped
mapped_by id key (Some v) = do
  i ← field 8 key 0
  _ ← need (eqb i id.0) VolumeUnmapped
  live_address v

unfoldable pub volume_address : ObjectId → Option Entry → Reads Address
volume_address id None = refuse VolumeUnmapped
volume_address id (Some e) = mapped_by id e.key e.value

-- the bytes APSB
abbrev pub volume_magic : ℕ
volume_magic = 0x42535041

unfoldable pub is_volume : List ℕ → Bool
is_volume b = eqb (kind_of b) volume_kind && eqb (num 4 b 32) volume_magic

-- "address 0 gives 12"; "24, the mapped object isn't kind 13 with bytes APSB at 32, given after its checksum"
unfoldable pub read_volume : Container → Address → Reads (List ℕ)
read_volume c a = do
  b ← read_object c a
  _ ← need (is_volume b) NotVolume
  done b

-- b: the root of the container's object map; d: what it says of its tree
module _ (c : Container) (d : Description) (b : List ℕ) where
  unfoldable pub address_for : ObjectId → Reads Address
  address_for id = lookup_le c d id b >>= volume_address id

  -- "each right after its lookup"
  unfoldable pub volume_for : ObjectId → Reads (List ℕ)
  volume_for id = address_for id >>= read_volume c

  -- the volume of a place, if there is one: "zeros are skipped"
  unfoldable pub volume_at : ObjectId → Reads (List (List ℕ))
  volume_at id = choose (eqb id.0 0) (λ _. done []) (λ _. volume_for id >>= λ v. done (v ∷ []))

  -- "All volume superblocks are read first": those of the places of the superblock sb from the i-th on, of which left are left
  unfoldable pub volumes_from : List ℕ → ℕ → ℕ → Reads (List (List ℕ))
  volumes_from sb zero i = done []
  volumes_from sb (suc left) i = do
    v ← volume_at (volume_id sb i)
    rest ← volumes_from sb left (i + 1)
    done (v ++ rest)

-- where a volume's superblock says that its own trees are: these fields hold addresses
abbrev pub map_address : List ℕ → Address
map_address v = record { 0 = num 8 v 128 }

abbrev pub extents_address : List ℕ → Address
extents_address v = record { 0 = num 8 v 144 }

abbrev pub snapshots_address : List ℕ → Address
snapshots_address v = record { 0 = num 8 v 152 }

module _ (c : Container) where
  -- the nodes of the tree whose root is at an address, by what that root says of it
  unfoldable pub claim_tree : ℕ → Address → Marked OverlapLog → Reads (Marked OverlapLog)
  claim_tree kind a s = do
    b ← read_node c a
    d ← describe b
    walk (claim_node c kind) c d a s

  -- "the map's block is read after its claim for the root at 48, address 0 giving 12 but with no test of checksum, kind, tree type or description"
  unfoldable pub read_map : Address → Reads Address
  read_map a = do
    _ ← need (ltb 0 a.0) PastContainer
    b ← read_raw c a
    done (root_address b)

  -- "and, if its address isn't 0, its snapshot tree nodes (11)"
  unfoldable pub claim_snapshots : List ℕ → Marked OverlapLog → Reads (Marked OverlapLog)
  claim_snapshots v s = choose (eqb (snapshots_address v).0 0) (λ _. done s) (λ _. claim_tree snapshot_node (snapshots_address v) s)

  -- a volume by its superblock v: "claim its object map and map nodes (kinds 6 and 7 ..), its extent-reference tree nodes (10) and .."
  unfoldable pub claim_volume : List ℕ → Marked OverlapLog → Reads (Marked OverlapLog)
  claim_volume v s = do
    s₁ ← claim c object_map (map_address v).0 1 s
    r ← read_map (map_address v)
    s₂ ← claim_tree object_map_node r s₁
    s₃ ← claim_tree extent_node (extents_address v) s₂
    claim_snapshots v s₃

  -- "then, volume by volume"
  unfoldable pub claim_each : List (List ℕ) → Marked OverlapLog → Reads (Marked OverlapLog)
  claim_each [] s = done s
  claim_each (v ∷ vs) s = claim_volume v s >>= claim_each vs

  -- the volumes of the superblock sb, by the object map whose root is b
  unfoldable pub claim_volumes : Description → List ℕ → List ℕ → Marked OverlapLog → Reads (Marked OverlapLog)
  claim_volumes d b sb s = volumes_from c d b sb (volume_places sb) 0 >>= λ vs. claim_each vs s
