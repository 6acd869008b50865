-- Lookups and volumes computed on small nodes. The sentences are document 02's.
use mathlib.Core.Bool.{Bool, true, false, ◌||◌}
use mathlib.Core.List.{List, [], ◌∷◌}
use mathlib.Core.Path.{◌≡◌, refl}
use Prim.Native.Nat.{ℕ, ◌+◌, ◌*◌, ◌-◌, ◌^◌}
use lib.Dec.{T, eqb}
use lib.ListN.{drop, length, replicate, get_or}
use Rattle.fields.specs.Choice.{pick}
use Rattle.fields.specs.Fields.{le, num, field_at}
use Rattle.fields.proofs.Rows.{Row, row, bytes_of, block_from, every}
use Rattle.fletcher.specs.Fletcher.{seal, fletcher, checksum, verifies}
use Rattle.blocks.specs.Reads.{Outcome, given, refused, run, visits, ◌>>=◌, need}
use Rattle.blocks.specs.Blocks.{read_raw, read_object, present, field, part, sum}
use Rattle.blocks.specs.Refusals.{number_of}
use Rattle.blocks.specs.declared.Address.{Address}
use Rattle.blocks.specs.declared.Container.{Container}
use Rattle.nodes.specs.Node.{value_end, parse, read_node, describe, fixed_slot, variable_slot, slot, value_of, entry, pointer}
use Rattle.nodes.specs.Scan.{one_below}
use Rattle.nodes.specs.Walk.{children_from, next_node, each, children_of, walk_below, walk}
use Rattle.nodes.specs.declared.Description.{Description}
use Rattle.checkpoint.specs.Superblock.{volume_places}
use Rattle.block_map.specs.BlockMap.{Marked, update, owner_of}
use Rattle.report.specs.Report.{no_overlaps, sum_of, overlap_total, count_claimant, note, add_overlap}
use Rattle.report.specs.declared.OverlapLog.{OverlapLog}
use Rattle.claims.specs.Claims.{claim_block, claim_from, claim, claim_node}
use Rattle.volumes.specs.Lookup.{is_above, above, above_at, search_from, search, child_at, lookup_from, lookup_le}
use Rattle.volumes.specs.Volumes.{live_address, mapped_by, volume_address, is_volume, read_volume, address_for, volume_for, volume_at, volumes_from, claim_tree, read_map, claim_snapshots, claim_volume, claim_each, claim_volumes}

-- an entry: its key's id and xid, and the two halves of its value
record Line : Type 0 where
  id : ℕ
  xid : ℕ
  first : ℕ
  second : ℕ
  ghost : Bool

-- a mapping to a block, one with the flag of a deleted one, one without value, and an index entry
abbrev to : ℕ → ℕ → ℕ → Line
to id xid a = record { id = id; xid = xid; first = 0; second = a; ghost = false }

abbrev deleted : ℕ → ℕ → ℕ → Line
deleted id xid a = record { id = id; xid = xid; first = 1; second = a; ghost = false }

abbrev empty : ℕ → ℕ → Line
empty id xid = record { id = id; xid = xid; first = 0; second = 0; ghost = true }

abbrev down : ℕ → ℕ → ℕ → Line
down id xid a = record { id = id; xid = xid; first = a; second = 0; ghost = false }

-- the table, whose last entry's value ends the values; the keys; the values
unfoldable slots : ℕ → ℕ → List Line → List Row → List Row
slots at koff [] rows = rows
slots at koff (l ∷ ls) rows = row at 2 koff ∷ row (at + 2) 2 (pick l.ghost 0xffff (16 + 16 * length ls)) ∷ slots (at + 4) (koff + 16) ls rows

unfoldable keys : ℕ → List Line → List Row → List Row
keys at [] rows = rows
keys at (l ∷ ls) rows = row at 8 l.id ∷ row (at + 8) 8 l.xid ∷ keys (at + 16) ls rows

unfoldable values : ℕ → List Line → List Row → List Row
values at [] rows = rows
values at (l ∷ ls) rows = row at 8 l.first ∷ row (at + 8) 8 l.second ∷ values (at + 16) ls rows

unfoldable sealed : List ℕ → List ℕ
unfolding checksum fletcher seal bytes_of
sealed b = bytes_of 8 (checksum b) (drop 8 b)

-- a node of 256 bytes with entries of fixed sizes, 16 and 16; end is where its values end
unfoldable node : ℕ → ℕ → ℕ → List Line → List ℕ
unfolding sealed block_from slots keys values
node flags level end ls = sealed (block_from 256 0 (row 24 4 2 ∷ row 32 2 flags ∷ row 34 2 level ∷ row 36 4 (length ls) ∷ row 42 2 (4 * length ls) ∷ slots 56 0 ls (keys (56 + 4 * length ls) ls (values (end - 16 * length ls) ls []))) [])

abbrev leaf_root : List Line → List ℕ
leaf_root ls = node 7 0 216 ls

abbrev index_root : ℕ → List Line → List ℕ
index_root level ls = node 5 level 216 ls

abbrev leaf : ℕ → List Line → List ℕ
leaf level ls = node 6 level 256 ls

abbrev pairs : Description
pairs = record { flags = 16; key = 16; value = 16 }

-- the paper's number of an outcome, or 100 and the address that it gives
abbrev ended : Outcome Address → ℕ
ended (given a) = 100 + a.0
ended (refused r) = number_of r

-- the address of an id at an xid, in the tree with a root, over an image
abbrev looked : (ℕ → List ℕ) → Description → List ℕ → ℕ → ℕ → ℕ
looked f d b id xid = ended (run f (address_for (record { size = 256; count = 90; xid = xid }) d b (record { 0 = id })))

abbrev looked_in : List Line → ℕ → ℕ → ℕ
looked_in ls id xid = looked (λ n. []) pairs (leaf_root ls) id xid

-- two leaves, in blocks 2 and 3; any other block is empty
abbrev children : ℕ → ℕ → List ℕ
children level n = pick (eqb n 2) (leaf level (to 5 1 21 ∷ to 6 1 22 ∷ [])) (pick (eqb n 3) (leaf level (to 7 1 31 ∷ [])) [])

abbrev two : List Line
two = to 5 3 9 ∷ to 7 3 11 ∷ []

-- two keys out of order
abbrev swapped : List Line
swapped = to 7 3 11 ∷ to 5 3 9 ∷ []

abbrev versions : List Line
versions = to 5 1 21 ∷ to 5 4 22 ∷ to 5 9 23 ∷ []

-- a volume's superblock with the addresses of its map, extent-reference tree and snapshot tree; of another kind or magic it is none
unfoldable object : ℕ → ℕ → ℕ → ℕ → ℕ → List ℕ
unfolding sealed block_from
object kind magic map extents snapshots = sealed (block_from 256 0 (row 24 4 kind ∷ row 32 4 magic ∷ row 128 8 map ∷ row 144 8 extents ∷ row 152 8 snapshots ∷ []) [])

abbrev volume : ℕ → ℕ → ℕ → List ℕ
volume map extents snapshots = object 13 0x42535041 map extents snapshots

-- a container superblock with a count of places and the ids in the first three
unfoldable superblock : ℕ → ℕ → ℕ → ℕ → List ℕ
unfolding block_from
superblock places i j k = block_from 1024 0 (row 180 4 places ∷ row 184 8 i ∷ row 192 8 j ∷ row 200 8 k ∷ []) []

abbrev container : Container
container = record { size = 256; count = 90; xid = 3 }

-- 100 and how many superblocks were read, or the paper's number of the refusal
abbrev counted : Outcome (List (List ℕ)) → ℕ
counted (given vs) = 100 + length vs
counted (refused r) = number_of r

-- the object map has a volume with id 5 in block 9 and one with id 7 in block 11
abbrev volumes_of : (ℕ → List ℕ) → List ℕ → ℕ
volumes_of f sb = counted (run f (volumes_from container pairs (leaf_root two) sb (volume_places sb) 0))

abbrev good : ℕ → List ℕ
good n = pick (eqb n 9) (volume 30 40 0) (pick (eqb n 11) (volume 30 40 50) [])

-- the second has another kind, another magic, a checksum that fails
abbrev spoilt : List ℕ → ℕ → List ℕ
spoilt b n = pick (eqb n 9) (volume 30 40 0) (pick (eqb n 11) b [])

-- the claims of all volumes, over a map of 90 blocks: 100 and the overlaps, or the paper's number of the refusal
abbrev claimed : Outcome (Marked OverlapLog) → ℕ
claimed (given s) = 100 + overlap_total s.figures
claimed (refused r) = number_of r

abbrev free : Marked OverlapLog
free = record { map = replicate 90 0; figures = no_overlaps }

-- every definition of this layer and below it, named once: what says `unfolding computed` computes with them all
unfoldable computed : (ℕ → List ℕ) → List ℕ → Outcome (Marked OverlapLog)
unfolding le num field_at seal fletcher checksum verifies run visits ◌>>=◌ need read_raw read_object present field part sum value_end parse read_node describe fixed_slot variable_slot slot value_of entry pointer one_below children_from next_node each children_of walk_below walk is_above above above_at search_from search child_at lookup_from lookup_le live_address mapped_by volume_address is_volume read_volume address_for volume_for volume_at volumes_from claim_tree read_map claim_snapshots claim_volume claim_each claim_volumes claim_block claim_from claim claim_node update add_overlap count_claimant sum_of note no_overlaps block_from node object superblock
computed f sb = run f (claim_volumes container pairs (leaf_root two) sb free)

abbrev claims_of : (ℕ → List ℕ) → List ℕ → ℕ
claims_of f sb = claimed (computed f sb)

-- the blocks that the claims read, in order
abbrev reads : (ℕ → List ℕ) → List ℕ → List ℕ
reads f sb = visits f (claim_volumes container pairs (leaf_root two) sb free)

-- one map at 30 for both, whose root is at 31; one extent-reference tree at 40, a snapshot tree at 50 for the second alone; a node at
-- 60 that is no root
abbrev disk : ℕ → ℕ → ℕ → List ℕ
disk map extents n =
    pick (eqb n 9) (volume map extents 0) (pick (eqb n 11) (volume 30 40 50)
    (pick (eqb n 30) (block_from 256 0 (row 48 8 31 ∷ []) []) (pick (eqb n 60) (leaf 0 []) (pick (eqb n 31 || eqb n 40 || eqb n 50) (leaf_root []) []))))

-- who owns the blocks of the second volume then: its object map, the map's node, the nodes of its two other trees
abbrev owners : Outcome (Marked OverlapLog) → List ℕ
owners (given s) = owner_of (get_or s.map 30 0) ∷ owner_of (get_or s.map 31 0) ∷ owner_of (get_or s.map 40 0) ∷ owner_of (get_or s.map 50 0) ∷ []
owners (refused r) = []

table : List Bool
table =
    -- found, the only one and the second of two
    eqb (looked_in (to 5 3 9 ∷ []) 5 3) 109
    ∷ eqb (looked_in two 7 3) 111
    -- between two keys: the lower, which is this id's or another's
    ∷ eqb (looked_in two 5 8) 109
    ∷ eqb (looked_in two 6 3) 23
    -- above all, below all, and no keys
    ∷ eqb (looked_in two 7 99) 111
    ∷ eqb (looked_in two 9 3) 23
    ∷ eqb (looked_in two 4 3) 23
    ∷ eqb (looked_in two 5 2) 23
    ∷ eqb (looked_in [] 5 3) 23
    -- a ghost, a deleted mapping: 23 though an older one is good
    ∷ eqb (looked_in (empty 5 3 ∷ []) 5 3) 23
    ∷ eqb (looked_in (to 5 1 9 ∷ empty 5 3 ∷ []) 5 3) 23
    ∷ eqb (looked_in (deleted 5 3 9 ∷ []) 5 3) 23
    ∷ eqb (looked_in (to 5 1 9 ∷ deleted 5 3 9 ∷ []) 5 3) 23
    ∷ eqb (looked_in (to 5 1 9 ∷ deleted 5 3 9 ∷ []) 5 2) 109
    -- several xids of one id, the checkpoint's between them
    ∷ eqb (looked_in versions 5 6) 122
    ∷ eqb (looked_in versions 5 4) 122
    ∷ eqb (looked_in versions 5 3) 121
    ∷ eqb (looked_in versions 5 9) 123
    ∷ eqb (looked_in versions 5 0) 23
    -- out of order: of two keys the second is looked at first, so the first is never reached where the second isn't above
    ∷ eqb (looked_in swapped 5 3) 109
    ∷ eqb (looked_in swapped 7 3) 23
    ∷ eqb (looked_in swapped 4 3) 23
    -- keys of 8 bytes
    ∷ eqb (looked (λ n. []) (record { flags = 16; key = 8; value = 16 }) (leaf_root two) 7 3) 17
    -- down to a child; below the first key there is none
    ∷ eqb (looked (children 0) pairs (index_root 1 (down 5 1 2 ∷ down 7 1 3 ∷ [])) 6 1) 122
    ∷ eqb (looked (children 0) pairs (index_root 1 (down 5 1 2 ∷ down 7 1 3 ∷ [])) 7 1) 131
    ∷ eqb (looked (children 0) pairs (index_root 1 (down 6 1 2 ∷ down 7 1 3 ∷ [])) 5 1) 23
    -- a child at another level, at address 0, without a pointer
    ∷ eqb (looked (children 1) pairs (index_root 1 (down 5 1 2 ∷ [])) 6 1) 18
    ∷ eqb (looked (children 0) pairs (index_root 0 (down 5 1 2 ∷ [])) 6 1) 18
    ∷ eqb (looked (children 0) pairs (index_root 1 (down 5 1 0 ∷ [])) 6 1) 12
    ∷ eqb (looked (children 0) pairs (index_root 1 (empty 5 1 ∷ [])) 6 1) 17
    -- places: "zeros are skipped", an id may repeat, ids past the count don't count
    ∷ eqb (volumes_of good (superblock 3 5 0 7)) 102
    ∷ eqb (volumes_of good (superblock 2 5 0 7)) 101
    ∷ eqb (volumes_of good (superblock 0 5 0 7)) 100
    ∷ eqb (volumes_of good (superblock 3 5 5 5)) 103
    ∷ eqb (volumes_of good (superblock 3 5 6 7)) 23
    -- "100 at most"
    ∷ eqb (volume_places (superblock 101 5 0 7)) 100
    -- "24, .. given after its checksum"; and 13 before it, 12 at address 0
    ∷ eqb (volumes_of (spoilt (object 12 0x42535041 30 40 0)) (superblock 3 5 7 0)) 24
    ∷ eqb (volumes_of (spoilt (object 13 0x4253584e 30 40 0)) (superblock 3 5 7 0)) 24
    ∷ eqb (volumes_of (spoilt (1 ∷ drop 1 (volume 30 40 0))) (superblock 3 5 7 0)) 13
    ∷ eqb (counted (run good (volumes_from container pairs (leaf_root (to 5 3 0 ∷ [])) (superblock 1 5 0 0) 1 0))) 12
    -- both volumes claimed, the same blocks by the same kinds: no overlap
    ∷ eqb (claims_of (disk 30 40) (superblock 2 5 7 0)) 100
    -- "All volume superblocks are read first": the second's 23 before the first's 12 for its map
    ∷ eqb (claims_of (disk 0 40) (superblock 2 5 7 0)) 12
    ∷ eqb (claims_of (disk 0 40) (superblock 2 5 6 0)) 23
    -- an extent-reference tree at 0 is 12, a snapshot tree at 0 is none; the map's nodes are 7s, so an extent-reference tree there overlaps
    ∷ eqb (claims_of (disk 30 0) (superblock 1 5 0 0)) 12
    ∷ eqb (claims_of (disk 30 31) (superblock 1 5 0 0)) 101
    -- one volume's extent-reference tree is the other's snapshot tree
    ∷ eqb (claims_of (disk 30 50) (superblock 2 5 7 0)) 101
    -- a map's claim comes before its read: 21 before 12, which is for a map past the count as well
    ∷ eqb (claims_of (disk (2 ^ 64 - 1) 40) (superblock 1 5 0 0)) 21
    ∷ eqb (claims_of (disk 90 40) (superblock 1 5 0 0)) 12
    -- a description is wanted from a root
    ∷ eqb (claims_of (disk 30 60) (superblock 1 5 0 0)) 15
    ∷ []

-- a superblock right after its lookup; then each volume's map, trees and no snapshot tree at 0
order : reads (disk 30 40) (superblock 2 5 7 0) ≡ 9 ∷ 11 ∷ 30 ∷ 31 ∷ 31 ∷ 40 ∷ 40 ∷ 30 ∷ 31 ∷ 31 ∷ 40 ∷ 40 ∷ 50 ∷ 50 ∷ []
unfolding computed
order = refl

-- "claim its object map and map nodes (kinds 6 and 7 ..), its extent-reference tree nodes (10) and .. its snapshot tree nodes (11)"
owned : owners (computed (disk 30 40) (superblock 1 7 0 0)) ≡ 6 ∷ 7 ∷ 10 ∷ 11 ∷ []
unfolding computed
owned = refl

samples : T (every table)
unfolding table computed
samples = tt
