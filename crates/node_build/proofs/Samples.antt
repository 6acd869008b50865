-- The definition computed. Nodes of the original's `build` (btree_write.rs): a queue's root of fixed sizes with a ghost, and an
-- index node of variable sizes, packed and padded; then what is refused and what is not, on either side of each boundary.
use mathlib.Core.Bool.{Bool, true, false}
use mathlib.Core.List.{List, [], ◌∷◌}
use Prim.Native.Nat.{ℕ, zero, suc, ◌-◌, ◌^◌}
use lib.Dec.{T, eqb}
use lib.ListN.{replicate}
use Rattle.fields.specs.Fields.{le, num}
use Rattle.fields.proofs.Rows.{Row, row, block_from, same, every}
use Rattle.fletcher.specs.Fletcher.{seal, fletcher}
use Rattle.writers.specs.Bytes.{le_bytes}
use Rattle.checkpoint.specs.Geometry.{power_from, size_allowed}
use Rattle.node_build.specs.declared.Sizes.{Sizes}
use Rattle.node_build.specs.declared.Sizes.TheVariants.{Fixed, Variable}
use Rattle.node_build.specs.Build.{is_packed, padded_length, padded, value_bytes, keys, values, offset_of, length_of, slot_width, slot_bytes, slots_from, leaf_level, space, slots, key_bytes, all_values, room, reserved, table_length, fits, free_length, fixed_flag, flags, object_header, shape, no_lists, areas, table, description, unsealed, sealed, node}
use Rattle.node_build.specs.Asked.{Handed, ghost_length, taken, value_in, entries_in, takes, well_formed, build_from, build_node, built_number}

-- a node that is built over old bytes, and its rows
abbrev built : Handed → List Row → Bool
built h rows = same (build_node (replicate 4096 165) h).node (block_from 4096 0 rows [])

abbrev queue_root : Bool
queue_root =
    built (record {
      header = record { oid = 1025; xid = 7; obj_type = 2147483650; subtype = 9; level = 0; root = true };
      sizes = Fixed 16 8;
      info = 16 ∷ 0 ∷ 0 ∷ 0 ∷ 0 ∷ 16 ∷ 0 ∷ 0 ∷ 16 ∷ 0 ∷ 0 ∷ 0 ∷ 8 ∷ 0 ∷ 0 ∷ 0 ∷ 16 ∷ 0 ∷ 0 ∷ 0 ∷ 8 ∷ 0 ∷ 0 ∷ 0 ∷ 3 ∷ 0 ∷ 0 ∷ 0 ∷ 0 ∷ 0 ∷ 0 ∷ 0 ∷ 1 ∷ 0 ∷ 0 ∷ 0 ∷ 0 ∷ 0 ∷ 0 ∷ 0 ∷ [];
      parts = 7 ∷ 0 ∷ 0 ∷ 0 ∷ 0 ∷ 0 ∷ 0 ∷ 0 ∷ 6 ∷ 0 ∷ 0 ∷ 0 ∷ 0 ∷ 0 ∷ 0 ∷ 0 ∷ 7 ∷ 0 ∷ 0 ∷ 0 ∷ 0 ∷ 0 ∷ 0 ∷ 0 ∷ 8 ∷ 0 ∷ 0 ∷ 0 ∷ 0 ∷ 0 ∷ 0 ∷ 0 ∷ 5 ∷ 0 ∷ 0 ∷ 0 ∷ 0 ∷ 0 ∷ 0 ∷ 0 ∷ 8 ∷ 0 ∷ 0 ∷ 0 ∷ 0 ∷ 0 ∷ 0 ∷ 0 ∷ 1 ∷ 0 ∷ 0 ∷ 0 ∷ 0 ∷ 0 ∷ 0 ∷ 0 ∷ 44 ∷ 1 ∷ 0 ∷ 0 ∷ 0 ∷ 0 ∷ 0 ∷ 0 ∷ [];
      lengths = 16 ∷ ghost_length ∷ 16 ∷ 8 ∷ 16 ∷ 8 ∷ [];
    }) (
    row 0 8 4300941643639875142
    ∷ row 8 8 1025
    ∷ row 16 8 7
    ∷ row 24 8 40802189314
    ∷ row 32 8 12884901895
    ∷ row 40 8 945756127943983104
    ∷ row 48 8 281470681808895
    ∷ row 56 8 2251872828063744
    ∷ row 64 8 1048608
    ∷ row 632 8 7
    ∷ row 640 8 6
    ∷ row 648 8 7
    ∷ row 656 8 8
    ∷ row 664 8 8
    ∷ row 672 8 1
    ∷ row 4040 8 300
    ∷ row 4048 8 5
    ∷ row 4056 8 17592186044432
    ∷ row 4064 8 34359738384
    ∷ row 4072 8 34359738384
    ∷ row 4080 8 3
    ∷ row 4088 8 1
    ∷ []
    )

-- four entries, of variable sizes, one a ghost and one empty
abbrev index_node : ℕ → ℕ → Handed
index_node xid flags =
    record {
      header = record { oid = 8738; xid = xid; obj_type = 3; subtype = 14; level = 3; root = false };
      sizes = Variable;
      info = flags ∷ 0 ∷ 0 ∷ 0 ∷ 0 ∷ 16 ∷ 0 ∷ 0 ∷ 0 ∷ 0 ∷ 0 ∷ 0 ∷ 0 ∷ 0 ∷ 0 ∷ 0 ∷ 11 ∷ 0 ∷ 0 ∷ 0 ∷ 9 ∷ 0 ∷ 0 ∷ 0 ∷ 0 ∷ 0 ∷ 0 ∷ 0 ∷ 0 ∷ 1 ∷ 0 ∷ 0 ∷ 77 ∷ 0 ∷ 0 ∷ 0 ∷ 0 ∷ 0 ∷ 0 ∷ 0 ∷ [];
      parts = 97 ∷ 98 ∷ 99 ∷ 1 ∷ 2 ∷ 3 ∷ 4 ∷ 5 ∷ 6 ∷ 7 ∷ 8 ∷ 104 ∷ 101 ∷ 108 ∷ 108 ∷ 111 ∷ 32 ∷ 119 ∷ 111 ∷ 114 ∷ 108 ∷ 100 ∷ 122 ∷ 122 ∷ 49 ∷ 50 ∷ 51 ∷ 52 ∷ 53 ∷ 54 ∷ 55 ∷ 56 ∷ 57 ∷ [];
      lengths = 3 ∷ 8 ∷ 0 ∷ 0 ∷ 11 ∷ ghost_length ∷ 2 ∷ 9 ∷ [];
    }

abbrev packed_index : Bool
packed_index =
    built (index_node (2 ^ 64 - 1) 64) (
    row 0 8 15664719658091380027
    ∷ row 8 8 8738
    ∷ row 16 8 18446744073709551615
    ∷ row 24 8 60129542147
    ∷ row 32 8 17180065792
    ∷ row 40 8 1091841503388499968
    ∷ row 48 8 281470681808895
    ∷ row 56 8 2251834173620224
    ∷ row 64 8 34359738371
    ∷ row 72 8 281470682464259
    ∷ row 80 8 2533347804971022
    ∷ row 184 8 8028911418493592161
    ∷ row 192 8 8825476836725061408
    ∷ row 4072 8 3530822107858468864
    ∷ row 4080 8 4123106164818064178
    ∷ row 4088 8 578437695752307201
    ∷ []
    )

abbrev padded_index : Bool
padded_index =
    built (index_node 5 0) (
    row 0 8 8153834599995170862
    ∷ row 8 8 8738
    ∷ row 16 8 5
    ∷ row 24 8 60129542147
    ∷ row 32 8 17180065792
    ∷ row 40 8 1085367647643631616
    ∷ row 48 8 281470681808895
    ∷ row 56 8 2251834173620224
    ∷ row 64 8 34359738376
    ∷ row 72 8 281470682464264
    ∷ row 80 8 2533377869742104
    ∷ row 184 8 6513249
    ∷ row 192 8 8031924123371070824
    ∷ row 200 8 6581362
    ∷ row 208 8 31354
    ∷ row 4072 8 4050765991979987505
    ∷ row 4080 8 57
    ∷ row 4088 8 578437695752307201
    ∷ []
    )

-- so many entries of a key's and a value's length
abbrev entries : ℕ → ℕ → ℕ → List ℕ
entries zero k v = []
entries (suc n) k v = k ∷ v ∷ entries n k v

-- the number that a request is answered with: bytes of the node, root, level, sizes, bytes of the description, bytes of the entries,
-- their lengths
abbrev answer : ℕ → Bool → ℕ → Sizes → ℕ → ℕ → List ℕ → ℕ
answer size root level z info parts lengths =
    built_number (build_node (replicate size 165) (record {
      header = record { oid = 1; xid = 1; obj_type = 2; subtype = 0; level = level; root = root };
      sizes = z;
      info = replicate info 0;
      parts = replicate parts 0;
      lengths = lengths;
    })).answer

unfoldable tests : List Bool
tests =
    queue_root
    ∷ packed_index
    ∷ padded_index
    -- sizes that refusal 3 doesn't admit
    ∷ eqb (answer 4095 true 0 Variable 40 0 []) 26
    ∷ eqb (answer 0 false 0 Variable 40 0 []) 26
    ∷ eqb (answer 6144 true 0 Variable 40 0 []) 26
    ∷ eqb (answer 4096 true 0 Variable 40 0 []) 0
    -- fixed sizes: by slots, of which a root of 4,096 bytes has 144; room in bytes doesn't help
    ∷ eqb (answer 4096 true 0 (Fixed 16 8) 40 2304 (entries 144 16 ghost_length)) 0
    ∷ eqb (answer 4096 true 0 (Fixed 16 8) 40 2320 (entries 145 16 ghost_length)) 26
    -- an index node's values count 8, whatever is stated: 144 slots too, where 5,000 would leave none
    ∷ eqb (answer 4096 true 1 (Fixed 16 5000) 40 24 (16 ∷ 8 ∷ [])) 0
    ∷ eqb (answer 4096 true 0 (Fixed 16 5000) 40 24 (16 ∷ 8 ∷ [])) 26
    -- the table alone: sizes 0 and 0 don't fit a node that isn't a root, and fill a root
    ∷ eqb (answer 4096 false 0 (Fixed 0 0) 40 0 []) 26
    ∷ eqb (answer 4096 true 0 (Fixed 0 0) 40 0 (entries 1000 0 0)) 0
    ∷ eqb (answer 4096 true 0 (Fixed 0 0) 40 0 (entries 1001 0 0)) 26
    -- sizes that leave no slot: a table of 0 bytes, and no entry
    ∷ eqb (answer 4096 true 0 (Fixed 5000 5000) 40 0 []) 0
    ∷ eqb (answer 4096 true 0 (Fixed 5000 5000) 40 0 (0 ∷ ghost_length ∷ [])) 26
    -- variable sizes: by bytes, 3,872 beside 16 slots in a root
    ∷ eqb (answer 4096 true 0 Variable 40 3872 (3000 ∷ 872 ∷ [])) 0
    ∷ eqb (answer 4096 true 0 Variable 40 3873 (3000 ∷ 873 ∷ [])) 26
    -- no list of entries: that comes before 26
    ∷ eqb (answer 0 true 0 Variable 39 0 []) 17
    ∷ eqb (answer 0 true 0 Variable 41 0 []) 26
    ∷ eqb (answer 0 true 0 Variable 40 8 (8 ∷ [])) 17
    ∷ eqb (answer 4096 true 0 Variable 40 23 (16 ∷ 8 ∷ [])) 17
    ∷ eqb (answer 4096 true 0 Variable 40 24 (16 ∷ 8 ∷ [])) 0
    ∷ eqb (answer 4096 true 0 Variable 40 16 (16 ∷ ghost_length ∷ [])) 0
    ∷ eqb (answer 4096 true 0 Variable 40 16 (ghost_length ∷ 16 ∷ [])) 17
    ∷ []

samples : T (every tests)
unfolding tests le num seal fletcher block_from le_bytes power_from size_allowed is_packed padded_length padded value_bytes keys values offset_of length_of slot_width slot_bytes slots_from leaf_level space slots key_bytes all_values room reserved table_length fits free_length fixed_flag flags object_header shape no_lists areas table description unsealed sealed node taken value_in entries_in takes well_formed build_from build_node
samples = tt
