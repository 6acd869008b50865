-- Physical walks over trees that are too deep, too wide, or cyclic ("walking a cyclic tree until memory ends" is a misreading).
use mathlib.Core.Bool.{Bool}
use mathlib.Core.List.{List, [], ◌∷◌}
use Prim.Native.Nat.{ℕ, zero, suc, ◌+◌, ◌*◌}
use lib.Dec.{T, eqb, ltb}
use lib.ListN.{drop}
use Rattle.fields.specs.Choice.{pick}
use Rattle.fields.specs.Fields.{le, num, field_at}
use Rattle.fields.proofs.Rows.{Row, row, bytes_of, block_from, every}
use Rattle.fletcher.specs.Fletcher.{seal, fletcher, checksum, verifies}
use Rattle.blocks.specs.Reads.{Outcome, given, refused, run, done, ◌>>=◌, need}
use Rattle.blocks.specs.Blocks.{read_object, present, field, part}
use Rattle.blocks.specs.Refusals.{number_of}
use Rattle.nodes.specs.Node.{value_end, parse, read_node, fixed_slot, variable_slot, slot, value_of, entry, pointer}
use Rattle.nodes.specs.Walk.{children_from, next_node, each, children_of, walk_below, walk}
use Rattle.nodes.specs.declared.Description.{Description}

-- a node of 256 bytes that verifies
unfoldable sealed : List ℕ → List ℕ
unfolding checksum fletcher seal bytes_of
sealed b = bytes_of 8 (checksum b) (drop 8 b)

-- the table of an index node whose entries, from the i-th on, have an empty key and the node's last eight bytes for a value
unfoldable slots_from : ℕ → ℕ → List Row → List Row
slots_from zero i rows = rows
slots_from (suc left) i rows = row (60 + i * 8) 2 8 ∷ row (62 + i * 8) 2 8 ∷ slots_from left (i + 1) rows

-- an index node with so many entries, each pointing at block a; and a leaf
unfoldable index : ℕ → ℕ → List ℕ
unfolding sealed block_from slots_from
index keys a = sealed (block_from 256 0 (row 24 4 3 ∷ row 36 4 keys ∷ row 42 2 (keys * 8) ∷ slots_from keys 0 (row 248 8 a ∷ [])) [])

unfoldable leaf : List ℕ
unfolding sealed block_from
leaf = sealed (block_from 256 0 (row 24 4 3 ∷ row 32 2 2 ∷ []) [])

abbrev variable : Description
variable = record { flags = 0; key = 0; value = 0 }

-- the paper's number of an outcome, or 100 and what it gives
abbrev ended : Outcome ℕ → ℕ
ended (given n) = 100 + n
ended (refused r) = number_of r

-- the nodes of the tree whose root is block 1, counted, in a container of so many blocks
abbrev walked : (ℕ → List ℕ) → ℕ → ℕ
walked f count = ended (run f (walk (λ (n : ℕ) a. done (n + 1)) (record { size = 256; count = count; xid = 0 }) variable (record { 0 = 1 }) 0))

-- block n points at block n + 1, down to a leaf at the last
abbrev chain : ℕ → ℕ → List ℕ
chain last n = pick (ltb n last) (index 1 (n + 1)) leaf

-- a root with so many entries, all of them the leaf at block 2
abbrev wide : ℕ → ℕ → List ℕ
wide keys n = pick (eqb n 1) (index keys 2) leaf

table : List Bool
table =
    -- "a 34th level, the root being the first"
    eqb (walked (chain 33) 100) 133
    ∷ eqb (walked (chain 34) 100) 22
    -- an index node without entries needs no level below it
    ∷ eqb (walked (λ n. index 0 0) 100) 101
    -- "more nodes than there are blocks", visits counted and not blocks
    ∷ eqb (walked (wide 15) 16) 116
    ∷ eqb (walked (wide 16) 16) 22
    -- a node that points at itself
    ∷ eqb (walked (λ n. index 1 1) 16) 22
    ∷ eqb (walked (λ n. index 2 1) 1000) 22
    ∷ []

samples : T (every table)
unfolding table le num field_at seal fletcher checksum verifies run ◌>>=◌ need read_object present field part value_end parse read_node fixed_slot variable_slot slot value_of entry pointer children_from next_node each children_of walk_below walk index leaf
samples = tt
