-- The outcome that each answer of the code stands for.
use Rattle.std.specs.Prelude.{Bool, not, ◌||◌, ◌&&◌, List, ℕ, leb, eqb, take, drop, Some, None}
use Rattle.std.specs.Prelude.{Option}
use Rattle.fields.specs.Header.{kind_of, root_node_kind, node_kind}
use Rattle.nodes.specs.Node.{is_hashed, level_of, keys_at, value_end, deepest_level, Entry}
use Rattle.nodes.specs.declared.EntryPlace.{EntryPlace}
use Rattle.nodes.specs.declared.Part.{Part}

-- the tests of a node as the code makes them: those that refuse alike in one
abbrev pub is_node : List ℕ → Bool
is_node b = eqb (kind_of b) root_node_kind || eqb (kind_of b) node_kind

abbrev pub is_plain : List ℕ → Bool
is_plain b = is_node b && not (is_hashed b)

abbrev pub is_sound : List ℕ → Bool
is_sound b = leb (keys_at b) (value_end b) && leb (level_of b) deepest_level

-- parts are answered as places in their node: the bytes that stand there
abbrev pub part_in : List ℕ → Part → List ℕ
part_in b p = take p.len (drop p.at b)

-- a ghost has none
abbrev pub value_in : List ℕ → Option Part → Option (List ℕ)
value_in b None = None
value_in b (Some p) = Some (part_in b p)

abbrev pub entry_in : List ℕ → EntryPlace → Entry
entry_in b e = record { key = part_in b e.key; value = value_in b e.value }
