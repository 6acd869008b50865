-- The descriptor area and the checkpoint map read in place: what the code, which keeps no list, gives for the lists of the definition.
use Rattle.std.specs.Prelude.{Bool, true, false, ◌&&◌, List, [], ◌∷◌, ℕ, zero, suc, ◌+◌, pred, ltb, Option, Some, None}
use Rattle.std.proofs.Common.{ControlFlow, Continue, Break}
use Rattle.fields.specs.Choice.{pick, choose}
use Rattle.blocks.specs.Reads.{Outcome, given, refused}
use Rattle.blocks.specs.declared.Address.{Address}
use Rattle.blocks.specs.declared.ObjectId.{ObjectId}
use Rattle.checkpoint.specs.Superblock.{descriptor_length}
use Rattle.checkpoint.specs.Map.{chain_address, belongs_to, ends_chain, mappings_of, lookup}
use Rattle.checkpoint.specs.declared.Checkpoint.{Checkpoint}
use Rattle.checkpoint.specs.declared.Geometry.{Geometry}
use Rattle.checkpoint.specs.declared.Mapping.{Mapping}

-- the blocks of an image from block n on, of which left are left: the descriptor area, as a list
unfoldable pub blocks_from : (ℕ → List ℕ) → ℕ → ℕ → List (List ℕ)
blocks_from f zero n = []
blocks_from f (suc left) n = f n ∷ blocks_from f left (n + 1)

-- what a walk does at a block: it ends with an answer, or goes on
abbrev pub Turn : Type 0 → Type 0
Turn A = ControlFlow A (Unit {0})

abbrev pub turn_then : {A : Type 0} → Turn A → (Unit {0} → A) → A
turn_then (Break a) rest = a
turn_then (Continue u) rest = rest u

-- the turns from k on, of which left are left; last where none of them ends the walk
unfoldable pub turns : {A : Type 0} → (ℕ → Turn A) → A → ℕ → ℕ → A
turns turn last zero k = last
turns turn last (suc left) k = turn_then (turn k) (λ _. turns turn last left (k + 1))

-- where block k of a chain stands, unless its address is a bad one
unfoldable pub link_of : Geometry → List ℕ → ℕ → Option Address
link_of g sb k = pick (ltb 0 (chain_address g sb k) && ltb (chain_address g sb k) g.count) (Some (record { 0 = chain_address g sb k })) None

-- whether a chain loads, by one of its blocks
abbrev pub test_of : Bool → Bool → Turn Bool
test_of false ends = Break false
test_of true true = Break true
test_of true false = Continue tt

abbrev pub test_at : (ℕ → List ℕ) → List ℕ → Option Address → Turn Bool
test_at f sb None = Break false
test_at f sb (Some a) = test_of (belongs_to sb (f a.0)) (ends_chain (f a.0))

-- an id looked for in one of them, whose tests were made when the chain was loaded
abbrev pub look_of : Option Mapping → Bool → Turn (Option Mapping)
look_of (Some m) ends = Break (Some m)
look_of None true = Break None
look_of None false = Continue tt

abbrev pub look_at : (ℕ → List ℕ) → ObjectId → Option Address → Turn (Option Mapping)
look_at f id None = Break None
look_at f id (Some a) = look_of (lookup id (mappings_of (f a.0))) (ends_chain (f a.0))

-- what block k of a chain tells of its loading, and of an id
abbrev pub test_turn : (ℕ → List ℕ) → Geometry → List ℕ → ℕ → Turn Bool
test_turn f g sb k = test_at f sb (link_of g sb k)

abbrev pub look_turn : (ℕ → List ℕ) → Geometry → List ℕ → ObjectId → ℕ → Turn (Option Mapping)
look_turn f g sb id k = look_at f id (link_of g sb k)

-- an id looked for along the chain of a superblock; a ring without blocks holds no superblock
unfoldable pub lookup_in : (ℕ → List ℕ) → Geometry → List ℕ → ObjectId → Option Mapping
lookup_in f g sb id =
    choose (ltb 0 g.ring) (λ _. turns (look_turn f g sb id) None (pred (descriptor_length sb)) 0) (λ _. None)

-- what the map of a checkpoint's superblock has for an id
abbrev pub mapped_in : (ℕ → List ℕ) → Checkpoint → ObjectId → Option Mapping
mapped_in f k id = lookup_in f k.geometry (f k.superblock.0) id

-- the map of a chain, and whether it loads
abbrev pub map_of : Outcome (Option (List Mapping)) → List Mapping
map_of (given (Some ms)) = ms
map_of (given None) = []
map_of (refused r) = []

abbrev pub loads : Outcome (Option (List Mapping)) → Bool
loads (given (Some ms)) = true
loads (given None) = false
loads (refused r) = false
