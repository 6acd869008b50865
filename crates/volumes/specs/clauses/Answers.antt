-- What the code's answers stand for.
use Rattle.std.specs.Prelude.{List, [], ◌∷◌, ◌≡◌, ℕ, zero, suc, ◌+◌, eqb}
use Rattle.std.specs.Prelude.{Option, Some, None, Result, Ok, Err}
use Rattle.std.specs.Borrow.{Bor}
use Rattle.fields.specs.Choice.{choose}
use Rattle.blocks.specs.Reads.{Reads, done, Outcome, given, refused, run, ◌>>=◌}
use Rattle.blocks.specs.clauses.Images.{Lent, bytes, blocks_in, Pass}
use Rattle.blocks.specs.clauses.Answers.{outcome, outcome_by, slice_as, Always}
use Rattle.blocks.specs.declared.Address.{Address}
use Rattle.blocks.specs.declared.Container.{Container}
use Rattle.blocks.specs.declared.ObjectId.{ObjectId}
use Rattle.blocks.specs.declared.Refusal.{Refusal}
use Rattle.nodes.specs.Node.{Entry}
use Rattle.nodes.specs.clauses.Answers.{entry_in}
use Rattle.nodes.specs.declared.Description.{Description}
use Rattle.nodes.specs.declared.EntryPlace.{EntryPlace}
use Rattle.checkpoint.specs.Superblock.{volume_places, volume_id}
use Rattle.block_map.specs.BlockMap.{Marked}
use Rattle.report.specs.declared.Cursor.{Cursor}
use Rattle.report.specs.declared.OverlapLog.{OverlapLog}
use Rattle.volumes.specs.Lookup.{lookup_from, lookup_le}
use Rattle.volumes.specs.Volumes.{mapped_by, address_for, volume_for, volume_at, claim_volume, claim_volumes}
use Rattle.volumes.specs.declared.LeafEntry.{LeafEntry}
use Rattle.volumes.specs.declared.ObjectMap.{ObjectMap}
use Rattle.volumes.specs.declared.Turn.{Turn}
use Rattle.volumes.specs.declared.Turn.TheVariants as turn

-- how a lookup ends, once a node's turn has told where it goes; so many levels lie below
unfoldable pub along_turn : Container → Description → ObjectId → (ℕ → List ℕ) → ℕ → List ℕ → Result Turn Refusal → Outcome (Option Entry)
along_turn c d id f level b (Ok turn.Nothing) = given None
along_turn c d id f level b (Ok (turn.At p)) = given (Some (entry_in b p))
along_turn c d id f level b (Ok (turn.Down a)) = run f (lookup_from c d id level (f a.0))
along_turn c d id f level b (Err r) = refused r

-- the turn of the node at an address, below which so many levels lie
abbrev pub TurnAt : Lent → Container → Description → ObjectId → Address → ℕ → Result Turn Refusal → Type 0
TurnAt image c d id a level r =
    let f = blocks_in image.entry c in along_turn c d id f level (f a.0) r ≡ run f (lookup_from c d id (suc level) (f a.0))

-- an entry is answered by its node's block and its place there
abbrev pub entry_at : (ℕ → List ℕ) → Option LeafEntry → Option Entry
entry_at f None = None
entry_at f (Some e) = Some (entry_in (f e.node.0) e.place)

-- the entry that a lookup in the object map reaches
abbrev pub Reaches : Lent → ObjectMap → ObjectId → Result (Option LeafEntry) Refusal → Type 0
Reaches image o id r = let f = blocks_in image.entry o.container in outcome_by (entry_at f) r ≡ run f (lookup_le o.container o.description id (f o.root.0))

-- the address in a mapping, and the one that the object map has for an id
abbrev pub MapsTo : Lent → EntryPlace → ObjectId → Result Address Refusal → Type 0
MapsTo node e id r = let x = entry_in (bytes node) e in Always (outcome r) (mapped_by id x.key x.value)

abbrev pub AddressIn : Lent → ObjectMap → ObjectId → Result Address Refusal → Type 0
AddressIn image o id r = let f = blocks_in image.entry o.container in outcome r ≡ run f (address_for o.container o.description (f o.root.0) id)

-- the superblock of the volume with an id; so for a place, where there may be none
abbrev pub SeesVolume : Lent → ObjectMap → ObjectId → Result (Bor (List ℕ)) Refusal → Type 0
SeesVolume image o id r = let f = blocks_in image.entry o.container in slice_as r ≡ run f (volume_for o.container o.description (f o.root.0) id)

abbrev pub listed : Option (Bor (List ℕ)) → List (List ℕ)
listed None = []
listed (Some v) = v.now ∷ []

abbrev pub SeesPlace : Lent → ObjectMap → ObjectId → Result (Option (Bor (List ℕ))) Refusal → Type 0
SeesPlace image o id r = let f = blocks_in image.entry o.container in outcome_by listed r ≡ run f (volume_at o.container o.description (f o.root.0) id)

-- the places of the superblock sb from the i-th on, of which left are left: whether their volumes are there
module _ (c : Container) (d : Description) (b sb : List ℕ) where
  unfoldable pub there_from : ℕ → ℕ → Reads (Unit {0})
  there_from zero i = done tt
  there_from (suc left) i = volume_at c d b (volume_id sb i) >>= λ _. there_from left (i + 1)

-- and the claims of a place's volume, which is looked up again and its superblock taken as it is; so of those places' volumes
module _ (f : ℕ → List ℕ) (c : Container) (d : Description) (b : List ℕ) where
  unfoldable pub claim_again : ObjectId → Marked OverlapLog → Reads (Marked OverlapLog)
  claim_again id s = choose (eqb id.0 0) (λ _. done s) (λ _. address_for c d b id >>= λ a. claim_volume c (f a.0) s)

  unfoldable pub claims_from : List ℕ → ℕ → ℕ → Marked OverlapLog → Reads (Marked OverlapLog)
  claims_from sb zero i s = done s
  claims_from sb (suc left) i s = claim_again (volume_id sb i) s >>= claims_from sb left (i + 1)

-- whether all superblocks that sb names may be read
abbrev pub SeesVolumes : Lent → ObjectMap → Lent → Result (Unit {0}) Refusal → Type 0
SeesVolumes image o sb r =
    let f = blocks_in image.entry o.container in outcome r ≡ run f (there_from o.container o.description (f o.root.0) (bytes sb) (volume_places (bytes sb)) 0)

-- the claims of a place's volume, and of those of the places from a cursor on; of all places, and of all volumes, once their superblocks were read
abbrev pub claims_place : ObjectMap → ObjectId → Pass (Marked OverlapLog) (Marked OverlapLog)
claims_place o id f = claim_again f o.container o.description (f o.root.0) id

abbrev pub places_left : ObjectMap → List ℕ → Cursor → Pass (Marked OverlapLog) (Marked OverlapLog)
places_left o sb at f = claims_from f o.container o.description (f o.root.0) sb at.left at.next

abbrev pub claims_places : ObjectMap → Lent → Pass (Marked OverlapLog) (Marked OverlapLog)
claims_places o sb = places_left o (bytes sb) (record { next = 0; left = volume_places (bytes sb) })

abbrev pub claims_volumes : Container → Description → Address → Lent → Pass (Marked OverlapLog) (Marked OverlapLog)
claims_volumes c d root sb f = claim_volumes c d (f root.0) (bytes sb)
