-- The lists that the code reads in place: what they hold, and what a test or a read of one answers.
use Rattle.std.specs.Prelude.{List, [], ◌∷◌, ℕ, zero, suc, ◌+◌, ◌*◌, Result}
use Rattle.fields.specs.clauses.Numbers.{NumberAt}
use Rattle.fields.specs.Fields.{num}
use Rattle.blocks.specs.clauses.Answers.{there_as, Always}
use Rattle.blocks.specs.clauses.Images.{Lent, blocks_in}
use Rattle.blocks.specs.declared.Address.{Address}
use Rattle.blocks.specs.declared.Container.{Container}
use Rattle.blocks.specs.declared.Refusal.{Refusal}
use Rattle.manager.specs.Manager.{list_from, pool_indices, pool_bitmaps, pool_indices_at, pool_ring_blocks, free_next_at, free_next, listed_at, listed_count, address_count, addresses_at}
use Rattle.manager.specs.Chunks.{chunk_at, chunk_length, chunk_count, chunks_at, chunks_of}
use Rattle.manager.specs.clauses.Place.{placed}
use Rattle.manager.specs.declared.AddressList.{AddressList}
use Rattle.manager.specs.declared.Chunk.{Chunk}
use Rattle.manager.specs.declared.Holder.{Holder}
use Rattle.manager.specs.declared.Holder.TheVariants.{InManager, InBlock}
use Rattle.manager.specs.declared.Manager.{Manager}

-- left fields of w bytes from off on
unfoldable pub values : ℕ → List ℕ → ℕ → ℕ → List ℕ
values w sm zero off = []
values w sm (suc left) off = num w sm off ∷ values w sm left (off + w)

-- left records of chunks from byte e on
unfoldable pub records : List ℕ → ℕ → ℕ → List Chunk
records b zero e = []
records b (suc left) e = chunk_at b e ∷ records b left (e + chunk_length)

-- n fields of w bytes from off on: all of them, where they may be read whole
abbrev pub FieldsSeen : ℕ → List ℕ → ℕ → ℕ → Result (Unit {0}) Refusal → Type 0
FieldsSeen w sm n off r = Always (there_as (values w sm n off) r) (list_from w sm n off)

-- a list of ring indices, whole, by where its count and its offset stand
abbrev pub IndexList : List ℕ → ℕ → ℕ → Result (Unit {0}) Refusal → Type 0
IndexList sm counted offset r = FieldsSeen 2 sm (num 4 sm counted) (num 4 sm offset) r

-- the indices of the pool's bitmap blocks, whole; the table of the ring's free list; and an index of either
abbrev pub IndicesSeen : List ℕ → Result (Unit {0}) Refusal → Type 0
IndicesSeen sm r = Always (there_as (values 2 sm (pool_bitmaps sm) (pool_indices_at sm)) r) (pool_indices sm)

abbrev pub FreeNextSeen : List ℕ → Result (Unit {0}) Refusal → Type 0
FreeNextSeen sm r = Always (there_as (values 2 sm (pool_ring_blocks sm) (free_next_at sm)) r) (free_next sm)

abbrev pub IndexRead : List ℕ → ℕ → ℕ → ℕ → Type 0
IndexRead sm at i r = NumberAt 2 sm (at + 2 * i) r

-- the bytes of what holds a list of addresses, in the image whose block n is f n
abbrev pub held : (ℕ → List ℕ) → ℕ → Holder → List ℕ
held f size (InManager m) = placed f size m
held f size (InBlock a) = f a.0

abbrev pub held_on : Lent → Container → Holder → List ℕ
held_on image c h = held (blocks_in image.entry c) c.size h

-- the main device's list in a manager, and that of an address block
abbrev pub listed_in : List ℕ → Manager → AddressList
listed_in sm m = record { holder = InManager m; at = listed_at sm; count = listed_count sm }

abbrev pub addresses_in : List ℕ → Address → AddressList
addresses_in b a = record { holder = InBlock a; at = addresses_at; count = address_count b }

-- a list of addresses, whole, and one of them
abbrev pub AddressesSeen : Lent → Container → AddressList → Result (Unit {0}) Refusal → Type 0
AddressesSeen image c l r = FieldsSeen 8 (held_on image c l.holder) l.count l.at r

abbrev pub AddressRead : Lent → Container → AddressList → ℕ → ℕ → Type 0
AddressRead image c l i r = NumberAt 8 (held_on image c l.holder) (l.at + 8 * i) r

abbrev pub ChunksSeen : List ℕ → Result (Unit {0}) Refusal → Type 0
ChunksSeen b r = Always (there_as (records b (chunk_count b) chunks_at) r) (chunks_of b)
