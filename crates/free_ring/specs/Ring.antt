-- The walk along the free list of the pool bitmap's ring: "start at the free head and go on through the free-next table up to and
-- including the free tail". Quoted sentences are of document 02.
use Rattle.std.specs.Prelude.{Bool, true, false, not, ◌&&◌, ◌||◌, List, [], ◌∷◌, ◌++◌, ℕ, zero, suc, ltb, eqb, length, get_or}
use Rattle.fields.specs.Choice.{choose}
use Rattle.free_ring.specs.declared.RingEnd.{RingEnd}
use Rattle.free_ring.specs.declared.RingEnd.TheVariants.{Tail, Again, Outside}

unfoldable pub is_in : ℕ → List ℕ → Bool
is_in i [] = false
is_in i (x ∷ xs) = eqb i x || is_in i xs

-- the different indices visited, in their order, and how the walk ended: at the tail, at an index again, at one outside the ring
pub record RingWalk : Type 0 where
  pub visited : List ℕ
  pub ending : RingEnd

abbrev pub ended : List ℕ → RingEnd → RingWalk
ended visited ending = record { visited = visited; ending = ending }

-- from index i on, after those seen; the table has as many entries as the ring has blocks. "25, an index on the list is at or above
-- the ring's block count, given where met"; "an index visited twice .. at which this list's audit stops"; "up to and including the
-- free tail". left begins one above the ring's block count and is never used up (`ring_ends`, proofs/RingLaws.antt).
unfoldable pub ring_from : List ℕ → ℕ → ℕ → ℕ → List ℕ → RingWalk
ring_from next tail zero i seen = ended seen (Again i)
ring_from next tail (suc left) i seen =
    choose (ltb i (length next))
    (λ _. choose (is_in i seen)
    (λ _. ended seen (Again i))
    (λ _. choose (eqb i tail)
    (λ _. ended (seen ++ (i ∷ [])) Tail)
    (λ _. ring_from next tail left (get_or next i 0) (seen ++ (i ∷ [])))))
    (λ _. ended seen Outside)

abbrev pub no_head : ℕ
no_head = 0xffff

-- "A head of 0xffff .. is an empty list": the head alone, since a later 0xffff is an index like any other
unfoldable pub ring_of : List ℕ → ℕ → ℕ → RingWalk
ring_of next head tail =
    choose (eqb head no_head)
    (λ _. ended [] Tail)
    (λ _. ring_from next tail (suc (length next)) head [])

-- What laws say of a walk (proofs/RingLaws.antt); the pass doesn't ask it: that no index occurs twice, and the indices as met, one
-- met again among them.
unfoldable pub distinct : List ℕ → Bool
distinct [] = true
distinct (x ∷ xs) = not (is_in x xs) && distinct xs

unfoldable pub met_in : List ℕ → RingEnd → List ℕ
met_in visited Tail = visited
met_in visited (Again i) = visited ++ (i ∷ [])
met_in visited Outside = visited

abbrev pub met : RingWalk → List ℕ
met w = met_in w.visited w.ending
