-- Laws of the loader: its blocks, the bytes that they are, the sums over them piece by piece, and its tests.
use Rattle.std.specs.Prelude.{Result, Ok, Err, IsErrAnd}
use mathlib.Core.Path.{◌≡◌, refl, sym, ap, ◌∙◌}
use mathlib.Core.Bool.{Bool, true, false}
use lib.Dec.{leb, ltb}
use mathlib.Core.List.{List, [], ◌++◌}
use Prim.Native.Nat.{ℕ, zero, suc, ◌+◌, ◌-◌, ◌*◌, ◌/◌, ◌%◌, ◌^◌, ◌≤◌, ◌<◌}
use native.Mathlib.Decide.{dec_lt}
use native.Mathlib.Nat.{sub-zero, suc-mul, div-add-mod', div-eq_of_lt-le, mod-lt, mod-mod_of_dvd, dvd_of_mod-eq-zero, lt-div-mul-add, le-div_iff_mul-le, div-mul-le_self, add-mul, one-mul}
use native.Mathlib.Numerals.{add-one}
use native.Mathlib.Omega.{arith}
use lib.ListN.{length, take, drop, get_or, length-append, length-take, length-drop, take-append-drop, drop_of_length-le, get_or-append}
use lib.Seq.{get_or-append-add, get_or-take, drop-drop, ext_get_or}
use borrow.Author.Tests.{ltb-true}
use Rattle.fletcher.specs.Fletcher.{fletcher, seal}
use Rattle.fletcher.specs.clauses.Pieces.{Added}
use Rattle.fletcher.specs.declared.Sums.{Sums}
use Rattle.fletcher.proofs.Laws.{words_whole}
use Rattle.blocks.specs.Reads.{Reads, done, run, given, ◌>>=◌, need}
use Rattle.blocks.specs.Blocks.{block_of, read_raw, sum}
use Rattle.blocks.specs.clauses.Answers.{there_as}
use Rattle.blocks.specs.clauses.Images.{Holds}
use Rattle.blocks.specs.declared.Address.{Address}
use Rattle.blocks.specs.declared.Container.{Container}
use Rattle.blocks.specs.declared.Refusal.{Refusal}
use Rattle.blocks.specs.declared.Refusal.TheVariants.{PastContainer, Overflow}
use Rattle.blocks.proofs.Laws.{at_err, at_ok, need_held, both, bind_assoc, block_length}
use Rattle.checkpoint.specs.Superblock.{data_base}
use Rattle.checkpoint.specs.declared.Mapping.{Mapping}
use Rattle.manager.specs.Manager.{manager_from, blocks_for, data_ring}
use Rattle.manager.specs.clauses.Place.{place_of, ring_index, address_in, byte_in, placed, bytes_of}
use Rattle.manager.specs.clauses.Load.{read_each, joined, read_block, ring_block, BlocksSeen, Stands, Piece}
use Rattle.manager.specs.declared.Manager.{Manager}
use Rattle.manager.proofs.Laws.{placed_length, placed_there, piece_is}

-- n blocks read one after another: what is left from block i on gives the whole
pub record Left (f : ℕ → List ℕ) (read : ℕ → Reads (List ℕ)) (blocks : ℕ → List ℕ) (n i : ℕ) : Type 0 where
  pub whole : run f (read_each read (n - i) i (joined blocks i)) ≡ run f (read_each read n 0 [])

pub left_first : (f : ℕ → List ℕ) (read : ℕ → Reads (List ℕ)) (blocks : ℕ → List ℕ) (n : ℕ) → Left f read blocks n 0
unfolding joined
left_first f read blocks n = record { whole = rw sub-zero refl }

module _ {f : ℕ → List ℕ} {read : ℕ → Reads (List ℕ)} {blocks : ℕ → List ℕ} {n i : ℕ} (left : Left f read blocks n i) where
  module _ {T : Type 0} (h : i < n) (s : Result T Refusal) (seen : there_as (blocks i) s ≡ run f (read i)) where
    next : List ℕ → Reads (List ℕ)
    next b = read_each read (n - (i + 1)) (i + 1) (joined blocks i ++ b)

    pub left_more : (t : T) → s ≡ Ok t → Left f read blocks n (i + 1)
    unfolding read_each joined next
    left_more t q =
        let more : n - i ≡ suc (n - (i + 1)) = omega arith in
        let grown : joined blocks (i + 1) ≡ joined blocks i ++ blocks i = rw add-one refl in
        record { whole = rw grown (at_ok _ _ f _ seen next t q _ refl ∙ (rw more at left.whole)) }

    pub left_refused : (x : Refusal) → s ≡ Err x → (t : Result (Unit {0}) Refusal) → IsErrAnd t (λ y. y ≡ x) → there_as (joined blocks n) t ≡ run f (read_each read n 0 [])
    unfolding read_each next
    left_refused x q t same =
        let more : n - i ≡ suc (n - (i + 1)) = omega arith in at_err _ _ f _ seen _ next x q t same ∙ (rw more at left.whole)

  pub left_done : i ≤ n → n ≤ i → given (joined blocks n) ≡ run f (read_each read n 0 [])
  unfolding run read_each
  left_done h k = let e : i ≡ n = omega arith in
      let z : n - n ≡ 0 = omega arith in rw (e, z) at left.whole

-- what holds wherever a block could be read holds of all of them, once all were
pub each_given : (f : ℕ → List ℕ) (read : ℕ → Reads (List ℕ)) (P : ℕ → Type 0) → ((i : ℕ) (b : List ℕ) → run f (read i) ≡ given b → P i) → (left i : ℕ) (found bs : List ℕ)
    → run f (read_each read left i found) ≡ given bs → (k : ℕ) → i ≤ k → k < i + left → P k
unfolding read_each
each_given f read P one zero i found bs e k low high = absurd (omega arith)
each_given f read P one (suc left) i found bs e k low high =
    let b = both f (read i) _ bs e in
    go (dec_lt i k) (one i b.first b.came) (λ h. each_given f read P one left (i + 1) (found ++ b.first) bs b.rest k (omega arith) (omega arith))
  where
    go : Dec (i < k) → P i → (i < k → P k) → P k
    go (yes l) first rest = rest l
    go (no l) first rest = let e : k ≡ i = omega arith in rw e first

-- the bytes of blocks that all have the same length

module _ (blocks : ℕ → List ℕ) (size : ℕ) where
  pub joined_length : (n : ℕ) → ((i : ℕ) → i < n → length (blocks i) ≡ size) → length (joined blocks n) ≡ n * size
  unfolding joined
  joined_length zero there = omega arith
  joined_length (suc n) there = rw (length-append, joined_length n (λ i h. there i (omega arith)), there n (omega arith), suc-mul n size) refl

  pub joined_at : (n : ℕ) → ((i : ℕ) → i < n → length (blocks i) ≡ size) → (j : ℕ) → j < n * size → get_or (joined blocks n) j 0 ≡ get_or (blocks (j / size)) (j % size) 0
  unfolding joined
  joined_at zero there j h = absurd (omega arith)
  joined_at (suc n) there j h = go (dec_lt j (n * size)) (joined_length n (λ i h. there i (omega arith))) (joined_at n (λ i h. there i (omega arith)) j)
    where
      go : Dec (j < n * size) → length (joined blocks n) ≡ n * size → (j < n * size → get_or (joined blocks n) j 0 ≡ get_or (blocks (j / size)) (j % size) 0)
          → get_or (joined blocks n ++ blocks n) j 0 ≡ get_or (blocks (j / size)) (j % size) 0
      go (yes l) len again = get_or-append (joined blocks n) _ 0 j (omega arith) ∙ again l
      go (no l) len again =
          let e : length (joined blocks n) + (j - n * size) ≡ j = omega arith in
          let d : j / size ≡ n = div-eq_of_lt-le size (omega arith) (omega (arith, suc-mul n size)) in
          let m : j % size ≡ j - n * size = omega (arith, div-add-mod' j size, ap (λ (x : ℕ). x * size) d) in
          ap (λ (x : ℕ). get_or (joined blocks n ++ blocks n) x 0) (sym e)
          ∙ get_or-append-add (joined blocks n) (blocks n) (j - n * size) 0 ∙ rw (d, m) refl

-- a manager's blocks

pub sum_given : (f : ℕ → List ℕ) (a b n : ℕ) → run f (sum a b) ≡ given n → a + b ≡ n
unfolding run sum ◌>>=◌
sum_given f a b n e = let same : given (a + b) ≡ given n = (need_held f _ Overflow (λ _. done (a + b)) n e).1 in cc

-- a block that could be read was below the count
module _ (f : ℕ → List ℕ) (c : Container) where
  pub raw_given : (a : Address) (b : List ℕ) → run f (read_raw c a) ≡ given b → a.0 < c.count
  unfolding read_raw
  raw_given a b e = ltb-true _ _ (need_held f _ PastContainer _ b e).0

  block_given : (m : Manager) (i : ℕ) (b : List ℕ) → run f (read_block c m i) ≡ given b → address_in m i < c.count
  unfolding read_block address_in
  block_given m i b e =
      let o = both f (sum (m.at.0 - m.base) i) _ b (need_held f _ _ _ b e).1 in
      let a = both f (sum m.base (ring_index m i)) _ b o.rest in
      rw (sum_given f _ _ _ a.came) (raw_given (record { 0 = a.first }) b a.rest)

-- they are those that the definition reads, at a mapping's address
module _ (c : Container) (sb : List ℕ) (mp : Mapping) where
  bind_last : {A B C D E : Type 0} (p : Reads A) (q : Reads B) (r : Reads C) (s : C → Reads D) (k : D → Reads E)
      → p >>= (λ _. q >>= λ _. r >>= s) >>= k ≡ p >>= λ _. q >>= λ _. r >>= λ x. s x >>= k
  bind_last p q r s k = bind_assoc p _ k ∙ (λ j. p >>= λ _. (bind_assoc q _ k ∙ (λ i. q >>= λ _. bind_assoc r s k i)) j)

  -- what follows a sum may name it
  sum_then : {A : Type 0} (a b : ℕ) (g : ℕ → Reads A) → sum a b >>= g ≡ sum a b >>= λ _. g (a + b)
  unfolding sum need ◌>>=◌
  sum_then {A} a b g = go (ltb (a + b) (2 ^ 64))
    where
      go : (t : Bool) → need t Overflow >>= (λ _. done (a + b)) >>= g ≡ need t Overflow >>= (λ _. done (a + b)) >>= (λ _. g (a + b))
      go true = refl
      go false = refl

  from_each : (left i : ℕ) (found : List ℕ) → manager_from c sb mp.address.0 left i found ≡ read_each (read_block c (place_of sb mp)) left i found
  unfolding manager_from read_each read_block
  from_each zero i found = refl
  from_each (suc left) i found =
      (λ j. need (leb (data_base sb) mp.address.0) Overflow
      >>= λ _. sum_then (mp.address.0 - data_base sb) i (λ o. sum (data_base sb) (o % data_ring sb) >>= λ a. read_raw c (record { 0 = a }) >>= λ b. from_each left (i + 1) (found ++ b) j) j)
      ∙ sym (bind_last _ _ _ _ _)

  pub blocks_go : (n : ℕ) (s : Result (Unit {0}) Refusal) (m : Manager) → m ≡ place_of sb mp → n ≡ blocks_for c m.size → BlocksSeen c m n s → (f : ℕ → List ℕ)
      → there_as (joined (ring_block f (place_of sb mp)) (blocks_for c mp.size)) s ≡ run f (manager_from c sb mp.address.0 (blocks_for c mp.size) 0 [])
  blocks_go n s m e q seen f = rw (from_each (blocks_for c mp.size) 0 []) (rw (q, e) at (seen f))

-- a piece within one block

module _ (f : ℕ → List ℕ) (size : ℕ) (m : Manager) (pos l : ℕ) (b : List ℕ) (e : b ≡ f (address_in m (pos / size)))
    (there : length b ≡ size) (room : pos % size + l ≤ size) (fits : pos + l ≤ m.size) where
  pub piece_there : (r : List ℕ) → r ≡ take l (drop (pos % size) b) → 0 < l → l % 4 ≡ 0 → Piece (placed f size m) pos r
  piece_there r q some whole = record {
    is = q ∙ piece_is f size m pos l b e (omega arith) (omega arith) fits ∙ ap (λ (n : ℕ). take n (drop pos (placed f size m))) (sym len);
    some = omega (arith, len);
    whole = rw len whole;
    fits = omega (arith, len, placed_length f size m);
  }
    where
      len : length r ≡ l
      len = rw q (simp (length-take, length-drop) (omega arith))

-- every block that is read is there with all its bytes, so that they are the bytes in place

pub stands_there : (image : List ℕ) (c : Container) (m : Manager) (n : ℕ) (s : Result (Unit {0}) Refusal) → Holds image c → n ≡ blocks_for c m.size → BlocksSeen c m n s → s ≡ Ok tt
    → Stands image c m
stands_there image c m n s holds q seen ok = record {
  holds = holds;
  inside = λ i h.
      let f = block_of image c.size in
      each_given f (read_block c m) (λ k. address_in m k < c.count) (block_given f c m) n 0 [] _ (sym (rw ok at (seen f))) i (omega arith) (omega arith);
}

module _ (image : List ℕ) (c : Container) (m : Manager) (stands : Stands image c m) where
  abbrev f : ℕ → List ℕ
  f = block_of image c.size

  abbrev n : ℕ
  n = blocks_for c m.size

  there : (i : ℕ) → i < n → length (ring_block f m i) ≡ c.size
  there i h = block_length image c.size c.count (address_in m i) stands.holds.fits (stands.inside i h)

  -- they hold every byte of the manager, and the block of every byte is one of them
  blocks_cover : m.size ≤ n * c.size
  blocks_cover = omega (arith, lt-div-mul-add {a = m.size + (c.size - 1)} stands.holds.some)

  block_below : (j : ℕ) → j < m.size → j / c.size < n
  block_below j h = omega (arith, (le-div_iff_mul-le {x = j / c.size + 1} {y = m.size + (c.size - 1)} stands.holds.some).1 (omega (arith, div-mul-le_self j c.size, add-mul (j / c.size) 1 c.size, one-mul c.size)))

  stands_joined : take m.size (joined (ring_block f m) n) ≡ bytes_of image c.size m
  unfolding byte_in
  stands_joined = ext_get_or 0 _ _ (len ∙ sym (placed_length f c.size m)) (λ i l. at i (omega (arith, len)))
    where
      len : length (take m.size (joined (ring_block f m) n)) ≡ m.size
      len = rw (length-take, joined_length _ c.size n there) (omega (arith, blocks_cover))

      at : (i : ℕ) → i < m.size → get_or (take m.size (joined (ring_block f m) n)) i 0 ≡ get_or (bytes_of image c.size m) i 0
      at i l = get_or-take m.size (joined (ring_block f m) n) i 0 l ∙ joined_at _ c.size n there i (omega (arith, blocks_cover)) ∙ sym (placed_there f c.size m i l)

  module _ (pos : ℕ) (words : pos % 4 ≡ 0) where
    -- what is left of a block is whole words
    pub rest_words : (0 < c.size - pos % c.size) × ((c.size - pos % c.size) % 4 ≡ 0)
    rest_words =
        let start : pos % c.size % 4 ≡ pos % 4 = mod-mod_of_dvd 4 {b = c.size} pos (dvd_of_mod-eq-zero 4 stands.holds.words) in
        let below : pos % c.size < c.size = mod-lt pos stands.holds.some in (omega arith, omega (arith, stands.holds.words))

    pub piece_cut : (l : ℕ) (b r : List ℕ) → b ≡ block_of image c.size (address_in m (pos / c.size)) → r ≡ take l (drop (pos % c.size) b)
        → 0 < l → l % 4 ≡ 0 → l ≤ c.size - pos % c.size → l ≤ m.size - pos → Piece (bytes_of image c.size m) pos r
    piece_cut l b r e q some whole room left =
        piece_there (block_of image c.size) c.size m pos l b e (ap length e ∙ there (pos / c.size) (block_below pos (omega arith))) (omega arith) (omega arith) r q some whole

-- the sums go on from piece to piece
pub sums_more : (sm : List ℕ) (pos : ℕ) (b : List ℕ) (x y : Sums) → Piece sm pos b → Added b x y
    → fletcher (drop (pos + length b) sm) y.s y.t ≡ fletcher (drop pos sm) x.s x.t
sums_more sm pos b x y piece added =
    added.onward (drop (pos + length b) sm)
    ∙ ap (λ (l : List ℕ). fletcher l x.s x.t) (rw (words_whole b piece.whole, ← drop-drop (length b) pos sm) joins)
  where
    joins : b ++ drop (length b) (drop pos sm) ≡ drop pos sm
    joins = ap (λ (l : List ℕ). l ++ drop (length b) (drop pos sm)) piece.is ∙ take-append-drop (length b) (drop pos sm)

pub sums_done : (sm : List ℕ) (size pos : ℕ) (x : Sums) → length sm ≡ size → size ≤ pos → seal x.s x.t ≡ fletcher (drop pos sm) x.s x.t
unfolding fletcher
sums_done sm size pos x e h = rw (drop_of_length-le sm {i = pos} (omega arith)) refl

-- the manager of a mapping whose blocks were seen
pub whole_there : (image : List ℕ) (c : Container) (sb : List ℕ) (mp : Mapping) (m : Manager) → m ≡ place_of sb mp → Stands image c m
    → take mp.size (joined (ring_block (block_of image c.size) (place_of sb mp)) (blocks_for c mp.size)) ≡ bytes_of image c.size m
whole_there image c sb mp m e stands = rw e (rw e at (stands_joined image c m stands))
