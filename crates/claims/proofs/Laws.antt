-- Laws of claims: what each step of a definition gives, by the answer before it.
use Rattle.std.specs.Prelude.{Err, Ok, Result, Some}
use mathlib.Core.Path.{◌≡◌, refl, sym, ap, ◌∙◌}
use mathlib.Core.Bool.{true, false}
use mathlib.Core.List.{List}
use Prim.Native.Nat.{ℕ, zero, suc, ◌+◌, ◌-◌, ◌%◌, ◌<◌, ◌≤◌, min}
use native.Mathlib.Decide.{dec_le}
use native.Mathlib.Omega.{arith}
use lib.ListN.{get_or}
use Rattle.fields.specs.Choice.{choose}
use Rattle.blocks.specs.Reads.{Reads, done, run, given, refused, ◌>>=◌}
use Rattle.blocks.specs.clauses.Answers.{Always, outcome, outcome_by}
use Rattle.blocks.specs.declared.Container.{Container}
use Rattle.blocks.specs.declared.Refusal.{Refusal}
use Rattle.blocks.proofs.Laws.{then_given, then_refused}
use Rattle.nodes.specs.ObjectMap.{is_deleted}
use Rattle.nodes.specs.clauses.Answers.{part_in, entry_in}
use Rattle.nodes.specs.declared.Part.{Part}
use Rattle.nodes.specs.declared.EntryPlace.{EntryPlace}
use Rattle.block_map.specs.BlockMap.{Marked, update, owner_of, owned_by}
use Rattle.block_map.proofs.Laws.{kept_same, kept_update}
use Rattle.report.specs.Report.{no_overlaps, add_overlap}
use Rattle.report.specs.clauses.Steps.{Stepped}
use Rattle.report.specs.declared.Cursor.{Cursor}
use Rattle.report.specs.declared.OverlapLog.{OverlapLog}
use Rattle.report.proofs.StepLaws.{stepped_ok, unlogged_first, unlogged_more}
use Rattle.claims.specs.Claims.{volume_superblock, claim_block, claim_from, claim, mapped_address, claim_mapped, claim_mapping}
use Rattle.claims.specs.clauses.Unlogged.{takes}
use Rattle.claims.specs.clauses.Answers.{owned, ClaimedAs, OwnedUpTo, blocks_left, end_of}

-- a log put beside a map
beside : (f : ℕ → List ℕ) (p : Reads OverlapLog) (map : List ℕ) (r : Result OverlapLog Refusal) → outcome r ≡ run f p → outcome_by (owned map) r ≡ run f (p >>= λ log. done (owned map log))
unfolding run
beside f p map (Ok log) e = sym (then_given f p _ log (sym e))
beside f p map (Err x) e = sym (then_refused f p _ x (sym e))

-- a block, by whether the claim takes it
module _ (kind a : ℕ) (m : List ℕ) (l : OverlapLog) where
  pub taken : takes kind m a ≡ true → (f : ℕ → List ℕ) → run f (claim_block kind a (owned m l)) ≡ given (owned (update (owned_by kind) a m) l)
  unfolding run claim_block
  taken e f = rw e refl

  other : takes kind m a ≡ false → (f : ℕ → List ℕ)
      → run f (claim_block kind a (owned m l)) ≡ run f (add_overlap (record { block = a; owner = owner_of (get_or m a 0); claimant = kind }) l >>= λ x. done (owned m x))
  unfolding claim_block
  other e f = rw e refl

  pub block_taken : takes kind m a ≡ true → kind < 16 → (after : List ℕ) → after ≡ update (owned_by (kind % 16)) a m → (count : ℕ) → a + 1 ≤ count → ClaimedAs count (Ok l) m after (claim_block kind a (owned m l))
  block_taken e k after p count h f = let small : kind % 16 ≡ kind = omega arith in rw (p, small) (record { goes = sym (taken e f); kept = kept_update count _ a m (omega arith) })

  pub block_overlaps : takes kind m a ≡ false → (r : Result OverlapLog Refusal) → Always (outcome r) (add_overlap (record { block = a; owner = owner_of (get_or m a 0); claimant = kind }) l)
      → (count : ℕ) → ClaimedAs count r m m (claim_block kind a (owned m l))
  block_overlaps e r h count f = record { goes = beside f _ m r (h f) ∙ sym (other e f); kept = kept_same count m }

-- the blocks from a on, of which left are left
module _ (kind a : ℕ) (s : Marked OverlapLog) where
  pub claim_done : (left : ℕ) → left ≡ 0 → claim_from kind left a s ≡ done s
  unfolding claim_from
  claim_done left e = rw e refl

  pub claim_more : (left : ℕ) → (left ≡ 0 → ⊥) → claim_from kind left a s ≡ claim_block kind a s >>= claim_from kind (left - 1) (a + 1)
  unfolding claim_from
  claim_more zero h = absurd (h refl)
  claim_more (suc left) h = let less : suc left - 1 ≡ left = omega arith in rw less refl

-- the cursor at a block, of those from another on
abbrev pub at_block : Cursor → ℕ → Cursor
at_block from next = record { next = next; left = end_of from - next }

module _ (kind : ℕ) (from : Cursor) where
  pub owned_first : (map : List ℕ) → OwnedUpTo kind from (at_block from from.next) map map
  owned_first map count h f = let all : end_of from - from.next ≡ from.left = omega arith in rw all (unlogged_first f count from map (blocks_left kind))

  pub owned_next : (next : ℕ) (before map after : List ℕ) → OwnedUpTo kind from (at_block from next) before map → next < end_of from
      → ((log : OverlapLog) (count : ℕ) → next + 1 ≤ count → ClaimedAs count (Ok log) map after (claim_block kind next (owned map log))) → OwnedUpTo kind from (at_block from (next + 1)) before after
  owned_next next before map after here h one count k f =
      unlogged_more f count from before (blocks_left kind) (at_block from next) _ map after (here count k f) (omega arith) (ap (λ (n : ℕ). record { next = next + 1; left = n }) less) goes (step no_overlaps).kept
    where
      less : end_of from - (next + 1) ≡ end_of from - next - 1
      less = omega arith

      step : (log : OverlapLog) → Stepped f count (Ok log) map after (claim_block kind next (owned map log))
      step log = one log count (omega arith) f

      goes : (log : OverlapLog) → run f (blocks_left kind (at_block from next) (owned map log)) ≡ run f (blocks_left kind (record { next = next + 1; left = end_of from - next - 1 }) (owned after log))
      goes log = ap (run f) (claim_more kind next _ (end_of from - next) (omega arith)) ∙ then_given f _ _ _ (stepped_ok (step log) log refl)

-- a claim that starts past its end, which is clipped at the block count, has no block
pub clipped : (kind start n count end next : ℕ) (s : Marked OverlapLog) → end ≡ min n count → next ≡ min start end → claim_from kind (end - next) next s ≡ claim_from kind (min n count - start) start s
clipped kind start n count end next s p q = rw (← p) (go (dec_le start end))
  where
    go : Dec (start ≤ end) → claim_from kind (end - next) next s ≡ claim_from kind (end - start) start s
    go (yes h) = let same : next ≡ start = omega arith in rw same refl
    go (no h) = claim_done kind next s (end - next) (omega arith) ∙ sym (claim_done kind start s (end - start) (omega arith))

-- a mapping that isn't deleted claims the address in its value
module _ (c : Container) (s : Marked OverlapLog) (b : List ℕ) (e : EntryPlace) (p : Part) (at : e.value ≡ Some p) where
  by_address : claim_mapping c s (entry_in b e) ≡ mapped_address (part_in b e.key) (part_in b p) >>= λ a. choose (is_deleted (part_in b p)) (λ _. done s) (λ _. claim c volume_superblock a 1 s)
  unfolding claim_mapping claim_mapped
  by_address = rw at refl

  module _ (f : ℕ → List ℕ) where
    pub mapping_refused : (r : Refusal) → run f (mapped_address (part_in b e.key) (part_in b p)) ≡ refused r → run f (claim_mapping c s (entry_in b e)) ≡ refused r
    mapping_refused r q = ap (run f) by_address ∙ then_refused f _ _ r q

    module _ (a : ℕ) (q : run f (mapped_address (part_in b e.key) (part_in b p)) ≡ given a) where
      pub mapping_deleted : is_deleted (part_in b p) ≡ true → run f (claim_mapping c s (entry_in b e)) ≡ given s
      unfolding run
      mapping_deleted t = ap (run f) by_address ∙ then_given f _ _ a q ∙ rw t refl

      pub mapping_live : is_deleted (part_in b p) ≡ false → run f (claim_mapping c s (entry_in b e)) ≡ run f (claim c volume_superblock a 1 s)
      mapping_live t = ap (run f) by_address ∙ then_given f _ _ a q ∙ rw t refl

-- a claim's step as the code answers it
pub claimed_is : {f : ℕ → List ℕ} {count : ℕ} {before after : List ℕ} {p : Reads (Marked OverlapLog)} (r s : Result OverlapLog Refusal) → r ≡ s → Stepped f count s before after p → Stepped f count r before after p
claimed_is r s q h = rw q h
