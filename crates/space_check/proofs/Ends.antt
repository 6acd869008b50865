-- What holds of every report of a pass, whatever is read; of a refusal nothing is asked. Steps without state need no law. A fact about
-- the claims' state has to be kept by owning a block and by logging an overlap, and by nothing else.
use Rattle.std.specs.Prelude.{None, Option, Some}
use Rattle.checkpoint.specs.declared.Mapping.{Mapping}
use mathlib.Core.Path.{◌≡◌, refl}
use mathlib.Core.Bool.{Bool, true, false, ◌||◌}
use mathlib.Core.List.{List, [], ◌∷◌}
use Prim.Native.Nat.{ℕ, zero, suc, ◌+◌, ◌-◌, ◌^◌, ◌≤◌, ◌<◌}
use native.Mathlib.Omega.{arith}
use lib.Dec.{ltb, eqb}
use lib.ListN.{get_or}
use borrow.Author.Tests.{ltb-true}
use Rattle.fields.specs.Choice.{choose}
use Rattle.blocks.specs.Reads.{Reads, done, refuse, read, Outcome, given, refused, run, ◌>>=◌, need}
use Rattle.blocks.specs.Blocks.{block_of, sum}
use Rattle.blocks.specs.declared.Address.{Address}
use Rattle.blocks.specs.declared.Container.{Container}
use Rattle.blocks.specs.declared.ObjectId.{ObjectId}
use Rattle.blocks.specs.declared.Refusal.{Refusal}
use Rattle.nodes.specs.Node.{Entry, is_leaf}
use Rattle.nodes.specs.ObjectMap.{is_deleted}
use Rattle.nodes.specs.Scan.{leaf_from, index_from, scan_node, below, scan}
use Rattle.nodes.specs.Walk.{Walked, each, children_of, walk_below, walk}
use Rattle.nodes.specs.declared.Description.{Description}
use Rattle.checkpoint.specs.Checkpoint.{Taken, admit}
use Rattle.checkpoint.specs.declared.Geometry.{Geometry}
use Rattle.checkpoint.proofs.OpeningLaws.{geometry_given}
use Rattle.block_map.specs.BlockMap.{Marked, update, owner_of, owned_by}
use Rattle.report.specs.Report.{kinds, no_overlaps, add_overlap, zero_report, refusal, reported}
use Rattle.report.specs.declared.Overlap.{Overlap}
use Rattle.report.specs.declared.OverlapLog.{OverlapLog}
use Rattle.report.specs.declared.Report.{Report}
use Rattle.queue.specs.Queue.{scan_queue, queue_from, queue}
use Rattle.totals.specs.Totals.{unowned}
use Rattle.claims.specs.Claims.{object_map_node, claim_block, claim_from, claim, claim_node, claim_mapped, claim_mapping, claim_mappings, claim_queued}
use Rattle.volumes.specs.Volumes.{snapshots_address, claim_tree, claim_snapshots, claim_volume, claim_each, claim_volumes}
use Rattle.space_check.specs.Check.{Parts, claim_areas, claim_mappings_and_volumes, claim_objects, claim_trees, claims, body, rest, pass, settle, check_in, check}

unfoldable pub Ends : {A : Type 0} → (A → Type 0) → Reads A → Type 0
Ends P (done a) = P a
Ends P (refuse r) = Unit {0}
Ends P (read n k) = (b : List ℕ) → Ends P (k b)

abbrev Given : {A : Type 0} → (A → Type 0) → Outcome A → Type 0
Given P (given a) = P a
Given P (refused r) = Unit {0}

ends_run : {A : Type 0} (P : A → Type 0) (f : ℕ → List ℕ) (p : Reads A) → Ends P p → Given P (run f p)
unfolding run Ends
ends_run P f (done a) h = h
ends_run P f (refuse r) h = tt
ends_run P f (read n k) h = ends_run P f (k (f n)) (h (f n))

pub ends_done : {A : Type 0} (P : A → Type 0) (a : A) → P a → Ends P (done a)
unfolding Ends
ends_done P a h = h

ends_refuse : {A : Type 0} (P : A → Type 0) (r : Refusal) → Ends P (refuse r)
unfolding Ends
ends_refuse P r = tt

-- after a pass of which nothing is asked, and after one whose answer meets P
pub ends_after : {A B : Type 0} (Q : B → Type 0) (p : Reads A) (g : A → Reads B) → ((a : A) → Ends Q (g a)) → Ends Q (p >>= g)
unfolding Ends ◌>>=◌
ends_after Q (done a) g k = k a
ends_after Q (refuse r) g k = tt
ends_after Q (read n q) g k = λ b. ends_after Q (q b) g k

pub ends_bind : {A B : Type 0} (P : A → Type 0) (Q : B → Type 0) (p : Reads A) (g : A → Reads B) → Ends P p → ((a : A) → P a → Ends Q (g a)) → Ends Q (p >>= g)
unfolding Ends ◌>>=◌
ends_bind P Q (done a) g h k = k a h
ends_bind P Q (refuse r) g h k = tt
ends_bind P Q (read n q) g h k = λ b. ends_bind P Q (q b) g (h b) k

ends_choose : {A : Type 0} (P : A → Type 0) (t : Bool) (p q : Reads A) → Ends P p → Ends P q → Ends P (choose t (λ _. p) (λ _. q))
ends_choose P true p q h k = h
ends_choose P false p q h k = k

-- after a test, and a sum that was made
ends_need : {A : Type 0} (P : A → Type 0) (t : Bool) (r : Refusal) (g : Unit {0} → Reads A) → (t ≡ true → Ends P (g tt)) → Ends P (need t r >>= g)
unfolding Ends need ◌>>=◌
ends_need P true r g k = k refl
ends_need P false r g k = tt

pub ends_sum : (a b : ℕ) → Ends (λ n. (n ≡ a + b) × (n < 2 ^ 64)) (sum a b)
unfolding sum
ends_sum a b = ends_need _ (ltb (a + b) (2 ^ 64)) _ _ (λ e. ends_done _ _ (refl, ltb-true _ _ e))

-- scans

module _ {S : Type 0} (I : S → Type 0) (visit : S → Entry → Reads S) (d : Description) (child : ℕ → Reads (List ℕ)) (v : (s : S) (e : Entry) → I s → Ends I (visit s e)) where
  ends_leaf_from : (b : List ℕ) (left i : ℕ) (s : S) → I s → Ends I (leaf_from visit d child b left i s)
  unfolding leaf_from
  ends_leaf_from b zero i s h = ends_done I s h
  ends_leaf_from b (suc left) i s h = ends_after _ _ _ (λ e. ends_bind _ _ _ _ (v s e h) (ends_leaf_from b left (i + 1)))

  module _ (down : List ℕ → S → Reads S) (k : (b : List ℕ) (s : S) → I s → Ends I (down b s)) where
    ends_index_from : (b : List ℕ) (left i : ℕ) (s : S) → I s → Ends I (index_from visit d child down b left i s)
    unfolding index_from
    ends_index_from b zero i s h = ends_done I s h
    ends_index_from b (suc left) i s h = ends_after _ _ _ (λ a. ends_after _ _ _ (λ n. ends_bind _ _ _ _ (k n s h) (ends_index_from b left (i + 1))))

    ends_scan_node : (b : List ℕ) (s : S) → I s → Ends I (scan_node visit d child down b s)
    unfolding scan_node
    ends_scan_node b s h = ends_choose _ (is_leaf b) _ _ (ends_leaf_from b _ 0 s h) (ends_index_from b _ 0 s h)

  ends_below : (l : ℕ) (b : List ℕ) (s : S) → I s → Ends I (below visit d child l b s)
  unfolding below
  ends_below zero b s h = ends_refuse I _
  ends_below (suc l) b s h = ends_after _ _ _ (λ n. ends_scan_node (below visit d child l) (ends_below l) n s h)

  pub ends_scan : (b : List ℕ) (s : S) → I s → Ends I (scan visit d child b s)
  unfolding scan
  ends_scan b s h = ends_scan_node _ (ends_below _) b s h

-- walks

module _ {S : Type 0} (I : S → Type 0) (visit : S → Address → Reads S) (c : Container) (d : Description) (v : (s : S) (a : Address) → I s → Ends I (visit s a)) where
  abbrev Kept : Walked S → Type 0
  Kept w = I w.state

  module _ (down : ℕ → Walked S → Reads (Walked S)) (k : (a : ℕ) (w : Walked S) → Kept w → Ends Kept (down a w)) where
    ends_each : (l : List ℕ) (w : Walked S) → Kept w → Ends Kept (each visit c d down l w)
    unfolding each
    ends_each [] w h = ends_done Kept w h
    ends_each (a ∷ rest) w h = ends_bind _ _ _ _ (k a w h) (ends_each rest)

    ends_children_of : (b : List ℕ) (w : Walked S) → Kept w → Ends Kept (children_of visit c d down b w)
    unfolding children_of
    ends_children_of b w h = ends_choose _ (is_leaf b) _ _ (ends_done Kept w h) (ends_after _ _ _ (λ cs. ends_each cs w h))

  ends_walk_below : (levels a : ℕ) (w : Walked S) → Kept w → Ends Kept (walk_below visit c d levels a w)
  unfolding walk_below
  ends_walk_below zero a w h = ends_refuse Kept _
  ends_walk_below (suc levels) a w h = ends_after _ _ _ (λ b. ends_bind _ _ _ _ (v _ _ h) (λ s k. ends_children_of _ (ends_walk_below levels) b _ k))

  pub ends_walk : (a : Address) (s : S) → I s → Ends I (walk visit c d a s)
  unfolding walk
  ends_walk a s h = ends_bind _ _ _ _ (ends_walk_below _ _ _ h) (λ w k. ends_done I _ k)

-- free queues

module _ {S : Type 0} (I : S → Type 0) (c : Container) (mapped : ObjectId → Option Mapping) (visit : S → Entry → Reads S) (v : (s : S) (e : Entry) → I s → Ends I (visit s e)) where
  ends_queue_from : (m : Option Mapping) (s : S) → I s → Ends I (queue_from c mapped visit m s)
  unfolding queue_from scan_queue
  ends_queue_from None s h = ends_done I s h
  ends_queue_from (Some m) s h = ends_after _ _ _ (λ b. ends_after _ _ _ (λ d. ends_scan I visit d _ v b s h))

  pub ends_queue : (root : ObjectId) (s : S) → I s → Ends I (queue c mapped visit root s)
  unfolding queue
  ends_queue root s h = ends_queue_from _ s h

-- the claims: a fact that owning a block, which is told to be for one of the kinds, and logging an overlap keep

abbrev pub with_owner : ℕ → ℕ → Marked OverlapLog → Marked OverlapLog
with_owner kind a s = record { map = update (owned_by kind) a s.map; figures = s.figures }

abbrev pub with_log : Marked OverlapLog → OverlapLog → Marked OverlapLog
with_log s l = record { map = s.map; figures = l }

module _ (I : Marked OverlapLog → Type 0) (owns : (kind a : ℕ) (s : Marked OverlapLog) → kind ≤ kinds → I s → I (with_owner kind a s)) (logs : (o : Overlap) (s : Marked OverlapLog) → I s → Ends (λ l. I (with_log s l)) (add_overlap o s.figures))
    (c : Container) where
  module _ (kind : ℕ) (k : kind ≤ kinds) where
    ends_claim_block : (a : ℕ) (s : Marked OverlapLog) → I s → Ends I (claim_block kind a s)
    unfolding claim_block
    ends_claim_block a s h =
        let owner = owner_of (get_or s.map a 0) in
        ends_choose _ (eqb owner unowned || eqb owner kind) _ _ (ends_done I _ (owns kind a s k h)) (ends_bind _ _ _ _ (logs _ s h) (λ l n. ends_done I _ n))

    ends_claim_from : (left a : ℕ) (s : Marked OverlapLog) → I s → Ends I (claim_from kind left a s)
    unfolding claim_from
    ends_claim_from zero a s h = ends_done I s h
    ends_claim_from (suc left) a s h = ends_bind _ _ _ _ (ends_claim_block a s h) (ends_claim_from left (a + 1))

    ends_claim : (start len : ℕ) (s : Marked OverlapLog) → I s → Ends I (claim c kind start len s)
    unfolding claim
    ends_claim start len s h = ends_after _ _ _ (λ e. ends_claim_from _ start s h)

    ends_claim_node : (s : Marked OverlapLog) (a : Address) → I s → Ends I (claim_node c kind s a)
    unfolding claim_node
    ends_claim_node s a h = ends_claim _ _ s h

    ends_claim_tree : (a : Address) (s : Marked OverlapLog) → I s → Ends I (claim_tree c kind a s)
    unfolding claim_tree
    ends_claim_tree a s h = ends_after _ _ _ (λ b. ends_after _ _ _ (λ d. ends_walk I (claim_node c kind) c d ends_claim_node a s h))

  ends_claim_mapped : (s : Marked OverlapLog) (key : List ℕ) (v : Option (List ℕ)) → I s → Ends I (claim_mapped c s key v)
  unfolding claim_mapped
  ends_claim_mapped s key None h = ends_done I s h
  ends_claim_mapped s key (Some v) h = ends_after _ _ _ (λ a. ends_choose _ (is_deleted v) _ _ (ends_done I s h) (ends_claim _ (omega arith) _ _ s h))

  ends_claim_mapping : (s : Marked OverlapLog) (e : Entry) → I s → Ends I (claim_mapping c s e)
  unfolding claim_mapping
  ends_claim_mapping s e h = ends_claim_mapped s _ _ h

  ends_claim_mappings : (d : Description) (b : List ℕ) (s : Marked OverlapLog) → I s → Ends I (claim_mappings c d b s)
  unfolding claim_mappings
  ends_claim_mappings d b s h = ends_scan I (claim_mapping c) d _ ends_claim_mapping b s h

  ends_claim_queued : (s : Marked OverlapLog) (e : Entry) → I s → Ends I (claim_queued c s e)
  unfolding claim_queued
  ends_claim_queued s e h = ends_after _ _ _ (λ r. ends_claim _ (omega arith) _ _ s h)

  ends_claim_snapshots : (v : List ℕ) (s : Marked OverlapLog) → I s → Ends I (claim_snapshots c v s)
  unfolding claim_snapshots
  ends_claim_snapshots v s h = ends_choose _ (eqb (snapshots_address v).0 0) _ _ (ends_done I s h) (ends_claim_tree _ (omega arith) _ s h)

  ends_claim_volume : (v : List ℕ) (s : Marked OverlapLog) → I s → Ends I (claim_volume c v s)
  unfolding claim_volume
  ends_claim_volume v s h =
      ends_bind _ _ _ _ (ends_claim _ (omega arith) _ _ s h) (λ s₁ h₁.
      ends_after _ _ _ (λ r.
      ends_bind _ _ _ _ (ends_claim_tree _ (omega arith) r s₁ h₁) (λ s₂ h₂.
      ends_bind _ _ _ _ (ends_claim_tree _ (omega arith) _ s₂ h₂) (ends_claim_snapshots v))))

  ends_claim_each : (vs : List (List ℕ)) (s : Marked OverlapLog) → I s → Ends I (claim_each c vs s)
  unfolding claim_each
  ends_claim_each [] s h = ends_done I s h
  ends_claim_each (v ∷ vs) s h = ends_bind _ _ _ _ (ends_claim_volume v s h) (ends_claim_each vs)

  ends_claim_volumes : (d : Description) (b sb : List ℕ) (s : Marked OverlapLog) → I s → Ends I (claim_volumes c d b sb s)
  unfolding claim_volumes
  ends_claim_volumes d b sb s h = ends_after _ _ _ (λ vs. ends_claim_each vs s h)

  module _ (sb : List ℕ) (mapped : ObjectId → Option Mapping) where
    ends_claim_areas : (sm : List ℕ) (s : Marked OverlapLog) → I s → Ends I (claim_areas c sb mapped sm s)
    unfolding claim_areas
    ends_claim_areas sm s h =
        ends_bind _ _ _ _ (ends_claim _ (omega arith) _ _ s h) (λ s₁ h₁.
        ends_bind _ _ _ _ (ends_claim _ (omega arith) _ _ s₁ h₁) (λ s₂ h₂.
        ends_bind _ _ _ _ (ends_claim _ (omega arith) _ _ s₂ h₂) (λ s₃ h₃.
        ends_bind _ _ _ _ (ends_claim _ (omega arith) _ _ s₃ h₃) (λ s₄ h₄.
        ends_bind _ _ _ _ (ends_claim _ (omega arith) _ _ s₄ h₄) (λ s₅ h₅. ends_claim _ (omega arith) _ _ s₅ h₅)))))

    ends_claim_objects : (root : Address) (s : Marked OverlapLog) → I s → Ends I (claim_objects c sb mapped root s)
    unfolding claim_objects claim_mappings_and_volumes
    ends_claim_objects root s h =
        ends_after _ _ _ (λ b.
        ends_after _ _ _ (λ d.
        ends_bind _ _ _ _ (ends_walk I (claim_node c object_map_node) c d (ends_claim_node object_map_node (omega arith)) root s h) (λ s₁ h₁.
        ends_bind _ _ _ _ (ends_claim_mappings d b s₁ h₁) (ends_claim_volumes d b sb))))

    ends_claim_trees : (x : Parts) (s : Marked OverlapLog) → I s → Ends I (claim_trees c sb mapped x s)
    unfolding claim_trees
    ends_claim_trees x s h = ends_bind _ _ _ _ (ends_claim_objects _ s h) (ends_queue I c mapped (claim_queued c) ends_claim_queued _)

    pub ends_claims : (x : Parts) (map : List ℕ) → I (record { map = map; figures = no_overlaps }) → Ends I (claims c sb mapped x map)
    unfolding claims
    ends_claims x map h = ends_bind _ _ _ _ (ends_claim_areas _ _ h) (ends_claim_trees x)

-- the whole: what holds of an all-zero report and of every report of a pass's body holds of every answer of the check

module _ (P : Report → Type 0) (none : P zero_report) (bodies : (c : Container) (sb : List ℕ) (mapped : ObjectId → Option Mapping) (map : List ℕ) → c.count ≤ 2 ^ 32 - 1 → Ends (λ s. P s.figures) (body c sb mapped map)) where
  abbrev Holds : Marked Report → Type 0
  Holds s = P s.figures

  admitted : (g : Geometry) (t : Taken) → Ends (λ c. c.count ≡ g.count) (admit g t)
  unfolding admit
  admitted g t = ends_after _ _ _ (λ a. ends_after _ _ _ (λ b. ends_done _ _ refl))

  ends_pass : (g : Geometry) (map : List ℕ) → g.count ≤ 2 ^ 32 - 1 → Ends Holds (pass g map)
  unfolding pass rest
  ends_pass g map few = ends_after _ _ _ (λ t. ends_bind _ _ _ _ (admitted g t) (λ c e. bodies c _ _ _ (omega arith)))

  settled : (count : ℕ) (map : List ℕ) (o : Outcome (Marked Report)) → Given Holds o → P (settle count map o).answer.report
  unfolding settle reported refusal
  settled count map (given s) h = h
  settled count map (refused r) h = none

  checked_in : (image map : List ℕ) (o : Outcome Geometry) → ((g : Geometry) → o ≡ given g → g.count ≤ 2 ^ 32 - 1) → P (check_in image map o).answer.report
  unfolding check_in refusal
  checked_in image map (refused r) few = none
  checked_in image map (given g) few = settled g.count map _ (ends_run _ (block_of image g.size) (pass g map) (ends_pass g map (few g refl)))

  pub ends_check : (image map : List ℕ) → P (check image map).answer.report
  unfolding check
  ends_check image map = checked_in image map _ (λ g e. (geometry_given _ _ _ g e).few)
