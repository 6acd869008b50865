-- The body of a pass gives late refusals alone: those numbered 12 and above, which zero the block map.
use Rattle.std.specs.Prelude.{None, Option, Some}
use mathlib.Core.Path.{◌≡◌, refl, subst}
use mathlib.Core.Bool.{Bool, true, false, ◌||◌}
use mathlib.Core.List.{List, [], ◌∷◌}
use Prim.Native.Nat.{ℕ, zero, suc, ◌+◌, ◌<◌}
use lib.Dec.{leb, ltb, eqb}
use lib.ListN.{get_or}
use borrow.Author.Tests.{leb-false}
use Rattle.fields.specs.Choice.{choose}
use Rattle.fields.specs.Fields.{bit_at}
use Rattle.blocks.specs.Reads.{Reads, done, refuse, read, Outcome, given, refused, run, ◌>>=◌, need}
use Rattle.blocks.specs.Blocks.{read_raw, read_object, present, field, part, sum}
use Rattle.blocks.specs.Refusals.{number_of}
use Rattle.blocks.specs.declared.Address.{Address}
use Rattle.blocks.specs.declared.Container.{Container}
use Rattle.blocks.specs.declared.ObjectId.{ObjectId}
use Rattle.blocks.specs.declared.Refusal.{Refusal}
use Rattle.nodes.specs.Node.{Entry, is_leaf, is_fixed, ghost_offset, parse, read_node, describe, fixed_slot, variable_slot, slot, value_of, entry, pointer}
use Rattle.nodes.specs.ObjectMap.{read_object_map, describe_map, load_object_map, is_deleted}
use Rattle.nodes.specs.Scan.{look_at, pointer_past, one_below, leaf_from, index_from, scan_node, below, scan}
use Rattle.nodes.specs.Walk.{Walked, children_from, next_node, each, walk_below, walk, children_of}
use Rattle.nodes.specs.declared.Description.{Description}
use Rattle.nodes.specs.declared.Slot.{Slot}
use Rattle.checkpoint.specs.declared.Mapping.{Mapping}
use Rattle.manager.specs.Manager.{manager_from, manager_at, manager_by, manager, list_from, accepted}
use Rattle.manager.specs.Chunks.{chunks_from}
use Rattle.manager.specs.declared.Chunk.{Chunk}
use Rattle.block_map.specs.BlockMap.{Marked, owner_of}
use Rattle.report.specs.Report.{add_problem, add_overlap}
use Rattle.report.specs.declared.Problem.{Problem}
use Rattle.report.specs.declared.ProblemLog.{ProblemLog}
use Rattle.report.specs.declared.Overlap.{Overlap}
use Rattle.report.specs.declared.OverlapLog.{OverlapLog}
use Rattle.pool.specs.Pool.{Pool, bitmaps_from, load_pool, pool_from}
use Rattle.queue.specs.Queue.{run_count, run_of, node_by, scan_queue, queue, queue_from}
use Rattle.totals.specs.Totals.{unowned}
use Rattle.audit.specs.Audit.{unless, mark_from, tally, audit_bitmap, audit_chunk, audit_chunks, audit_info, audit_queued_from, audit_queued, audit_mark, audit_use, mark_set, mark_bit, tally_bitmap, read_bitmap, enter_info, read_info, audit_each, enter_address, read_address, audit_address, audit_listed, audit_device, audit_queued_block}
use Rattle.audit.specs.declared.Audit.{Audit}
use Rattle.free_ring.specs.FreeRing.{ring_problem, audit_index, audit_visited, audit_end, close_ring, audit_free, audit_table, audit_ring}
use Rattle.free_ring.specs.declared.RingEnd.{RingEnd}
use Rattle.free_ring.specs.declared.RingEnd.TheVariants.{Tail, Again, Outside}
use Rattle.claims.specs.Claims.{claim_block, claim_from, claim, claim_node, claim_mapped, claim_mapping, claim_queued, mapped_address, claim_mappings}
use Rattle.volumes.specs.Lookup.{above, above_at, search_from, search, child_at, lookup_from, lookup_le}
use Rattle.volumes.specs.Volumes.{live_address, mapped_by, volume_address, read_volume, address_for, volume_for, volume_at, volumes_from, snapshots_address, claim_tree, read_map, claim_snapshots, claim_volume, claim_each, claim_volumes}
use Rattle.space_check.specs.Check.{audit_blocks, audit, claim_areas, claim_mappings_and_volumes, claim_objects, claims, body, last_untouched, Parts, pool_part, manager_part, load_parts, claim_trees, claim_and_report, audit_and_claim}

abbrev pub IsLate : Refusal → Type 0
IsLate r = leb (number_of r) last_untouched ≡ false

-- a pass whose every refusal is late, whatever it reads
unfoldable pub Late : {A : Type 0} → Reads A → Type 0
Late (done a) = Unit {0}
Late (refuse r) = IsLate r
Late (read n k) = (b : List ℕ) → Late (k b)

abbrev LateOutcome : {A : Type 0} → Outcome A → Type 0
LateOutcome (given a) = Unit {0}
LateOutcome (refused r) = IsLate r

late_outcome : {A : Type 0} (f : ℕ → List ℕ) (p : Reads A) → Late p → LateOutcome (run f p)
unfolding run Late
late_outcome f (done a) h = tt
late_outcome f (refuse r) h = h
late_outcome f (read n k) h = late_outcome f (k (f n)) (h (f n))

pub late_run : {A : Type 0} (f : ℕ → List ℕ) (p : Reads A) (r : Refusal) → Late p → run f p ≡ refused r → IsLate r
late_run f p r h e = subst LateOutcome e (late_outcome f p h)

-- the steps that passes are made of

late_done : {A : Type 0} (a : A) → Late (done a)
unfolding Late
late_done a = tt

late_refuse : (A : Type 0) (r : Refusal) → IsLate r → Late {A = A} (refuse r)
unfolding Late
late_refuse A r h = h

late_read : (n : ℕ) → Late (read n done)
unfolding Late
late_read n b = tt

late_bind : {A B : Type 0} (p : Reads A) (g : A → Reads B) → Late p → ((a : A) → Late (g a)) → Late (p >>= g)
unfolding Late ◌>>=◌
late_bind (done a) g h k = k a
late_bind (refuse r) g h k = h
late_bind (read n q) g h k = λ b. late_bind (q b) g (h b) k

late_need : (b : Bool) (r : Refusal) → IsLate r → Late (need b r)
unfolding Late need
late_need true r h = tt
late_need false r h = h

late_choose : {A : Type 0} (t : Bool) (p q : Reads A) → Late p → Late q → Late (choose t (λ _. p) (λ _. q))
late_choose true p q h k = h
late_choose false p q h k = k

-- a test and what follows it
late_test : {A : Type 0} (b : Bool) (r : Refusal) (g : Unit {0} → Reads A) → IsLate r → Late (g tt) → Late (need b r >>= g)
late_test b r g h k = late_bind _ _ (late_need b r h) (λ u. k)

-- blocks and fields

late_read_raw : (c : Container) (a : Address) → Late (read_raw c a)
unfolding read_raw
late_read_raw c a = late_test _ _ _ refl (late_read _)

late_read_object : (c : Container) (a : Address) → Late (read_object c a)
unfolding read_object
late_read_object c a = late_test _ _ _ refl (late_bind _ _ (late_read _) (λ b. late_test _ _ _ refl (late_done _)))

late_present : (x : Option ℕ) → Late (present x)
unfolding present
late_present (Some v) = late_done _
late_present None = late_refuse _ _ refl

late_field : (w : ℕ) (b : List ℕ) (off : ℕ) → Late (field w b off)
unfolding field
late_field w b off = late_present _

late_part : (n : ℕ) (b : List ℕ) (off : ℕ) → Late (part n b off)
unfolding part
late_part n b off = late_test _ _ _ refl (late_done _)

late_sum : (a b : ℕ) → Late (sum a b)
unfolding sum
late_sum a b = late_test _ _ _ refl (late_done _)

-- nodes

late_parse : (b : List ℕ) → Late (parse b)
unfolding parse
late_parse b = late_test _ _ _ refl (late_test _ _ _ refl (late_test _ _ _ refl (late_test _ _ _ refl (late_done _))))

late_read_node : (c : Container) (a : Address) → Late (read_node c a)
unfolding read_node
late_read_node c a = late_bind _ _ (late_read_object c a) late_parse

late_describe : (b : List ℕ) → Late (describe b)
unfolding describe
late_describe b = late_test _ _ _ refl (late_done _)

late_fixed_slot : (d : Description) (b : List ℕ) (e : ℕ) → Late (fixed_slot d b e)
unfolding fixed_slot
late_fixed_slot d b e = late_bind _ _ (late_field _ _ _) (λ k. late_bind _ _ (late_field _ _ _) (λ v. late_done _))

late_variable_slot : (b : List ℕ) (e : ℕ) → Late (variable_slot b e)
unfolding variable_slot
late_variable_slot b e = late_bind _ _ (late_field _ _ _) (λ k. late_bind _ _ (late_field _ _ _) (λ l. late_bind _ _ (late_field _ _ _) (λ v. late_bind _ _ (late_field _ _ _) (λ m. late_done _))))

late_slot : (d : Description) (b : List ℕ) (i : ℕ) → Late (slot d b i)
unfolding slot
late_slot d b i = late_choose (is_fixed b) _ _ (late_fixed_slot d b _) (late_variable_slot b _)

late_value_of : (b : List ℕ) (s : Slot) → Late (value_of b s)
unfolding value_of
late_value_of b s = late_choose (eqb s.voff ghost_offset) _ _ (late_done _) (late_test _ _ _ refl (late_bind _ _ (late_part _ _ _) (λ v. late_done _)))

late_entry : (d : Description) (b : List ℕ) (i : ℕ) → Late (entry d b i)
unfolding entry
late_entry d b i = late_bind _ _ (late_slot d b i) (λ s. late_bind _ _ (late_part _ _ _) (λ k. late_bind _ _ (late_value_of b s) (λ v. late_done _)))

late_pointer : (v : Option (List ℕ)) → Late (pointer v)
unfolding pointer
late_pointer None = late_refuse _ _ refl
late_pointer (Some v) = late_field _ _ _

-- the object map

late_read_object_map : (c : Container) (a : Address) → Late (read_object_map c a)
unfolding read_object_map
late_read_object_map c a = late_bind _ _ (late_read_object c a) (λ b. late_test _ _ _ refl (late_test _ _ _ refl (late_done _)))

late_describe_map : (b : List ℕ) → Late (describe_map b)
unfolding describe_map
late_describe_map b = late_bind _ _ (late_describe b) (λ d. late_test _ _ _ refl (late_done _))

late_load_object_map : (c : Container) (a : Address) → Late (load_object_map c a)
unfolding load_object_map
late_load_object_map c a = late_bind _ _ (late_read_object_map c a) (λ r. late_bind _ _ (late_read_node c r) (λ b. late_bind _ _ (late_describe_map b) (λ d. late_done _)))

-- scans

late_look_at : (d : Description) (b : List ℕ) (left i : ℕ) → Late (look_at d b left i)
unfolding look_at
late_look_at d b zero i = late_done _
late_look_at d b (suc left) i = late_bind _ _ (late_entry d b i) (λ e. late_done _)

late_pointer_past : (d : Description) (b : List ℕ) (left i : ℕ) → Late (pointer_past d b left i)
unfolding pointer_past
late_pointer_past d b left i = late_bind _ _ (late_entry d b i) (λ e. late_bind _ _ (late_look_at d b left (i + 1)) (λ u. late_pointer e.value))

late_one_below : (level : ℕ) (b : List ℕ) → Late (one_below level b)
unfolding one_below
late_one_below level b = late_test _ _ _ refl (late_done _)

module _ {S : Type 0} (visit : S → Entry → Reads S) (d : Description) (child : ℕ → Reads (List ℕ)) (v : (s : S) (e : Entry) → Late (visit s e)) (k : (n : ℕ) → Late (child n)) where
  late_leaf_from : (b : List ℕ) (left i : ℕ) (s : S) → Late (leaf_from visit d child b left i s)
  unfolding leaf_from
  late_leaf_from b zero i s = late_done _
  late_leaf_from b (suc left) i s = late_bind _ _ (late_entry d b i) (λ e. late_bind _ _ (v s e) (λ s'. late_leaf_from b left (i + 1) s'))

  module _ (down : List ℕ → S → Reads S) (h : (b : List ℕ) (s : S) → Late (down b s)) where
    late_index_from : (b : List ℕ) (left i : ℕ) (s : S) → Late (index_from visit d child down b left i s)
    unfolding index_from
    late_index_from b zero i s = late_done _
    late_index_from b (suc left) i s =
        late_bind _ _ (late_pointer_past d b left i) (λ a.
        late_bind _ _ (k a) (λ n.
        late_bind _ _ (h n s) (λ s'. late_index_from b left (i + 1) s')))

    late_scan_node : (b : List ℕ) (s : S) → Late (scan_node visit d child down b s)
    unfolding scan_node
    late_scan_node b s = late_choose (is_leaf b) _ _ (late_leaf_from b _ 0 s) (late_index_from b _ 0 s)

  late_below : (l : ℕ) (b : List ℕ) (s : S) → Late (below visit d child l b s)
  unfolding below
  late_below zero b s = late_refuse _ _ refl
  late_below (suc l) b s = late_bind _ _ (late_one_below _ b) (λ n. late_scan_node (below visit d child l) (late_below l) n s)

  late_scan : (b : List ℕ) (s : S) → Late (scan visit d child b s)
  unfolding scan
  late_scan b s = late_scan_node _ (late_below _) b s

-- walks

late_children_from : (d : Description) (b : List ℕ) (left i : ℕ) (found : List ℕ) → Late (children_from d b left i found)
unfolding children_from
late_children_from d b zero i found = late_done _
late_children_from d b (suc left) i found = late_bind _ _ (late_entry d b i) (λ e. late_bind _ _ (late_pointer e.value) (λ a. late_children_from d b left (i + 1) (a ∷ found)))

late_next_node : (c : Container) (left : ℕ) (a : Address) → Late (next_node c left a)
unfolding next_node
late_next_node c left a = late_test _ _ _ refl (late_read_node c a)

module _ {S : Type 0} (visit : S → Address → Reads S) (c : Container) (d : Description) (v : (s : S) (a : Address) → Late (visit s a)) where
  late_each : (down : ℕ → Walked S → Reads (Walked S)) → ((a : ℕ) (w : Walked S) → Late (down a w)) → (l : List ℕ) (w : Walked S) → Late (each visit c d down l w)
  unfolding each
  late_each down h [] w = late_done _
  late_each down h (a ∷ rest) w = late_bind _ _ (h a w) (late_each down h rest)

  late_children_of : (down : ℕ → Walked S → Reads (Walked S)) → ((a : ℕ) (w : Walked S) → Late (down a w)) → (b : List ℕ) (w : Walked S) → Late (children_of visit c d down b w)
  unfolding children_of
  late_children_of down h b w = late_choose (is_leaf b) _ _ (late_done _) (late_bind _ _ (late_children_from d b _ 0 []) (λ cs. late_each down h cs w))

  late_walk_below : (levels a : ℕ) (w : Walked S) → Late (walk_below visit c d levels a w)
  unfolding walk_below
  late_walk_below zero a w = late_refuse _ _ refl
  late_walk_below (suc levels) a w =
      late_bind _ _ (late_next_node c _ _) (λ b.
      late_bind _ _ (v _ _) (λ s. late_children_of _ (late_walk_below levels) b _))

  late_walk : (a : Address) (s : S) → Late (walk visit c d a s)
  unfolding walk
  late_walk a s = late_bind _ _ (late_walk_below _ _ _) (λ w. late_done _)

-- the manager

late_manager_from : (c : Container) (sb : List ℕ) (at left i : ℕ) (found : List ℕ) → Late (manager_from c sb at left i found)
unfolding manager_from
late_manager_from c sb at zero i found = late_done _
late_manager_from c sb at (suc left) i found =
    late_test _ _ _ refl (late_bind _ _ (late_sum _ _) (λ o.
    late_bind _ _ (late_sum _ _) (λ a.
    late_bind _ _ (late_read_raw c _) (λ b. late_manager_from c sb at left (i + 1) _))))

late_accepted : (sm : List ℕ) → Late (accepted sm)
unfolding accepted
late_accepted sm = late_test _ _ _ refl (late_test _ _ _ refl (late_done _))

late_manager_at : (c : Container) (sb : List ℕ) (m : Mapping) → Late (manager_at c sb m)
unfolding manager_at
late_manager_at c sb m = late_bind _ _ (late_manager_from c sb _ _ 0 []) (λ bs. late_accepted _)

late_manager_by : (c : Container) (sb : List ℕ) (m : Option Mapping) → Late (manager_by c sb m)
unfolding manager_by
late_manager_by c sb None = late_refuse _ _ refl
late_manager_by c sb (Some m) = late_manager_at c sb m

late_manager : (c : Container) (sb : List ℕ) (mapped : ObjectId → Option Mapping) → Late (manager c sb mapped)
unfolding manager
late_manager c sb mapped = late_manager_by c _ _

late_list_from : (w : ℕ) (sm : List ℕ) (left off : ℕ) → Late (list_from w sm left off)
unfolding list_from
late_list_from w sm zero off = late_done _
late_list_from w sm (suc left) off = late_bind _ _ (late_field w sm off) (λ x. late_bind _ _ (late_list_from w sm left (off + w)) (λ xs. late_done _))

late_chunks_from : (b : List ℕ) (left e : ℕ) → Late (chunks_from b left e)
unfolding chunks_from
late_chunks_from b zero e = late_done _
late_chunks_from b (suc left) e = late_test _ _ _ refl (late_bind _ _ (late_chunks_from b left _) (λ cs. late_done _))

-- the pool

late_bitmaps_from : (c : Container) (ring : ℕ) (is found : List ℕ) → Late (bitmaps_from c ring is found)
unfolding bitmaps_from
late_bitmaps_from c ring [] found = late_done _
late_bitmaps_from c ring (i ∷ is) found = late_bind _ _ (late_sum ring i) (λ a. late_bind _ _ (late_read_raw c _) (λ b. late_bitmaps_from c ring is _))

late_pool_from : (c : Container) (ring base blocks : ℕ) (is : List ℕ) → Late (pool_from c ring base blocks is)
unfolding pool_from
late_pool_from c ring base blocks is = late_bind _ _ (late_bitmaps_from c ring is []) (λ bits. late_test _ _ _ refl (late_done _))

late_load_pool : (c : Container) (sm : List ℕ) → Late (load_pool c sm)
unfolding load_pool
late_load_pool c sm = late_bind _ _ (late_list_from _ sm _ _) (λ is. late_pool_from c _ _ _ is)

-- logs

late_add_problem : (p : Problem) (l : ProblemLog) → Late (add_problem p l)
unfolding add_problem
late_add_problem p l = late_bind _ _ (late_sum _ _) (λ n. late_done _)

late_add_overlap : (o : Overlap) (l : OverlapLog) → Late (add_overlap o l)
unfolding add_overlap
late_add_overlap o l = late_bind _ _ (late_sum _ _) (λ n. late_done _)

-- free queues

late_run_count : (v : Option (List ℕ)) → Late (run_count v)
unfolding run_count
late_run_count None = late_done _
late_run_count (Some v) = late_field _ _ _

late_run_of : (e : Entry) → Late (run_of e)
unfolding run_of
late_run_of e = late_bind _ _ (late_field _ _ _) (λ a. late_bind _ _ (late_run_count e.value) (λ n. late_done _))

late_node_by : (c : Container) (m : Option Mapping) → Late (node_by c m)
unfolding node_by
late_node_by c None = late_refuse _ _ refl
late_node_by c (Some m) = late_read_node c _

module _ {S : Type 0} (c : Container) (mapped : ObjectId → Option Mapping) (visit : S → Entry → Reads S) (v : (s : S) (e : Entry) → Late (visit s e)) where
  late_scan_queue : (b : List ℕ) (s : S) → Late (scan_queue c mapped visit b s)
  unfolding scan_queue
  late_scan_queue b s = late_bind _ _ (late_describe b) (λ d. late_scan visit d _ v (λ id. late_node_by c _) b s)

  late_queue_from : (m : Option Mapping) (s : S) → Late (queue_from c mapped visit m s)
  unfolding queue_from
  late_queue_from None s = late_done _
  late_queue_from (Some m) s = late_bind _ _ (late_read_node c _) (λ b. late_scan_queue b s)

  late_queue : (root : ObjectId) (s : S) → Late (queue c mapped visit root s)
  unfolding queue
  late_queue root s = late_queue_from _ s

-- the audit

late_unless : (t : Bool) (kind a : ℕ) (s : Marked Audit) → Late (unless t kind a s)
unfolding unless
late_unless true kind a s = late_done _
late_unless false kind a s = late_bind _ _ (late_add_problem _ _) (λ l. late_done _)

late_audit_mark : (p : Pool) (unmarked a : ℕ) (s : Marked Audit) → Late (audit_mark p unmarked a s)
unfolding audit_mark
late_audit_mark p unmarked a s = late_unless _ _ _ s

late_audit_use : (c : Container) (p : Pool) (unmarked in_use a : ℕ) (s : Marked Audit) → Late (audit_use c p unmarked in_use a s)
unfolding audit_use
late_audit_use c p unmarked in_use a s = late_bind _ _ (late_audit_mark p _ _ s) (λ s₁. late_unless _ _ _ s₁)

late_ring_problem : (kind base i : ℕ) (s : Marked Audit) → Late (ring_problem kind base i s)
unfolding ring_problem
late_ring_problem kind base i s = late_bind _ _ (late_sum _ _) (λ a. late_unless _ _ _ s)

late_audit_index : (base : ℕ) (used : Bool) (i : ℕ) (s : Marked Audit) → Late (audit_index base used i s)
unfolding audit_index
late_audit_index base true i s = late_ring_problem _ _ _ s
late_audit_index base false i s = late_done _

late_audit_visited : (base : ℕ) (used is : List ℕ) (s : Marked Audit) → Late (audit_visited base used is s)
unfolding audit_visited
late_audit_visited base used [] s = late_done _
late_audit_visited base used (i ∷ is) s = late_bind _ _ (late_audit_index base _ i s) (late_audit_visited base used is)

late_audit_end : (base : ℕ) (end : RingEnd) (s : Marked Audit) → Late (audit_end base end s)
unfolding audit_end
late_audit_end base Tail s = late_done _
late_audit_end base (Again i) s = late_ring_problem _ _ _ s
late_audit_end base Outside s = late_refuse _ _ refl

late_audit_ring : (sm : List ℕ) (s : Marked Audit) → Late (audit_ring sm s)
unfolding audit_ring audit_table audit_free close_ring
late_audit_ring sm s =
    late_bind _ _ (late_list_from _ sm _ _) (λ next.
    late_bind _ _ (late_list_from _ sm _ _) (λ used.
    late_bind _ _ (late_audit_visited _ used _ s) (λ s₁.
    late_bind _ _ (late_audit_end _ _ s₁) (λ s₂. late_done _))))

late_mark_set : (c : Container) (start i : ℕ) (s : Marked ℕ) → Late (mark_set c start i s)
unfolding mark_set
late_mark_set c start i s = late_bind _ _ (late_sum _ _) (λ a. late_test _ _ _ refl (late_done _))

late_mark_bit : (c : Container) (bits : List ℕ) (start i : ℕ) (s : Marked ℕ) → Late (mark_bit c bits start i s)
unfolding mark_bit
late_mark_bit c bits start i s = late_choose (bit_at bits i) _ _ (late_mark_set c start i s) (late_done _)

late_mark_from : (c : Container) (bits : List ℕ) (start left i : ℕ) (s : Marked ℕ) → Late (mark_from c bits start left i s)
unfolding mark_from
late_mark_from c bits start zero i s = late_done _
late_mark_from c bits start (suc left) i s = late_bind _ _ (late_mark_bit c bits start i s) (late_mark_from c bits start left (i + 1))

late_tally : (ch : Chunk) (map : List ℕ) (a : Audit) (zeros : ℕ) → Late (tally ch map a zeros)
unfolding tally
late_tally ch map a zeros = late_bind _ _ (late_sum _ _) (λ f. late_bind _ _ (late_sum _ _) (λ w. late_done _))

late_tally_bitmap : (c : Container) (ch : Chunk) (bits : List ℕ) (s : Marked Audit) → Late (tally_bitmap c ch bits s)
unfolding tally_bitmap
late_tally_bitmap c ch bits s = late_bind _ _ (late_mark_from c bits _ _ 0 _) (λ m. late_tally ch _ _ _)

late_read_bitmap : (c : Container) (ch : Chunk) (s : Marked Audit) → Late (read_bitmap c ch s)
unfolding read_bitmap
late_read_bitmap c ch s = late_bind _ _ (late_read_raw c _) (λ b. late_test _ _ _ refl (late_tally_bitmap c ch b _))

late_audit_bitmap : (c : Container) (p : Pool) (ch : Chunk) (s : Marked Audit) → Late (audit_bitmap c p ch s)
unfolding audit_bitmap
late_audit_bitmap c p ch s = late_bind _ _ (late_audit_use c p _ _ _ s) (late_read_bitmap c ch)

late_audit_chunk : (c : Container) (p : Pool) (ch : Chunk) (s : Marked Audit) → Late (audit_chunk c p ch s)
unfolding audit_chunk
late_audit_chunk c p ch s = late_choose (eqb ch.bitmap.0 0) _ _ (late_tally ch _ _ _) (late_audit_bitmap c p ch s)

late_audit_chunks : (c : Container) (p : Pool) (l : List Chunk) (s : Marked Audit) → Late (audit_chunks c p l s)
unfolding audit_chunks
late_audit_chunks c p [] s = late_done _
late_audit_chunks c p (ch ∷ rest) s = late_bind _ _ (late_audit_chunk c p ch s) (late_audit_chunks c p rest)

late_enter_info : (c : Container) (p : Pool) (a : Address) (s : Marked Audit) (b : List ℕ) → Late (enter_info c p a s b)
unfolding enter_info
late_enter_info c p a s b = late_bind _ _ (late_chunks_from b _ _) (λ chs. late_audit_chunks c p chs _)

late_read_info : (c : Container) (p : Pool) (a : Address) (s : Marked Audit) → Late (read_info c p a s)
unfolding read_info
late_read_info c p a s = late_bind _ _ (late_read_raw c _) (late_enter_info c p a s)

late_audit_info : (c : Container) (p : Pool) (a : Address) (s : Marked Audit) → Late (audit_info c p a s)
unfolding audit_info
late_audit_info c p a s = late_bind _ _ (late_audit_mark p _ _ s) (late_read_info c p a)

late_audit_each : (visit : Address → Marked Audit → Reads (Marked Audit)) → ((a : Address) (s : Marked Audit) → Late (visit a s)) → (l : List ℕ) (s : Marked Audit) → Late (audit_each visit l s)
unfolding audit_each
late_audit_each visit late [] s = late_done _
late_audit_each visit late (a ∷ rest) s = late_bind _ _ (late _ s) (late_audit_each visit late rest)

late_enter_address : (c : Container) (p : Pool) (a : Address) (s : Marked Audit) (b : List ℕ) → Late (enter_address c p a s b)
unfolding enter_address
late_enter_address c p a s b = late_bind _ _ (late_list_from _ b _ _) (λ infos. late_audit_each _ (late_audit_info c p) infos _)

late_read_address : (c : Container) (p : Pool) (a : Address) (s : Marked Audit) → Late (read_address c p a s)
unfolding read_address
late_read_address c p a s = late_bind _ _ (late_read_raw c a) (late_enter_address c p a s)

late_audit_address : (c : Container) (p : Pool) (a : Address) (s : Marked Audit) → Late (audit_address c p a s)
unfolding audit_address
late_audit_address c p a s = late_bind _ _ (late_audit_mark p _ _ s) (late_read_address c p a)

late_audit_listed : (c : Container) (p : Pool) (has : Bool) (l : List ℕ) (s : Marked Audit) → Late (audit_listed c p has l s)
unfolding audit_listed
late_audit_listed c p true l s = late_audit_each _ (late_audit_address c p) l s
late_audit_listed c p false l s = late_audit_each _ (late_audit_info c p) l s

late_audit_device : (c : Container) (p : Pool) (sm : List ℕ) (s : Marked Audit) → Late (audit_device c p sm s)
unfolding audit_device
late_audit_device c p sm s = late_bind _ _ (late_list_from _ sm _ _) (λ l. late_audit_listed c p _ l s)

late_audit_queued_block : (c : Container) (p : Pool) (a : ℕ) (s : Marked Audit) → Late (audit_queued_block c p a s)
unfolding audit_queued_block
late_audit_queued_block c p a s = late_bind _ _ (late_audit_use c p _ _ _ s) (λ s'. late_done _)

late_audit_queued_from : (c : Container) (p : Pool) (left a : ℕ) (s : Marked Audit) → Late (audit_queued_from c p left a s)
unfolding audit_queued_from
late_audit_queued_from c p zero a s = late_done _
late_audit_queued_from c p (suc left) a s = late_bind _ _ (late_audit_queued_block c p a s) (late_audit_queued_from c p left (a + 1))

late_audit_queued : (c : Container) (p : Pool) (s : Marked Audit) (e : Entry) → Late (audit_queued c p s e)
unfolding audit_queued
late_audit_queued c p s e = late_bind _ _ (late_run_of e) (λ r. late_test _ _ _ refl (late_audit_queued_from c p _ _ s))

-- the claims

late_claim_block : (kind a : ℕ) (s : Marked OverlapLog) → Late (claim_block kind a s)
unfolding claim_block
late_claim_block kind a s =
    let owner = owner_of (get_or s.map a 0) in
    late_choose (eqb owner unowned || eqb owner kind) _ _ (late_done _) (late_bind _ _ (late_add_overlap _ _) (λ l. late_done _))

late_claim_from : (kind left a : ℕ) (s : Marked OverlapLog) → Late (claim_from kind left a s)
unfolding claim_from
late_claim_from kind zero a s = late_done _
late_claim_from kind (suc left) a s = late_bind _ _ (late_claim_block kind a s) (late_claim_from kind left (a + 1))

late_claim : (c : Container) (kind start len : ℕ) (s : Marked OverlapLog) → Late (claim c kind start len s)
unfolding claim
late_claim c kind start len s = late_bind _ _ (late_sum start len) (λ e. late_claim_from kind _ start s)

late_claim_node : (c : Container) (kind : ℕ) (s : Marked OverlapLog) (a : Address) → Late (claim_node c kind s a)
unfolding claim_node
late_claim_node c kind s a = late_claim c _ _ _ s

late_mapped_address : (key v : List ℕ) → Late (mapped_address key v)
unfolding mapped_address
late_mapped_address key v = late_bind _ _ (late_field _ _ _) (λ x. late_bind _ _ (late_field _ _ _) (λ y. late_field _ _ _))

late_claim_mapped : (c : Container) (s : Marked OverlapLog) (key : List ℕ) (v : Option (List ℕ)) → Late (claim_mapped c s key v)
unfolding claim_mapped
late_claim_mapped c s key None = late_done _
late_claim_mapped c s key (Some v) = late_bind _ _ (late_mapped_address key v) (λ a. late_choose (is_deleted v) _ _ (late_done _) (late_claim c _ _ _ s))

late_claim_mapping : (c : Container) (s : Marked OverlapLog) (e : Entry) → Late (claim_mapping c s e)
unfolding claim_mapping
late_claim_mapping c s e = late_claim_mapped c s _ _

late_claim_mappings : (c : Container) (d : Description) (b : List ℕ) (s : Marked OverlapLog) → Late (claim_mappings c d b s)
unfolding claim_mappings
late_claim_mappings c d b s = late_scan _ d _ (late_claim_mapping c) (λ a. late_read_node c _) b s

late_claim_queued : (c : Container) (s : Marked OverlapLog) (e : Entry) → Late (claim_queued c s e)
unfolding claim_queued
late_claim_queued c s e = late_bind _ _ (late_run_of e) (λ r. late_claim c _ _ _ s)

-- the volumes

late_above : (id : ObjectId) (xid : ℕ) (key : List ℕ) → Late (above id xid key)
unfolding above
late_above id xid key = late_bind _ _ (late_field _ _ _) (λ i. late_bind _ _ (late_field _ _ _) (λ x. late_done _))

late_above_at : (d : Description) (id : ObjectId) (xid : ℕ) (b : List ℕ) (i : ℕ) → Late (above_at d id xid b i)
unfolding above_at
late_above_at d id xid b i = late_bind _ _ (late_entry d b i) (λ e. late_above id xid _)

late_search_from : (d : Description) (id : ObjectId) (xid : ℕ) (b : List ℕ) (left lo hi : ℕ) → Late (search_from d id xid b left lo hi)
unfolding search_from
late_search_from d id xid b zero lo hi = late_done _
late_search_from d id xid b (suc left) lo hi =
    late_choose (ltb lo hi) _ _ (late_bind _ _ (late_above_at d id xid b _) (λ a. late_choose a _ _ (late_search_from d id xid b left _ _) (late_search_from d id xid b left _ _))) (late_done _)

late_search : (d : Description) (id : ObjectId) (xid : ℕ) (b : List ℕ) → Late (search d id xid b)
unfolding search
late_search d id xid b = late_search_from d id xid b _ _ _

late_child_at : (c : Container) (d : Description) (level : ℕ) (b : List ℕ) (i : ℕ) → Late (child_at c d level b i)
unfolding child_at
late_child_at c d level b i = late_bind _ _ (late_entry d b i) (λ e. late_bind _ _ (late_pointer _) (λ a. late_bind _ _ (late_read_node c _) (λ n. late_one_below level n)))

late_lookup_from : (c : Container) (d : Description) (id : ObjectId) (left : ℕ) (b : List ℕ) → Late (lookup_from c d id left b)
unfolding lookup_from
late_lookup_from c d id zero b = late_refuse _ _ refl
late_lookup_from c d id (suc level) b =
    late_bind _ _ (late_search d id _ b) (λ n. late_choose (eqb n 0) _ _ (late_done _) (late_choose (is_leaf b) _ _
    (late_bind _ _ (late_entry d b _) (λ e. late_done _))
    (late_bind _ _ (late_child_at c d level b _) (late_lookup_from c d id level))))

late_lookup_le : (c : Container) (d : Description) (id : ObjectId) (b : List ℕ) → Late (lookup_le c d id b)
unfolding lookup_le
late_lookup_le c d id b = late_lookup_from c d id _ b

late_live_address : (v : List ℕ) → Late (live_address v)
unfolding live_address
late_live_address v = late_bind _ _ (late_field _ _ _) (λ a. late_test _ _ _ refl (late_done _))

late_mapped_by : (id : ObjectId) (key : List ℕ) (v : Option (List ℕ)) → Late (mapped_by id key v)
unfolding mapped_by
late_mapped_by id key None = late_refuse _ _ refl
late_mapped_by id key (Some v) = late_bind _ _ (late_field _ _ _) (λ i. late_test _ _ _ refl (late_live_address v))

late_volume_address : (id : ObjectId) (e : Option Entry) → Late (volume_address id e)
unfolding volume_address
late_volume_address id None = late_refuse _ _ refl
late_volume_address id (Some e) = late_mapped_by id _ _

late_read_volume : (c : Container) (a : Address) → Late (read_volume c a)
unfolding read_volume
late_read_volume c a = late_bind _ _ (late_read_object c a) (λ b. late_test _ _ _ refl (late_done _))

module _ (c : Container) (d : Description) (b : List ℕ) where
  late_volume_for : (id : ObjectId) → Late (volume_for c d b id)
  unfolding volume_for address_for
  late_volume_for id = late_bind _ _ (late_bind _ _ (late_lookup_le c d id b) (late_volume_address id)) (late_read_volume c)

  late_volume_at : (id : ObjectId) → Late (volume_at c d b id)
  unfolding volume_at
  late_volume_at id = late_choose (eqb id.0 0) _ _ (late_done _) (late_bind _ _ (late_volume_for id) (λ v. late_done _))

  late_volumes_from : (sb : List ℕ) (left i : ℕ) → Late (volumes_from c d b sb left i)
  unfolding volumes_from
  late_volumes_from sb zero i = late_done _
  late_volumes_from sb (suc left) i = late_bind _ _ (late_volume_at _) (λ v. late_bind _ _ (late_volumes_from sb left (i + 1)) (λ rest. late_done _))

module _ (c : Container) where
  late_claim_tree : (kind : ℕ) (a : Address) (s : Marked OverlapLog) → Late (claim_tree c kind a s)
  unfolding claim_tree
  late_claim_tree kind a s = late_bind _ _ (late_read_node c a) (λ b. late_bind _ _ (late_describe b) (λ d. late_walk _ c d (late_claim_node c kind) a s))

  late_read_map : (a : Address) → Late (read_map c a)
  unfolding read_map
  late_read_map a = late_test _ _ _ refl (late_bind _ _ (late_read_raw c a) (λ b. late_done _))

  late_claim_volume : (v : List ℕ) (s : Marked OverlapLog) → Late (claim_volume c v s)
  unfolding claim_volume claim_snapshots
  late_claim_volume v s =
      late_bind _ _ (late_claim c _ _ _ s) (λ s₁.
      late_bind _ _ (late_read_map _) (λ r.
      late_bind _ _ (late_claim_tree _ r s₁) (λ s₂.
      late_bind _ _ (late_claim_tree _ _ s₂) (λ s₃.
      late_choose (eqb (snapshots_address v).0 0) _ _ (late_done _) (late_claim_tree _ _ s₃)))))

  late_claim_each : (vs : List (List ℕ)) (s : Marked OverlapLog) → Late (claim_each c vs s)
  unfolding claim_each
  late_claim_each [] s = late_done _
  late_claim_each (v ∷ vs) s = late_bind _ _ (late_claim_volume v s) (late_claim_each vs)

  late_claim_volumes : (d : Description) (b sb : List ℕ) (s : Marked OverlapLog) → Late (claim_volumes c d b sb s)
  unfolding claim_volumes
  late_claim_volumes d b sb s = late_bind _ _ (late_volumes_from c d b sb _ _) (λ vs. late_claim_each vs s)

-- the whole

module _ (c : Container) (sb : List ℕ) (mapped : ObjectId → Option Mapping) where
  late_load_parts : Late (load_parts c sb mapped)
  unfolding load_parts manager_part pool_part
  late_load_parts = late_bind _ _ (late_load_object_map c _) (λ root. late_bind _ _ (late_manager c sb mapped) (λ sm. late_bind _ _ (late_load_pool c sm) (λ p. late_done _)))

  late_audit_blocks : (x : Parts) (s : Marked Audit) → Late (audit_blocks c sb mapped x s)
  unfolding audit_blocks
  late_audit_blocks x s = late_bind _ _ (late_audit_device c _ _ s) (λ s₁. late_queue c _ _ (late_audit_queued c _) _ s₁)

  late_audit : (x : Parts) (map : List ℕ) → Late (audit c sb mapped x map)
  unfolding audit
  late_audit x map = late_bind _ _ (late_audit_ring _ _) (late_audit_blocks x)

  late_claim_areas : (sm : List ℕ) (s : Marked OverlapLog) → Late (claim_areas c sb mapped sm s)
  unfolding claim_areas
  late_claim_areas sm s =
      late_bind _ _ (late_claim c _ _ _ s) (λ s₁.
      late_bind _ _ (late_claim c _ _ _ s₁) (λ s₂.
      late_bind _ _ (late_claim c _ _ _ s₂) (λ s₃.
      late_bind _ _ (late_claim c _ _ _ s₃) (λ s₄.
      late_bind _ _ (late_claim c _ _ _ s₄) (λ s₅. late_claim c _ _ _ s₅)))))

  late_claim_objects : (root : Address) (s : Marked OverlapLog) → Late (claim_objects c sb mapped root s)
  unfolding claim_objects claim_mappings_and_volumes
  late_claim_objects root s =
      late_bind _ _ (late_read_node c root) (λ b.
      late_bind _ _ (late_describe b) (λ d.
      late_bind _ _ (late_walk _ c d (late_claim_node c _) root s) (λ s₁.
      late_bind _ _ (late_claim_mappings c d b s₁) (late_claim_volumes c d b sb))))

  late_claim_trees : (x : Parts) (s : Marked OverlapLog) → Late (claim_trees c sb mapped x s)
  unfolding claim_trees
  late_claim_trees x s = late_bind _ _ (late_claim_objects _ s) (λ s₁. late_queue c _ _ (late_claim_queued c) _ s₁)

  late_claims : (x : Parts) (map : List ℕ) → Late (claims c sb mapped x map)
  unfolding claims
  late_claims x map = late_bind _ _ (late_claim_areas _ _) (late_claim_trees x)

  late_claim_and_report : (x : Parts) (a : Marked Audit) → Late (claim_and_report c sb mapped x a)
  unfolding claim_and_report
  late_claim_and_report x a = late_bind _ _ (late_claims x _) (λ o. late_done _)

  late_audit_and_claim : (map : List ℕ) (x : Parts) → Late (audit_and_claim c sb mapped map x)
  unfolding audit_and_claim
  late_audit_and_claim map x = late_bind _ _ (late_audit x map) (late_claim_and_report x)

  pub late_body : (map : List ℕ) → Late (body c sb mapped map)
  unfolding body
  late_body map = late_bind _ _ late_load_parts (late_audit_and_claim map)

  module _ (f : ℕ → List ℕ) (map : List ℕ) (r : Refusal) (e : run f (body c sb mapped map) ≡ refused r) where
    -- as the block map's rule tests it
    pub body_touches : leb (number_of r) last_untouched ≡ false
    body_touches = late_run f _ r (late_body map) e

    pub body_late : last_untouched < number_of r
    body_late = leb-false _ _ body_touches
