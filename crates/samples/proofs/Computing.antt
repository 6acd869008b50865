-- Every definition of the check, named once: what says `unfolding computed` computes with them all.
use mathlib.Core.List.{List}
use Prim.Native.Nat.{ℕ}
use Rattle.fields.specs.Fields.{le, num, field_at, bit_at}
use Rattle.fletcher.specs.Fletcher.{seal, fletcher, checksum, verifies}
use Rattle.blocks.specs.Blocks.{block_of, read_raw, read_object, present, field, part, sum}
use Rattle.blocks.specs.Reads.{run, ◌>>=◌, need}
use Rattle.nodes.specs.Node.{value_end, parse, read_node, describe, fixed_slot, variable_slot, slot, value_of, entry, pointer}
use Rattle.nodes.specs.ObjectMap.{read_object_map, describe_map, load_object_map}
use Rattle.nodes.specs.Scan.{look_at, pointer_past, one_below, leaf_from, index_from, scan_node, below, scan}
use Rattle.nodes.specs.Walk.{children_from, next_node, each, children_of, walk_below, walk}
use Rattle.checkpoint.specs.Checkpoint.{area_from, is_after, is_ahead, best_from, loaded, try, try_from, take_superblock, admit}
use Rattle.checkpoint.specs.Geometry.{power_from, size_allowed, allowed, geometry}
use Rattle.checkpoint.specs.Map.{mappings_from, belongs_to, chain_address, chain_from, chain, lookup}
use Rattle.checkpoint.specs.Superblock.{sound}
use Rattle.manager.specs.Chunks.{chunk_at, chunks_from}
use Rattle.manager.specs.Manager.{manager_from, accepted, manager_at, manager_by, manager, list_from}
use Rattle.audit.specs.Audit.{unless, audit_mark, audit_use, enter, mark_set, mark_bit, mark_from, tally, tally_bitmap, read_bitmap, audit_bitmap, audit_chunk, audit_chunks, enter_info, read_info, audit_info, audit_each, enter_address, read_address, audit_address, audit_listed, audit_device, audit_queued_block, audit_queued_from, audit_queued}
use Rattle.free_ring.specs.Ring.{is_in, ring_from, ring_of}
use Rattle.free_ring.specs.FreeRing.{ring_problem, audit_index, audit_visited, audit_end, close_ring, audit_free, audit_table, audit_ring}
use Rattle.block_map.specs.BlockMap.{update, used_at, cleared, count_in, first_in}
use Rattle.space_check.specs.Check.{Result, report_of, pool_part, manager_part, load_parts, audit_blocks, audit, claim_areas, claim_mappings_and_volumes, claim_objects, claim_trees, claims, claim_and_report, audit_and_claim, body, rest, pass, settle, check_in, check}
use Rattle.claims.specs.Claims.{claim_block, claim_from, claim, claim_node, mapped_address, claim_mapped, claim_mapping, claim_mappings, claim_queued}
use Rattle.volumes.specs.Lookup.{is_above, above, above_at, search_from, search, child_at, lookup_from, lookup_le}
use Rattle.volumes.specs.Volumes.{live_address, mapped_by, volume_address, is_volume, read_volume, address_for, volume_for, volume_at, volumes_from, claim_tree, read_map, claim_snapshots, claim_volume, claim_each, claim_volumes}
use Rattle.pool.specs.Pool.{bitmaps_from, pool_from, load_pool, pool_marked, unused_from}
use Rattle.queue.specs.Queue.{run_count, run_of, node_by, scan_queue, queue_from, queue}
use Rattle.totals.specs.Totals.{is_lost, lost_of, lost_from, is_leaked, lost_in, verdict_of}
use Rattle.report.specs.Report.{no_problems, no_overlaps, sum_of, count_claimant, note, add_problem, add_overlap, zero_report, refusal, reported, ending_number}

unfoldable pub computed : List ℕ → List ℕ → Result
unfolding le num field_at bit_at seal fletcher checksum verifies block_of read_raw read_object present field part sum run ◌>>=◌ need value_end parse read_node describe fixed_slot variable_slot slot value_of entry pointer read_object_map describe_map load_object_map leaf_from look_at pointer_past one_below index_from scan_node below scan children_from next_node each children_of walk_below walk area_from is_after is_ahead best_from loaded try try_from take_superblock admit power_from size_allowed allowed geometry mappings_from belongs_to chain_address chain_from chain lookup sound chunk_at chunks_from manager_from accepted manager_at manager_by manager list_from unless audit_mark audit_use enter mark_set mark_bit mark_from tally tally_bitmap read_bitmap audit_bitmap audit_chunk audit_chunks enter_info read_info audit_info audit_each enter_address read_address audit_address audit_listed audit_device audit_queued_block audit_queued_from audit_queued is_in ring_from ring_of ring_problem audit_index audit_visited audit_end close_ring audit_free audit_table audit_ring update used_at cleared count_in first_in audit_blocks audit claim_areas claim_mappings_and_volumes claim_objects claim_trees claims claim_and_report audit_and_claim is_lost lost_of lost_from lost_in is_leaked verdict_of report_of pool_part manager_part load_parts body rest pass settle check_in check claim_block claim_from claim claim_node mapped_address claim_mapped claim_mapping claim_mappings claim_queued is_above above above_at search_from search child_at lookup_from lookup_le live_address mapped_by volume_address is_volume read_volume address_for volume_for volume_at volumes_from claim_tree read_map claim_snapshots claim_volume claim_each claim_volumes bitmaps_from pool_from load_pool pool_marked unused_from run_count run_of node_by scan_queue queue_from queue no_problems no_overlaps sum_of count_claimant note add_problem add_overlap zero_report refusal reported ending_number
computed image map = check image map
