-- The walk on small tables, each way that it ends, and the audit of a manager's free list: the problems in their order, the figure,
-- refusals. The sentences are document 02's.
use Rattle.std.proofs.Common.{Bool, List, [], ◌∷◌, ◌++◌, map, ℕ, ◌+◌, ◌*◌, ◌-◌, ◌^◌, T, take}
use Rattle.fields.specs.Fields.{le, num, field_at}
use Rattle.fields.proofs.Rows.{row, zeros, bytes_of, block_from, same, every}
use Rattle.blocks.specs.Reads.{Outcome, given, refused, run, no_blocks, ◌>>=◌, need}
use Rattle.blocks.specs.Blocks.{present, field, sum}
use Rattle.blocks.specs.Refusals.{number_of}
use Rattle.manager.specs.Manager.{list_from}
use Rattle.block_map.specs.BlockMap.{Marked}
use Rattle.report.specs.Report.{no_problems, note, add_problem}
use Rattle.audit.specs.Audit.{no_audit, unless}
use Rattle.audit.specs.clauses.Answers.{audited}
use Rattle.audit.specs.declared.Audit.{Audit}
use Rattle.free_ring.specs.Ring.{is_in, RingWalk, ring_from, ring_of, met_in, met}
use Rattle.free_ring.specs.FreeRing.{ring_problem, audit_index, audit_visited, audit_end, close_ring, audit_free, audit_table, audit_ring}
use Rattle.free_ring.specs.declared.RingEnd.{RingEnd}
use Rattle.free_ring.specs.declared.RingEnd.TheVariants.{Tail, Again, Outside}

-- how a walk ended: 0 at the tail, 1 at an index again, 2 outside; then the indices that it visited
abbrev end_number : RingEnd → ℕ
end_number Tail = 0
end_number (Again i) = 1
end_number Outside = 2

abbrev told : RingWalk → List ℕ
told w = end_number w.ending ∷ w.visited

-- a ring of four blocks with the list 2, 0, 3; block 1 is aside
abbrev next : List ℕ
next = 3 ∷ 0xffff ∷ 0 ∷ 2 ∷ []

walks : List Bool
walks =
    -- "up to and including the free tail"
    same (told (ring_of next 2 3)) (0 ∷ 2 ∷ 0 ∷ 3 ∷ [])
    -- "A head of 0xffff .. is an empty list", whatever the tail; where it is met later it is an index
    ∷ same (told (ring_of next 0xffff 7)) (0 ∷ [])
    ∷ same (told (ring_of next 1 3)) (2 ∷ 1 ∷ [])
    -- a head that is the tail: one index, whose entry isn't looked at
    ∷ same (told (ring_of next 1 1)) (0 ∷ 1 ∷ [])
    -- a tail that is never met, in a circle and in one of a single index; what was met has the index that came again
    ∷ same (told (ring_of next 2 1)) (1 ∷ 2 ∷ 0 ∷ 3 ∷ [])
    ∷ same (met (ring_of next 2 1)) (2 ∷ 0 ∷ 3 ∷ 2 ∷ [])
    ∷ same (told (ring_of (0 ∷ []) 0 9)) (1 ∷ 0 ∷ [])
    -- an index that is the ring's block count, at the head and after the whole ring
    ∷ same (told (ring_of next 4 4)) (2 ∷ [])
    ∷ same (told (ring_of (1 ∷ 2 ∷ []) 0 5)) (2 ∷ 0 ∷ 1 ∷ [])
    ∷ []

walked : T (every walks)
unfolding walks is_in ring_from ring_of met_in
walked = tt

-- a manager of 356 bytes, whose ring of so many blocks has its table from byte 344 on; the table is the one above, and the pool's
-- bitmap has the two indices behind it
abbrev manager : ℕ → ℕ → ℕ → ℕ → ℕ → ℕ → List ℕ
manager ring base head tail one two =
    block_from 356 0
    (row 160 4 2 ∷ row 164 4 ring ∷ row 168 8 base ∷ row 320 2 head ∷ row 322 2 tail ∷ row 328 4 352 ∷ row 332 4 344
    ∷ row 344 2 3 ∷ row 346 2 0xffff ∷ row 348 2 0 ∷ row 350 2 2 ∷ row 352 2 one ∷ row 354 2 two ∷ [])
    []

-- the problems, each as its kind and two digits of its block, and then how many different indices; of a refusal, the paper's number
abbrev logged : Outcome (Marked Audit) → List ℕ
logged (given s) = map (λ p. p.kind * 100 + p.block) (take s.figures.problems.total s.figures.problems.first) ++ (s.figures.ring ∷ [])
logged (refused r) = number_of r ∷ []

abbrev found : List ℕ → List ℕ
found sm = logged (run no_blocks (audit_ring sm (audited [] no_audit)))

table : List Bool
table =
    -- a true list, and an empty one
    same (found (manager 4 10 2 3 1 7)) (3 ∷ [])
    ∷ same (found (manager 4 10 0xffff 0 2 3)) (0 ∷ [])
    -- "A bitmap index in use that is also on this list is problem 7": in the list's order, at its head, inside and at its tail
    ∷ same (found (manager 4 10 2 3 3 2)) (712 ∷ 713 ∷ 3 ∷ [])
    ∷ same (found (manager 4 10 2 3 0 0)) (710 ∷ 3 ∷ [])
    -- "an index visited twice is problem 8 alone, at which this list's audit stops": no second 7
    ∷ same (found (manager 4 10 2 1 2 9)) (712 ∷ 812 ∷ 3 ∷ [])
    -- "25, an index on the list is at or above the ring's block count, given where met"
    ∷ same (found (manager 4 10 4 4 1 1)) (25 ∷ [])
    ∷ same (found (manager 3 10 2 0 1 1)) (2 ∷ [])
    ∷ same (found (manager 3 10 2 1 1 1)) (25 ∷ [])
    -- before it 7 isn't asked: its sum would be 21
    ∷ same (found (manager 4 (2 ^ 64 - 4) 4 4 4 4)) (25 ∷ [])
    -- a problem's sum may be 2^64 − 1, and no more; without a problem none is made
    ∷ same (found (manager 4 (2 ^ 64 - 3) 2 3 2 2)) ((700 + (2 ^ 64 - 1)) ∷ 3 ∷ [])
    ∷ same (found (manager 4 (2 ^ 64 - 2) 2 3 2 2)) (21 ∷ [])
    ∷ same (found (manager 4 (2 ^ 64 - 1) 2 3 1 1)) (3 ∷ [])
    -- "the table (for an empty list too) read whole first": 6 entries end where the manager does
    ∷ same (found (manager 6 10 0xffff 0 1 1)) (0 ∷ [])
    ∷ same (found (manager 7 10 0xffff 0 1 1)) (17 ∷ [])
    ∷ same (found (manager 7 10 7 7 1 1)) (17 ∷ [])
    ∷ []

samples : T (every table)
unfolding table le num field_at zeros bytes_of block_from run ◌>>=◌ need present field sum list_from no_problems note add_problem unless is_in ring_from ring_of ring_problem audit_index audit_visited audit_end close_ring audit_free audit_table audit_ring
samples = tt
