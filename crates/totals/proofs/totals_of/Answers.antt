use mathlib.Core.List.{List}
use mathlib.Core.Path.{◌≡◌, refl, sym, ap, ◌∙◌}
use Prim.Native.Nat.{◌+◌}
use native.Mathlib.Omega.{arith}
use lib.ListN.{length, length-append}
use borrow.Author.Rules.{rules}
use Rattle.std.proofs.lemmas.List.{nil_from_length}
use Rattle.std.specs.Slice.Iter.{chunks_rest}
use Rattle.report.specs.Report.{kinds}
use Rattle.report.specs.declared.Lost.{Lost}
use Rattle.block_map.specs.BlockMap.{is_used, count_in}
use Rattle.totals.specs.clauses.Counting.{first_kind, lost_after}
use Rattle.totals.specs.declared.Counts.{Counts}
use Rattle.totals.specs.Totals.{is_leaked, lost_from}
use Rattle.totals.proofs.Laws.{count_fits, count_row, lost_fits, after_start, after_row, after_quiet, after_none}
use Rattle.totals.proofs.totals_of.Goals.{After-counts_of-counts, Joined-counts-ne-UNOWNED, then-counts-ne-UNOWNED, else-counts-ne-UNOWNED}
use Rattle.totals.proofs.totals_of.Goals as goal

used_left : (c : After-counts_of-counts) → count_in is_used (chunks_rest c.next.new.self) (c.loop-row.used + c.counts_of-counts.result.used) ≡ count_in is_used c.args.cells.now 0
used_left c = count_row is_used _ c.in-Some.row.now _ _ _ _ c.in-Some.ensures.steps.1.0 (ap (λ (k : Counts). k.used) c.counts_of-counts.ensures) c.loop-row.invariant.3

leaked_left : (c : After-counts_of-counts) → count_in is_leaked (chunks_rest c.next.new.self) (c.loop-row.leaked + c.counts_of-counts.result.leaked) ≡ count_in is_leaked c.args.cells.now 0
leaked_left c = count_row is_leaked _ c.in-Some.row.now _ _ _ _ c.in-Some.ensures.steps.1.0 (ap (λ (k : Counts). k.leaked) c.counts_of-counts.ensures) c.loop-row.invariant.4

lost_left : (c : After-counts_of-counts) (next : List Lost) → next ≡ lost_after c.in-Some.row.now c.loop-row.at first_kind c.loop-row.lost
    → lost_after (chunks_rest c.next.new.self) (c.loop-row.at + length c.in-Some.row.now) first_kind next ≡ lost_from c.args.cells.now kinds first_kind
lost_left c next e = after_row _ c.in-Some.row.now _ c.loop-row.at first_kind _ next c.in-Some.ensures.steps.1.0 e ∙ c.loop-row.invariant.5

-- the blocks so far
reach : (c : After-counts_of-counts) → c.loop-row.at + length c.in-Some.row.now + length (chunks_rest c.next.new.self) ≡ length c.args.cells.now
reach c = omega (arith, c.loop-row.invariant.1, ap length c.in-Some.ensures.steps.1.0, length-append c.in-Some.row.now (chunks_rest c.next.new.self))

step : (c : Joined-counts-ne-UNOWNED) → lost_after (chunks_rest c.next.new.self) (c.loop-row.at + length c.in-Some.row.now) first_kind c.if-counts-ne-UNOWNED.lost ≡ lost_from c.args.cells.now kinds first_kind
step c =
    let counted = (goal.at.loop-row-preserved c).After-counts_of-counts in
    elim c.if-counts-ne-UNOWNED.branch [
      | then-counts-ne-UNOWNED w ↦ lost_left counted _ (w.lost-is ∙ w.lost_in-next.ensures)
      | else-counts-ne-UNOWNED w ↦
          lost_left counted _
          (w.lost-is ∙ sym (after_quiet _ _ first_kind _ (omega arith) (sym (ap (λ (k : Counts). k.lost) c.counts_of-counts.ensures) ∙ w.if-counts-ne-UNOWNED.false)))
    ]

pub loop-row-init : goal.loop-row-init
loop-row-init c = (
  search rules,
  search rules,
  refl,
  search rules,
  search rules,
  rw (ap chunks_rest c.into_iter-row-iterator.ensures.into_iter_gives ∙ c.chunks-row-items.ensures.rest) (after_start c.args.cells.now kinds first_kind),
)

pub overflow_add-used : goal.overflow_add-used
overflow_add-used c = omega (arith, count_fits is_used _ _ _ (used_left (goal.at.overflow_add-used c).After-counts_of-counts))

pub overflow_add-leaked : goal.overflow_add-leaked
overflow_add-leaked c = omega (arith, count_fits is_leaked _ _ _ (leaked_left (goal.at.overflow_add-leaked c).After-counts_of-counts))

pub lost_in-next-requires : goal.lost_in-next-requires
lost_in-next-requires c =
    let l = c.loop-row in
    let long = reach (goal.at.lost_in-next-requires c).After-counts_of-counts in
    record {
      blocks = omega (arith, long);
      counts = λ j. omega (arith, long, lost_fits _ _ l.at kinds first_kind l.lost j l.invariant.5);
    }

pub loop-row-preserved : goal.loop-row-preserved
loop-row-preserved c =
    let counted = (goal.at.loop-row-preserved c).After-counts_of-counts in
    (search rules, reach counted, search rules, used_left counted, leaked_left counted, step c)

pub returns : goal.returns
unfolding count_in
returns c = let inv = c.loop-row.invariant in
    let none = nil_from_length _ c.in-None.ensures.steps.1.0 in
    rw (rw none at inv.3, rw none at inv.4, sym (after_none _ first_kind _) ∙ rw none at inv.5)
