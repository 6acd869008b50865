use Rattle.std.proofs.Common.{ℕ, Option, ap, ◌∙◌, le_refl, arith}
use Rattle.std.specs.Option.{unwrap_or}
use Rattle.listing_text.proofs.Laws.{less_left, none_left, fill_more, fill_done, taken_most}
use Rattle.listing_text.proofs.page.Page.put_line.Goals as goal

pub overflow_add-next : goal.overflow_add-next
overflow_add-next c = omega (arith, taken_most _ _ c.put_piece-next.ensures.taken)

pub loop-c-preserved : goal.loop-c-preserved
loop-c-preserved c = (
  omega (arith, taken_most _ _ c.put_piece-next.ensures.taken),
  less_left c.loop-c.invariant.1
      (fill_more _ _ c.loop-c.c-index c.loop-c.next _ _ (omega arith) (c.unwrap_or-figure.ensures ∙ ap (λ (o : Option ℕ). unwrap_or o 0) c.copied.ensures ∙ c.get.ensures.lookup.4 (le_refl _) 0) c.put_piece-next.ensures.taken)
      c.put_piece-next.ensures.piece,
)

pub returns : goal.returns
returns c = none_left c.loop-c.invariant.1 (fill_done _ _ c.loop-c.c-index _ (omega arith))
