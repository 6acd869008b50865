use Rattle.std.proofs.Common.{◌≡◌, sym, arith, rules, get_or, ◌∙◌, ◌%◌, ◌+◌}
use Rattle.std.proofs.lemmas.Grind.{common_steps}
use Rattle.std.proofs.lemmas.Option.{gets}
use Rattle.manager.proofs.Laws.{placed_past, byte_none, byte_there}
use Rattle.manager.proofs.place.byte_in.Goals as goal

pub returns-then-saturating_sub-index : goal.returns-then-saturating_sub-index
returns-then-saturating_sub-index c = (sym (placed_past _ _ _ _ (omega arith)), search rules)

pub returns-then-size-eq0 : goal.returns-then-size-eq0
returns-then-size-eq0 c = (sym (byte_none _ _ _ _ (omega arith) c.if-size-eq0.true), search rules)

pub returns : goal.returns
returns c =
    let read : c.unwrap_or.result ≡ get_or c.ring_block-block.result.now ((c.args.off + c.args.index) % c.args.container.size) 0 = grind (arith, common_steps, gets) in
    (c.wide.ensures.0 ∙ read ∙ sym (byte_there _ _ _ _ (omega arith) _ c.ring_block-block.ensures), search rules)
