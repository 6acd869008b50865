use Rattle.std.proofs.Common.{◌≡◌, ◌∙◌, ◌%◌, get_or, sym, arith}
use Rattle.std.proofs.lemmas.Grind.{common_steps}
use Rattle.std.proofs.lemmas.Option.{gets}
use Rattle.pool.proofs.Laws.{byte_none, byte_in}
use Rattle.pool.proofs.bitmap_byte.Goals as goal

pub returns-then-size-eq0 : goal.returns-then-size-eq0
returns-then-size-eq0 c = sym (byte_none _ _ _ _ c.if-size-eq0.true)

pub returns : goal.returns
returns c =
    let read : c.unwrap_or.result ≡ get_or c.bitmap_block-block.result.now (c.args.index % c.args.container.size) 0 = grind (arith, common_steps, gets) in
    read ∙ byte_in _ _ _ _ (omega arith) _ c.bitmap_block-block.ensures
