use Rattle.std.proofs.Common.{sym, ◌∙◌, arith}
use Rattle.checkpoint.specs.Map.{map_count}
use Rattle.checkpoint.proofs.ChainLaws.{block_done, block_here, block_next}
use Rattle.checkpoint.proofs.chain.lookup_in_block.Goals as goal

pub returns-then-u64_of-id : goal.returns-then-u64_of-id
returns-then-u64_of-id c = sym (block_here _ _ (map_count c.args.block.now) c.loop-i.i (omega arith) _ c.u64_of.ensures.is _ c.mapping_at.ensures c.if-u64_of-id.true) ∙ c.loop-i.invariant

pub loop-i-preserved : goal.loop-i-preserved
loop-i-preserved c = sym (block_next _ _ (map_count c.args.block.now) c.loop-i.i (omega arith) _ c.u64_of.ensures.is c.if-u64_of-id.false) ∙ c.loop-i.invariant

pub returns : goal.returns
returns c = sym (block_done _ _ (map_count c.args.block.now) c.loop-i.i (omega arith)) ∙ c.loop-i.invariant
