use Rattle.std.proofs.Common.{sym, ap, ◌∙◌}
use Rattle.blocks.specs.Reads.{run}
use Rattle.blocks.specs.Blocks.{block_of}
use Rattle.blocks.proofs.Laws.{at_err, at_ok}
use Rattle.manager.specs.Manager.{manager_at, accepted}
use Rattle.manager.proofs.LoadLaws.{blocks_go, stands_there, whole_there}
use Rattle.manager.proofs.load.load_at.Goals as goal

pub accept-requires : goal.accept-requires
accept-requires c = stands_there _ _ _ _ _ c.requires c.blocks_for.ensures c.blocks_there.ensures c.in_ok-blocks_there.was

pub returns-in_err-blocks_there : goal.returns-in_err-blocks_there
unfolding manager_at
returns-in_err-blocks_there c = let f = block_of c.args.image.now c.args.container.size in
    let seen = blocks_go c.args.container c.args.sb.now c.args.mapping _ _ _ c.place_of-manager.ensures c.blocks_for.ensures c.blocks_there.ensures f in
    at_err _ _ f _ seen _ _ _ c.in_err-blocks_there.was _ c.from_residual.ensures.1

pub returns : goal.returns
unfolding manager_at
returns c = let a = c.args in
    let f = block_of a.image.now a.container.size in
    let seen = blocks_go a.container a.sb.now a.mapping _ _ _ c.place_of-manager.ensures c.blocks_for.ensures c.blocks_there.ensures f in
    let stands = stands_there _ _ _ _ _ c.requires c.blocks_for.ensures c.blocks_there.ensures c.in_ok-blocks_there.was in
    at_ok _ _ f _ seen _ _ c.in_ok-blocks_there.was _ (c.accept.ensures ∙ ap (λ l. run f (accepted l)) (sym (whole_there _ _ a.sb.now a.mapping _ c.place_of-manager.ensures stands)))
