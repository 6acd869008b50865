use Rattle.std.proofs.Common.{◌≡◌, refl, sym, ◌∙◌, ◌&&◌, ltb, Bool, true, false, Some, None, rules, arith}
use Rattle.std.specs.Bool.{then_some}
use borrow.Author.Tests.{tests}
use Rattle.fields.specs.Choice.{pick}
use Rattle.blocks.specs.declared.Address.{Address}
use Rattle.checkpoint.specs.Map.{chain_address}
use Rattle.checkpoint.specs.clauses.InPlace.{link_of}
use Rattle.checkpoint.proofs.ChainLaws.{link_past}
use Rattle.checkpoint.proofs.chain.Chain.link.Goals as goal

picked : (b : Bool) (a : Address) → then_some b a ≡ pick b (Some a) None
picked true a = refl
picked false a = refl

pub returns : goal.returns
unfolding link_of chain_address
returns c =
    let e : c.if-n-gt0.then_some ≡ (ltb 0 c.in_ok-n.n && ltb c.in_ok-n.n c.args.self.geometry.count) = search (rules, tests) in
    c.then_some.ensures ∙ rw e (search (rules, picked))

pub returns-in_err-n : goal.returns-in_err-n
returns-in_err-n c = c.from_residual.ensures ∙ sym (link_past _ _ _ _ _ c.descriptor_base-base.ensures c.descriptor_index.ensures.0 (omega arith))
