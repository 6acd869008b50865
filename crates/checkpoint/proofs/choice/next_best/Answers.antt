use Rattle.std.proofs.Common.{◌≡◌, refl, ap, sym, ◌∙◌, ◌∷◌, [], None, rules}
use Rattle.std.proofs.lemmas.Fn.{fold_over}
use Rattle.std.proofs.iter.Yields.{nat_range_steps, Range-gives}
use Rattle.std.proofs.lemmas.List.Sums.{fold-append}
use Rattle.std.specs.List.{fold}
use Rattle.blocks.specs.Blocks.{block_of}
use Rattle.checkpoint.proofs.SearchLaws.{best_turn, best_all}
use Rattle.checkpoint.proofs.choice.next_best.Goals as goal

pub returns : goal.returns
returns c =
    let turn = best_turn (block_of c.args.image.now c.args.geometry.size) c.args.geometry c.args.last in
    fold_over nat_range_steps (λ x. x) _ (λ ys r. r ≡ fold turn None ys) _ (λ ys a x b f' j k.
    let here : b ≡ turn a x = search rules in
    (here ∙ ap (λ z. turn z x) j ∙ sym (fold-append turn None ys (x ∷ [])), search rules)) _ _ _ _ (Range-gives (record { start = 0; end = c.args.geometry.ring })) refl c.fold.ensures.ran
    ∙ best_all _ c.args.geometry _
