use Rattle.std.proofs.Common.{ℕ, ◌+◌, ◌%◌, ◌^◌, ◌∙◌, lit<, rules}
use Rattle.std.proofs.lemmas.Iterator.{YieldsList-from_slice}
use Rattle.std.proofs.lemmas.Iterator.Consumers.{fold_from_yields_List}
use Rattle.report.specs.declared.Lost.{Lost}
use Rattle.listing_text.proofs.Laws.{lost_fold}
use Rattle.listing_text.proofs.listing.lost_total.Goals as goal

pub returns : goal.returns
returns c =
    fold_from_yields_List _ (λ (sum : ℕ) (l : Lost). (sum + l.count) % 2 ^ 64) 0 _ c.fold.ensures.ran (YieldsList-from_slice c.args.lost.now c.iter.ensures.rest) (λ a x b q k. search rules)
    ∙ lost_fold c.args.lost.now 0 (lit< tt)
