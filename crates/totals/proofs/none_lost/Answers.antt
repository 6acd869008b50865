use Rattle.std.proofs.lemmas.Iterator.{YieldsList-from_slice}
use Rattle.std.proofs.lemmas.Iterator.Search.{all_from_yields_List}
use Rattle.totals.proofs.Laws.{none_counted}
use borrow.Author.Rules.{rules}
use borrow.Author.Tests.{tests}
use lib.Dec.{eqb}
use mathlib.Core.Path.{◌∙◌}
use Rattle.totals.proofs.none_lost.Goals as goal

pub returns : goal.returns
returns c = all_from_yields_List (λ l. eqb l.count 0) _ _ _ c.all.ensures.ran (YieldsList-from_slice c.args.lost cc) (λ x b q k. search (rules, tests)) ∙ none_counted c.args.lost
