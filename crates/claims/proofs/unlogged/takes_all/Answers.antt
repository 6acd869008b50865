use mathlib.Core.Path.{refl}
use borrow.Author.Rules.{rules}
use borrow.Author.Tests.{tests}
use Rattle.std.proofs.lemmas.Iterator.{YieldsList-from_range}
use Rattle.std.proofs.lemmas.Iterator.Search.{all_from_yields_List}
use Rattle.claims.specs.clauses.Unlogged.{takes}
use Rattle.claims.proofs.unlogged.takes_all.Goals as goal

pub returns : goal.returns
returns c = all_from_yields_List (takes c.args.kind c.args.map.now) _ _ _ c.all.ensures.ran (YieldsList-from_range c.args.start c.args.end _ refl refl) (λ x b q k. search (rules, tests))
