use Rattle.std.proofs.Common.{rules, refl, ◌^◌, ◌*◌, ◌%◌}
use lib.Dec.{eqb}
use Rattle.std.proofs.lemmas.Iterator.{YieldsList-from_range}
use Rattle.std.proofs.lemmas.Iterator.Search.{any_from_yields_List}
use borrow.Author.Tests.{tests}
use Rattle.checkpoint.specs.Geometry.{power_from, size_allowed}
use Rattle.checkpoint.proofs.block_zero.size_allowed.Goals as goal

pub returns : goal.returns
unfolding size_allowed power_from
returns c = any_from_yields_List (λ k. eqb c.args.size ((1 * 2 ^ k) % 2 ^ 64)) _ _ _ c.any.ensures.ran (YieldsList-from_range 12 17 5 refl refl) (λ x b q k. search (rules, tests))
