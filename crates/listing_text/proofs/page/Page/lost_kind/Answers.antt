use Rattle.std.proofs.Common.{◌≡◌, None, refl, le_refl, rules}
use Rattle.totals.specs.clauses.Counting.{no_lost}
use Rattle.listing_text.proofs.Laws.{nothing, kind_line, no_kind_line}
use Rattle.listing_text.proofs.page.Page.lost_kind.Goals as goal
use Rattle.listing_text.proofs.page.Page.lost_kind.Goals.{in_default-via-in-None-1, in_default-via-in-Some+else-l-ne0}

pub returns-then-l-ne0 : goal.returns-then-l-ne0
returns-then-l-ne0 c =
    rw (← kind_line _ _ _ (rw c.in-Some.is at (c.get.ensures.lookup.4 (le_refl _) no_lost)) c.if-l-ne0.true) c.lost_kind_line.ensures

pub returns-in_default : goal.returns-in_default
returns-in_default c =
    elim c.in_default.branch [
      | in_default-via-in-None-1 w ↦
          let none : c.get.result ≡ None = search rules in
          rw (← no_kind_line _ _ _ (rw none at (c.get.ensures.lookup.4 (le_refl _) no_lost)) refl) (nothing _)
      | in_default-via-in-Some+else-l-ne0 w ↦ rw (← no_kind_line _ _ _ (rw w.in-Some.is at (c.get.ensures.lookup.4 (le_refl _) no_lost)) w.if-l-ne0.false) (nothing _)
    ]
