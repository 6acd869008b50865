use Rattle.std.proofs.Common.{sym, ◌∙◌}
use Rattle.blocks.proofs.Laws.{is_given}
use Rattle.block_map.proofs.Laws.{not_made}
use Rattle.audit.proofs.UnloggedLaws.{unlogged_none, unlogged_past, unlogged_is, entry_made}
use Rattle.audit.proofs.unlogged.audit_unlogged.Goals as goal

pub returns-in_default : goal.returns-in_default
returns-in_default c = (unlogged_none _ _ _ _ _ (c.run_of.ensures _) c.in_default.not-Ok, not_made)

pub returns-then-not-has_run : goal.returns-then-not-has_run
returns-then-not-has_run c = (unlogged_past _ _ _ _ _ (is_given _ _ _ _ (c.run_of.ensures _) _ c.in-Ok.is) (sym c.has_run.ensures ∙ c.if-not-has_run.true), not_made)

pub returns-then-not-all_unused : goal.returns-then-not-all_unused
returns-then-not-all_unused c =
    let has = sym c.has_run.ensures ∙ c.if-not-has_run.false in
    (unlogged_is _ _ _ _ _ (is_given _ _ _ _ (c.run_of.ensures _) _ c.in-Ok.is) _ has (sym c.all_unused.ensures ∙ c.if-not-all_unused.true), not_made)

pub returns : goal.returns
returns c =
    let has = sym c.has_run.ensures ∙ c.if-not-has_run.false in
    let unused = sym c.all_unused.ensures ∙ c.if-not-all_unused.false in (
      unlogged_is _ _ _ _ _ (is_given _ _ _ _ (c.run_of.ensures _) _ c.in-Ok.is) _ has unused,
      entry_made _ _ _ _ _ _ _ (is_given _ _ _ _ (c.run_of.ensures _) _ c.in-Ok.is) has unused c.use_run.ensures,
    )
