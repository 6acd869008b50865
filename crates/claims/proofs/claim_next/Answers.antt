use native.Mathlib.Omega.{arith}
use mathlib.Core.Path.{refl}
use Rattle.report.proofs.StepLaws.{step_as, step_refused}
use Rattle.claims.proofs.claim_next.Goals as goal

pub returns-in_err-log-clause-claimed : goal.returns-in_err-log-clause-claimed
returns-in_err-log-clause-claimed c count h f = step_refused (c.claim_block.ensures count (omega (arith, h, c.requires.1)) f) _ _ c.in_err-log.was _ c.from_residual.ensures.1

pub returns-clause-claimed : goal.returns-clause-claimed
returns-clause-claimed c count h f = step_as (c.claim_block.ensures count (omega (arith, h, c.requires.1)) f) _ _ c.in_ok-log.was _ refl
