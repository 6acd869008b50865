use native.Mathlib.Omega.{arith}
use mathlib.Core.Path.{ap}
use Prim.Native.Nat.{◌+◌, ◌^◌, ◌<◌}
use Rattle.blocks.specs.Reads.{run, no_blocks}
use Rattle.report.specs.declared.Cursor.{Cursor}
use Rattle.report.proofs.StepLaws.{left_first, left_on, left_err, left_done, left_unlogged}
use Rattle.claims.specs.clauses.Answers.{end_of}
use Rattle.claims.proofs.Laws.{claim_done, claim_more}
use Rattle.claims.proofs.claim_from.Goals.{At-loop-at}
use Rattle.claims.proofs.claim_from.Goals as goal

pub loop-at-init : goal.loop-at-init
loop-at-init c count h f = left_unlogged (left_first f _ _ _ _) _ _ (c.own_from-at.ensures count h f)

within : (c : At-loop-at) → c.loop-at.at.next + c.loop-at.at.left < 2 ^ 64
within c = omega (arith, (c.loop-at.invariant (end_of c.args.from) (omega arith) no_blocks).inside, c.requires.1)

pub claim_next-requires : goal.claim_next-requires
claim_next-requires c = (c.requires.0, (omega (arith, c.loop-at-test.true), within (goal.at.claim_next-requires c).At-loop-at))

pub own_from-at-requires-in-loop-at : goal.own_from-at-requires-in-loop-at
own_from-at-requires-in-loop-at c = rw c.in_ok-past.ensures.past (c.requires.0, omega (arith, within (goal.at.own_from-at-requires-in-loop-at c).At-loop-at, c.loop-at-test.true))

pub returns-in_err-past : goal.returns-in_err-past
returns-in_err-past c count h f =
    let here = c.loop-at.invariant count h f in
    let step = c.claim_next.ensures.claimed count (omega (arith, h, here.inside)) f in
    left_err here step _ _ c.in_err-past.was _ (ap (run f) (claim_more _ _ _ _ c.loop-at-test.true)) _ c.from_residual.ensures.1

pub loop-at-preserved : goal.loop-at-preserved
loop-at-preserved c count h f =
    let here = c.loop-at.invariant count h f in
    let step = c.claim_next.ensures.claimed count (omega (arith, h, here.inside)) f in
    let past = c.in_ok-past.ensures.past in
    let next = left_on here step _ c.in_ok-past.was _ (ap (run f) (claim_more _ _ _ _ c.loop-at-test.true)) (omega (arith, c.loop-at-test.true)) in
    left_unlogged next _ _ (rw past at (c.own_from-at-in-loop-at.ensures count (rw past (omega (arith, h, here.inside, c.loop-at-test.true))) f))

pub loop-at-smaller : goal.loop-at-smaller
loop-at-smaller c =
    let left = ap (λ (to : Cursor). to.left) c.in_ok-past.ensures.past in
    omega (arith, left, (c.own_from-at-in-loop-at.ensures (end_of c.in_ok-past.past) (omega arith) no_blocks).further.0, c.loop-at-test.true)

pub returns : goal.returns
returns c count h f = left_done (c.loop-at.invariant count h f) (claim_done _ _ _ _ c.loop-at-test.false)
