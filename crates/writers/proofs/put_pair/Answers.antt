use Rattle.writers.proofs.Laws.{wrote_then, pair_of}
use native.Mathlib.Omega.{arith}
use Rattle.writers.proofs.put_pair.Goals as goal

pub returns : goal.returns
returns c =
    rw (pair_of c.args.bytes.now (λ i. omega (arith, c.shared_slice_known-1.given i)) c.requires.0 _ _ c.u64_of-first.ensures.is c.u64_of-second.ensures.is) at
    (wrote_then c.put-end.ensures.0 c.put.ensures.0)
