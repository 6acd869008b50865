-- Laws of runs that log nothing.
use Rattle.std.proofs.Common.{Bool, true, false, not, ◌&&◌, List, ◌≡◌, refl, ap, ◌∙◌, ℕ, zero, suc, ◌+◌, ◌-◌, ◌≤◌, ◌<◌, arith, leb, Result, Ok, Err, leb-true}
use Rattle.blocks.specs.Reads.{Outcome, given, run, ◌>>=◌}
use Rattle.blocks.specs.clauses.Answers.{outcome}
use Rattle.blocks.specs.declared.Container.{Container}
use Rattle.blocks.specs.declared.Refusal.{Refusal}
use Rattle.blocks.proofs.Laws.{and_left, and_right, then_given, need_true}
use Rattle.nodes.specs.Node.{Entry}
use Rattle.queue.specs.Queue.{run_of}
use Rattle.queue.specs.declared.Run.{Run}
use Rattle.block_map.specs.clauses.Maps.{Kept, Unlogged}
use Rattle.block_map.specs.BlockMap.{update, used_at, used}
use Rattle.block_map.proofs.Laws.{update_other, was_made, kept_same, kept_then, kept_update}
use Rattle.pool.specs.Pool.{Pool, pool_marked}
use Rattle.audit.specs.Audit.{unless, audit_mark, audit_use, enter, audit_queued_block, audit_queued_from, audit_queued}
use Rattle.audit.specs.clauses.Unlogged.{all_unused, used_from, unlogged_run}
use Rattle.audit.specs.declared.Audit.{Audit}
use Rattle.audit.proofs.Laws.{none_left, one_less}

-- the use of block a says nothing of a later one
later_same : (c : Container) (map : List ℕ) (a b : ℕ) → a < b → used_at c (update used a map) b ≡ used_at c map b
unfolding used_at
later_same c map a b h = rw (update_other used a b map (λ e. omega arith)) refl

module _ (c : Container) (p : Pool) where
  all_later_same : (map : List ℕ) (a left b : ℕ) → a < b → all_unused c p (update used a map) left b ≡ all_unused c p map left b
  unfolding all_unused
  all_later_same map a zero b h = refl
  all_later_same map a (suc left) b h = rw (later_same c map a b h, all_later_same map a left (b + 1) (omega arith)) refl

  -- a block that is unused and marked logs nothing, and so do all
  one_unlogged : (left a : ℕ) (map : List ℕ) (figures : Audit) → not (used_at c map a) ≡ true → pool_marked p a ≡ true
      → audit_queued_from c p (suc left) a (record { map = map; figures = figures }) ≡ audit_queued_from c p left (a + 1) (record { map = update used a map; figures = figures })
  unfolding audit_queued_from audit_queued_block audit_use audit_mark unless enter ◌>>=◌
  one_unlogged left a map figures unused marked = rw (marked, unused) refl

  all_unlogged : (f : ℕ → List ℕ) (left a : ℕ) (map : List ℕ) (figures : Audit) → all_unused c p map left a ≡ true
      → run f (audit_queued_from c p left a (record { map = map; figures = figures })) ≡ given (record { map = used_from left a map; figures = figures })
  unfolding all_unused used_from audit_queued_from run
  all_unlogged f zero a map figures e = refl
  all_unlogged f (suc left) a map figures e =
      let unused = not (used_at c map a) in
      let marked = pool_marked p a in
      let rest = all_unused c p map left (a + 1) in
      let both = and_left (unused && marked) rest e in
      ap (run f) (one_unlogged left a map figures (and_left unused marked both) (and_right unused marked both))
      ∙ all_unlogged f left (a + 1) (update used a map) figures (all_later_same map a left (a + 1) (omega arith) ∙ and_right (unused && marked) rest e)

-- what an entry names, by whether it is a run, the container has it, and its blocks are unused and marked
module _ (c : Container) (p : Pool) (map : List ℕ) (o : Outcome Run) where
  pub unlogged_none : (r : Result Run Refusal) → outcome r ≡ o → ((x : Run) → r ≡ Ok x → ⊥) → false ≡ unlogged_run c p map o
  unfolding unlogged_run
  unlogged_none (Ok x) e none = absurd (none x refl)
  unlogged_none (Err y) e none = rw (← e) refl

  module _ (x : Run) (e : o ≡ given x) where
    pub unlogged_past : leb (x.start + x.count) c.count ≡ false → false ≡ unlogged_run c p map o
    unfolding unlogged_run
    unlogged_past t = rw (e, t) refl

    pub unlogged_is : (r : Bool) → leb (x.start + x.count) c.count ≡ true → all_unused c p map x.count x.start ≡ r → r ≡ unlogged_run c p map o
    unfolding unlogged_run
    unlogged_is r t h = rw (e, t, h) refl

-- bytes past the block count are kept, where the container has the run
kept_run : (count left a : ℕ) (map : List ℕ) → a + left ≤ count → Kept count map (used_from left a map)
unfolding used_from
kept_run count zero a map h = kept_same count map
kept_run count (suc left) a map h = kept_then _ _ _ _ (kept_update count used a map (omega arith)) (kept_run count left (a + 1) (update used a map) (omega arith))

-- an entry's step, where its run is there and the blocks are unused and marked
pub entry_made : (f : ℕ → List ℕ) (c : Container) (p : Pool) (e : Entry) (x : Run) (map after : List ℕ) → run f (run_of e) ≡ given x → leb (x.start + x.count) c.count ≡ true
    → all_unused c p map x.count x.start ≡ true → after ≡ used_from x.count x.start map → Unlogged f c.count true map after (λ s. audit_queued c p s e)
unfolding audit_queued
entry_made f c p e x map after q t h used =
    rw used (was_made (λ figures. then_given f _ _ x q ∙ need_true f _ _ _ t ∙ all_unlogged c p f x.count x.start map figures h) (kept_run c.count x.count x.start map (leb-true _ _ t)))

-- the blocks of a run from a on, before its end
module _ (end a : ℕ) where
  pub use_done : (map : List ℕ) → end ≤ a → used_from (end - a) a map ≡ map
  unfolding used_from
  use_done map h = rw (none_left end a h) refl

  pub use_more : (map : List ℕ) → a < end → used_from (end - a) a map ≡ used_from (end - (a + 1)) (a + 1) (update used a map)
  unfolding used_from
  use_more map h = rw (one_less end a h) refl

  module _ (c : Container) (p : Pool) (map : List ℕ) where
    pub unused_done : end ≤ a → all_unused c p map (end - a) a ≡ true
    unfolding all_unused
    unused_done h = rw (none_left end a h) refl

    module _ (h : a < end) where
      pub unused_used : used_at c map a ≡ true → all_unused c p map (end - a) a ≡ false
      unfolding all_unused
      unused_used k = rw (one_less end a h, k) refl

      module _ (k : used_at c map a ≡ false) where
        pub unused_unmarked : pool_marked p a ≡ false → all_unused c p map (end - a) a ≡ false
        unfolding all_unused
        unused_unmarked m = rw (one_less end a h, k, m) refl

        pub unused_more : pool_marked p a ≡ true → all_unused c p map (end - a) a ≡ all_unused c p map (end - (a + 1)) (a + 1)
        unfolding all_unused
        unused_more m = rw (one_less end a h, k, m) refl
