-- Laws of refusals 1 to 8, and what they leave.
use mathlib.Core.Path.{◌≡◌, refl, sym, ap, subst, ◌∙◌}
use mathlib.Core.Bool.{Bool, true, false, ◌||◌, true≢false}
use mathlib.Core.List.{List}
use Prim.Native.Nat.{ℕ, zero, suc, ◌+◌, ◌*◌, ◌-◌, ◌%◌, ◌^◌, ◌≤◌, ◌<◌}
use native.Mathlib.Omega.{arith}
use lib.Pow.{pow-add, pow_mono}
use lib.Dec.{leb, ltb, eqb}
use borrow.Author.Tests.{le-leb, lt-leb, lt-ltb, leb-true, ltb-true, eqb-true}
use Rattle.blocks.specs.Reads.{given, refused, run, no_blocks, need, ◌>>=◌}
use Rattle.blocks.proofs.Laws.{and_left, and_right, need_held}
use Rattle.blocks.specs.declared.Refusal.TheVariants.{ShortMap}
use Rattle.checkpoint.specs.Superblock.{block_count}
use Rattle.checkpoint.specs.Geometry.{least_size, power_from, size_allowed, allowed, geometry}
use Rattle.checkpoint.specs.declared.Geometry.{Geometry}

-- sizes that refusal 3 lets pass are whole pages of 4,096 bytes, at most sixteen
pub record Allowed (n : ℕ) : Type 0 where
  pub least : least_size ≤ n
  pub most : n ≤ 65536
  pub pages : n % 4096 ≡ 0

power_pages : (n k : ℕ) → 12 ≤ k → k ≤ 16 → n ≡ 2 ^ k → Allowed n
power_pages n k low high e =
    let p : 2 ^ k ≡ 4096 * 2 ^ (k - 12) = ap (2 ^◌) (omega arith) ∙ pow-add 2 12 (k - 12) in
    record { least = omega (arith, e, pow_mono low); most = omega (arith, e, pow_mono high); pages = omega (arith, e, p) }

module _ (n : ℕ) where
  from_allowed : (more k : ℕ) → 12 ≤ k → k + more ≤ 17 → power_from more k n ≡ true → Allowed n
  unfolding power_from
  from_allowed zero k low high e = absurd (true≢false (sym e))
  from_allowed (suc more) k low high e = go (eqb n (2 ^ k)) refl (from_allowed more (k + 1) (omega arith) (omega arith)) e
    where
      go : (t : Bool) → eqb n (2 ^ k) ≡ t → (power_from more (k + 1) n ≡ true → Allowed n) → (t || power_from more (k + 1) n) ≡ true → Allowed n
      go true p later q = power_pages n k low (omega arith) (eqb-true _ _ p)
      go false p later q = later q

pub allowed_size : (n : ℕ) → size_allowed n ≡ true → Allowed n
unfolding size_allowed
allowed_size n e = from_allowed n 5 12 (omega arith) (omega arith) e

-- where refusal 6 is given, after 3 to 5
pub open_room : (len room : ℕ) (g : Geometry) → size_allowed g.size ≡ true → 0 < g.count → g.count ≤ 2 ^ 32 - 1 → g.count * g.size ≤ len → room < g.count
    → run no_blocks (allowed len room g) ≡ refused ShortMap
unfolding run allowed need ◌>>=◌
open_room len room g s some few whole h = simp (s, lt-ltb _ _ some, le-leb _ _ few, le-leb _ _ whole, lt-leb _ _ h)

-- what refusals 1 to 8 leave
pub record Opens (len room : ℕ) (g : Geometry) : Type 0 where
  pub size : Allowed g.size
  pub some : 0 < g.count
  pub few : g.count ≤ 2 ^ 32 - 1
  pub whole : g.count * g.size ≤ len
  pub wide : g.count ≤ room
  pub area : g.base + g.ring ≤ g.count

pub geometry_given : (len room : ℕ) (b : List ℕ) (g : Geometry) → run no_blocks (geometry len b room) ≡ given g → Opens len room g
unfolding geometry allowed run
geometry_given len room b g e =
    let p₂ = need_held no_blocks _ _ _ g (need_held no_blocks _ _ _ g e).1 in
    let p₃ = need_held no_blocks _ _ _ g p₂.1 in
    let p₄ = need_held no_blocks _ _ _ g p₃.1 in
    let p₅ = need_held no_blocks _ _ _ g p₄.1 in
    let p₆ = need_held no_blocks _ _ _ g p₅.1 in
    let p₇ = need_held no_blocks _ _ _ g p₆.1 in
    let p₈ = need_held no_blocks _ _ _ g p₇.1 in
    subst (λ (h : Geometry). Opens len room h) (same _ g p₈.1) (record {
      size = allowed_size _ p₃.0;
      some = ltb-true _ _ (and_left (ltb 0 (block_count b)) (leb (block_count b) (2 ^ 32 - 1)) p₄.0);
      few = leb-true _ _ (and_right (ltb 0 (block_count b)) (leb (block_count b) (2 ^ 32 - 1)) p₄.0);
      whole = leb-true _ _ p₅.0;
      wide = leb-true _ _ p₆.0;
      area = leb-true _ _ p₈.0;
    })
  where
    same : (a b : Geometry) → given a ≡ given b → a ≡ b
    same a b e = cc
