-- The totals of overlaps and of lost blocks that are printed are the sums of the counts printed below them. In the report of a pass
-- either is below 2^64: overlaps, since 21 guards their sum; lost blocks, since a block has one owner, and so is lost once at most.
use Rattle.std.specs.Prelude.{Option}
use Rattle.checkpoint.specs.declared.Mapping.{Mapping}
use mathlib.Core.Path.{◌≡◌, refl, sym, ap, ◌∙◌}
use mathlib.Core.Bool.{Bool, true, false, not, ◌&&◌}
use mathlib.Core.List.{List, [], ◌∷◌, ◌++◌, map}
use Prim.Native.Nat.{ℕ, zero, suc, zero-le, ◌+◌, ◌-◌, ◌^◌, ◌≤◌, ◌<◌}
use native.Mathlib.Omega.{arith}
use lib.Dec.{eqb}
use lib.ListN.{length, take, length-take}
use lib.Seq.{take_all}
use borrow.Author.Tests.{ne_eqb, eqb-true}
use Rattle.fields.specs.Choice.{pick}
use Rattle.blocks.specs.declared.Container.{Container}
use Rattle.blocks.specs.declared.ObjectId.{ObjectId}
use Rattle.block_map.specs.BlockMap.{owner_of, is_marked, count_in}
use Rattle.report.specs.Report.{kinds, sum_of, overlap_figure, zero_report}
use Rattle.report.specs.declared.Answer.{Answer}
use Rattle.report.specs.declared.Lost.{Lost}
use Rattle.totals.proofs.Laws.{count_from}
use Rattle.totals.specs.Totals.{is_lost, lost_of, lost_from, lost_in}
use Rattle.claims.specs.Claims.{container_superblock}
use Rattle.space_check.specs.Check.{check, body, audit_and_claim, claim_and_report, report_of}
use Rattle.space_check.proofs.Ends.{Ends, ends_done, ends_after, ends_check}
use Rattle.space_check.proofs.Overlaps.{overlaps_summed, overlaps_exact}
use Rattle.listing_text.specs.Listing.{Claimant, claimant_if, claimants_from, claimants_of, lost_at, lost_total, places_by_name}

-- lost blocks after others
lost_after : (ls : List Lost) (n : ℕ) → lost_in ls n ≡ n + lost_in ls 0
unfolding lost_in
lost_after [] n = omega arith
lost_after (l ∷ ls) n = omega (arith, lost_after ls (n + l.count), lost_after ls (0 + l.count))

-- a block is lost by one kind at most: those that lose the block of a byte, of so many from one on
hits : ℕ → ℕ → ℕ → ℕ
hits x zero kind = 0
hits x (suc left) kind = pick (is_lost kind x) 1 0 + hits x left (kind + 1)

lost_owner : (kind x : ℕ) → is_lost kind x ≡ true → owner_of x ≡ kind
unfolding is_lost
lost_owner kind x h = eqb-true (owner_of x) kind (left_true (eqb (owner_of x) kind) (not (is_marked x)) h)
  where
    left_true : (a b : Bool) → a && b ≡ true → a ≡ true
    left_true true b h = refl
    left_true false b h = h

not_lost : (kind x : ℕ) → owner_of x < kind → is_lost kind x ≡ false
unfolding is_lost
not_lost kind x h =
    let other : owner_of x ≡ kind → ⊥ = λ e. omega arith in
    rw (ne_eqb (owner_of x) kind other) refl

no_hits : (x left kind : ℕ) → owner_of x < kind → hits x left kind ≡ 0
unfolding hits
no_hits x zero kind h = refl
no_hits x (suc left) kind h = rw (not_lost kind x h, no_hits x left (kind + 1) (omega arith)) refl

one_hit : (x left kind : ℕ) → hits x left kind ≤ 1
unfolding hits
one_hit x zero kind = zero-le
one_hit x (suc left) kind = go (is_lost kind x) refl (one_hit x left (kind + 1))
  where
    go : (t : Bool) → is_lost kind x ≡ t → hits x left (kind + 1) ≤ 1 → pick t 1 0 + hits x left (kind + 1) ≤ 1
    go true e h =
        let owner : owner_of x ≡ kind = lost_owner kind x e in
        omega (arith, no_hits x left (kind + 1) (omega arith))
    go false e h = omega arith

-- so the lost blocks of all kinds are at most as many as the bytes
sums : List ℕ → ℕ → ℕ → ℕ
sums cells left kind = lost_in (lost_from cells left kind) 0

no_sums : (left kind : ℕ) → sums [] left kind ≡ 0
unfolding sums lost_from lost_of lost_in count_in
no_sums zero kind = refl
no_sums (suc left) kind = no_sums left (kind + 1)

more_sums : (cells : List ℕ) (left kind : ℕ) → sums cells (suc left) kind ≡ count_in (is_lost kind) cells 0 + sums cells left (kind + 1)
unfolding sums lost_from lost_of lost_in
more_sums cells left kind = omega (arith, lost_after (lost_from cells left (kind + 1)) (0 + count_in (is_lost kind) cells 0))

count_cons : (test : ℕ → Bool) (x : ℕ) (xs : List ℕ) → count_in test (x ∷ xs) 0 ≡ pick (test x) 1 0 + count_in test xs 0
unfolding count_in
count_cons test x xs = count_from test xs (pick (test x) 1 0)

sums_cons : (x : ℕ) (xs : List ℕ) (left kind : ℕ) → sums (x ∷ xs) left kind ≡ hits x left kind + sums xs left kind
unfolding hits sums lost_in lost_from
sums_cons x xs zero kind = refl
sums_cons x xs (suc left) kind =
    omega (
      arith,
      more_sums (x ∷ xs) left kind,
      more_sums xs left kind,
      count_cons (is_lost kind) x xs,
      sums_cons x xs left (kind + 1),
    )

sums_most : (cells : List ℕ) (left kind : ℕ) → sums cells left kind ≤ length cells
sums_most [] left kind = rw (no_sums left kind) zero-le
sums_most (x ∷ xs) left kind = omega (arith, sums_cons x xs left kind, one_hit x left kind, sums_most xs left kind)

-- the counts of the kinds at some places, summed
unfoldable pub counts_of : List Lost → List ℕ → ℕ
counts_of lost [] = 0
counts_of lost (place ∷ places) = (lost_at lost place).count + counts_of lost places

-- by name or by number, all are summed
in_order : (cells : List ℕ) → counts_of (lost_from cells kinds container_superblock) places_by_name ≡ sums cells kinds container_superblock
unfolding counts_of places_by_name sums lost_from lost_of lost_in
in_order cells = omega arith

-- in a report of a container of few blocks
record Few (lost : List Lost) : Type 0 where
  most : lost_in lost 0 ≤ 2 ^ 32 - 1
  summed : counts_of lost places_by_name ≡ lost_in lost 0

no_lost : Few zero_report.lost
unfolding zero_report lost_in counts_of places_by_name
no_lost = record { most = zero-le; summed = refl }

few_lost : (c : Container) (sb : List ℕ) (mapped : ObjectId → Option Mapping) (map : List ℕ) → c.count ≤ 2 ^ 32 - 1 → Ends (λ s. Few s.figures.lost) (body c sb mapped map)
unfolding body audit_and_claim claim_and_report report_of sums
few_lost c sb mapped map few =
    ends_after _ _ _ (λ x.
    ends_after _ _ _ (λ a.
    ends_after _ _ _ (λ o.
    ends_done _ _ (record {
      most = omega (arith, sums_most (take c.count o.map) kinds container_superblock, length-take c.count o.map);
      summed = in_order (take c.count o.map);
    }))))

-- the total printed is the sum of the counts printed; a kind without a line has a count of 0
abbrev pub LostExact : Answer → Type 0
LostExact a = lost_total a.report.lost ≡ counts_of a.report.lost places_by_name

pub lost_total_exact : (image map : List ℕ) → LostExact (check image map).answer
lost_total_exact image map = let h = ends_check (λ r. Few r.lost) no_lost few_lost image map in omega (arith, h.most, h.summed)

-- the counts printed of kinds that came second
abbrev pub counts_printed : List Claimant → List ℕ
counts_printed = map (λ c. c.count)

printed_then : (xs ys : List Claimant) → sum_of (counts_printed (xs ++ ys)) ≡ sum_of (counts_printed xs) + sum_of (counts_printed ys)
unfolding sum_of
printed_then [] ys = omega arith
printed_then (x ∷ xs) ys = omega (arith, printed_then xs ys)

printed_one : (kind n : ℕ) → sum_of (counts_printed (claimant_if kind n)) ≡ n
unfolding claimant_if sum_of
printed_one kind n = go (eqb n 0) refl
  where
    this : Claimant
    this = record { kind = kind; count = n }

    go : (t : Bool) → eqb n 0 ≡ t → sum_of (counts_printed (pick t [] (this ∷ []))) ≡ n
    go true e = sym (eqb-true n 0 e)
    go false e = omega arith

printed_all : (kind : ℕ) (ns : List ℕ) → sum_of (counts_printed (claimants_from kind ns)) ≡ sum_of ns
unfolding claimants_from sum_of
printed_all kind [] = refl
printed_all kind (n ∷ ns) = omega (arith, printed_then (claimant_if kind n) (claimants_from (kind + 1) ns), printed_one kind n, printed_all (kind + 1) ns)

-- document 02: "the printed total equals the sum of those lines"
abbrev pub OverlapsExact : Answer → Type 0
OverlapsExact a = overlap_figure a.report.overlaps ≡ sum_of (counts_printed (claimants_of a.report.overlaps))

pub overlaps_total_exact : (image map : List ℕ) → OverlapsExact (check image map).answer
overlaps_total_exact image map =
    let claimants = (check image map).answer.report.overlaps.claimants in
    let all : length claimants ≤ kinds = omega (arith, (overlaps_summed image map).each) in
    overlaps_exact image map ∙ ap sum_of (sym (take_all kinds claimants all)) ∙ sym (printed_all 1 (take kinds claimants))
