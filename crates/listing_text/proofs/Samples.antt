-- Listings, computed: one with lines of every sort, and refusals (document 01's sample: listing/proofs/Sample.antt). The kinds' order
-- is that of their names.
use Rattle.std.proofs.Common.{◌≡◌, ℕ, zero, suc, ◌+◌, ◌-◌, ◌*◌, ◌^◌, Bool, true, false, ◌&&◌, eqb, ltb, List, [], ◌∷◌, ◌++◌, map, replicate, refl}
use mathlib.Core.List.{flat_map, flatten}
use Rattle.fields.specs.Choice.{pick}
use Rattle.blocks.specs.declared.Refusal.TheVariants.{ShortImage, RingIndex}
use Rattle.report.specs.Report.{no_problems, no_overlaps, sum_of, kinds, zero_report, refusal, reported}
use Rattle.report.specs.declared.Answer.{Answer}
use Rattle.report.specs.declared.Lost.{Lost}
use Rattle.report.specs.declared.Overlap.{Overlap}
use Rattle.report.specs.declared.Report.{Report}
use Rattle.totals.specs.Totals.{inconsistent, lost_in}
use Rattle.totals.specs.clauses.Counting.{no_lost}
use Rattle.listing_text.specs.Text.{ascii, digits, places_from, places, numeral, decimal, hex}
use Rattle.listing_text.specs.Lines.{kind_names, kind_name, piece, taken, filled_from, problem_formats, problem_format, problem_line}
use Rattle.listing_text.specs.Listing.{claimant_if, claimants_from, claimant_line_of, places_by_name, lost_kind_line_of, report_lines, answer_lines, listing_of}

unfoldable pub computed : Answer → List ℕ
unfolding no_problems no_overlaps sum_of zero_report refusal reported lost_in digits places_from places numeral kind_names kind_name piece taken filled_from problem_formats problem_format flat_map flatten claimant_if claimants_from places_by_name lost_kind_line_of report_lines answer_lines listing_of
computed a = listing_of a

-- the report of a damaged container, with the original's lines but for the size for people, with document 02's lines by claimant, and
-- with document 01's last: a problem, overlaps, a lost block
overlap : ℕ → ℕ → ℕ → Overlap
overlap block owner claimant = record { block = block; owner = owner; claimant = claimant }

unfoldable damaged : Report
unfolding overlap
damaged =
    record {
      xid = 324;
      pool_used = 3;
      pool_unused = 0;
      free_ring = 0;
      problems = record { total = 1; first = record { kind = 4; block = 4 } ∷ replicate 9 (record { kind = 0; block = 0 }) };
      free = 3;
      wrong_chunks = 1;
      device_free = 2;
      overlaps =
          record {
            claimants = 0 ∷ 1 ∷ 0 ∷ 0 ∷ 2 ∷ 1 ∷ 1 ∷ 1 ∷ 0 ∷ 0 ∷ 0 ∷ [];
            first =
                overlap 0 1 2 ∷ overlap 14 3 5 ∷ overlap 15 3 5 ∷ overlap 13 5 6 ∷ overlap 12 5 7 ∷ overlap 9 5 8 ∷ replicate 4 (overlap 0 0 0);
          };
      lost = replicate 4 no_lost ++ (record { count = 1; first = 8 } ∷ replicate 6 no_lost);
      leaked = 0;
      verdict = inconsistent;
    }

every_line : listing_of (reported damaged)
    ≡ ascii "space check  stdin  xid 324\n"
    ++ ascii "internal pool  3 blocks in use, 0 marked but unused, 1 problems\n"
    ++ ascii "  queued internal-pool block 0x4 is already free\n"
    ++ ascii "bitmaps    3 blocks free; chunks with a wrong free count: 1; device free count 2 (DOES NOT MATCH)\n"
    ++ ascii "overlaps   6 blocks claimed by two different things\n"
    ++ ascii "  checkpoint descriptor area: 1\n"
    ++ ascii "  internal-pool bitmap ring: 2\n"
    ++ ascii "  object map: 1\n"
    ++ ascii "  object map node: 1\n"
    ++ ascii "  volume superblock: 1\n"
    ++ ascii "  block 0x0: container superblock and checkpoint descriptor area\n"
    ++ ascii "  block 0xe: checkpoint data area and internal-pool bitmap ring\n"
    ++ ascii "  block 0xf: checkpoint data area and internal-pool bitmap ring\n"
    ++ ascii "  block 0xd: internal-pool bitmap ring and object map\n"
    ++ ascii "  block 0xc: internal-pool bitmap ring and object map node\n"
    ++ ascii "  block 0x9: internal-pool bitmap ring and volume superblock\n"
    ++ ascii "in use but marked free: 1 blocks\n"
    ++ ascii "  internal-pool bitmap ring: 1 (first at 0x8)\n"
    ++ ascii "allocated but unused (leaked): 0 blocks\n"
    ++ ascii "result     inconsistent\n"
unfolding computed damaged
every_line = refl

-- every kind with lost blocks, as many as its number says
lost_for : ℕ → ℕ → List Lost
lost_for zero kind = []
lost_for (suc left) kind = record { count = kind; first = 16 * kind } ∷ lost_for left (kind + 1)

lost_lines : flatten (flat_map (lost_kind_line_of (lost_for kinds 1)) places_by_name)
    ≡ ascii "  checkpoint data area: 3 (first at 0x30)\n"
    ++ ascii "  checkpoint descriptor area: 2 (first at 0x20)\n"
    ++ ascii "  container superblock: 1 (first at 0x10)\n"
    ++ ascii "  extent-reference tree node: 10 (first at 0xa0)\n"
    ++ ascii "  free queue (pending release): 9 (first at 0x90)\n"
    ++ ascii "  internal pool: 4 (first at 0x40)\n"
    ++ ascii "  internal-pool bitmap ring: 5 (first at 0x50)\n"
    ++ ascii "  object map: 6 (first at 0x60)\n"
    ++ ascii "  object map node: 7 (first at 0x70)\n"
    ++ ascii "  snapshot tree node: 11 (first at 0xb0)\n"
    ++ ascii "  volume superblock: 8 (first at 0x80)\n"
unfolding computed lost_for
lost_lines = refl

-- every kind with overlaps, as many as its number says: by number, where lost lines are by name; and kinds without one have no line
claimant_lines : flatten (flat_map claimant_line_of (claimants_from 1 (1 ∷ 2 ∷ 3 ∷ 4 ∷ 5 ∷ 6 ∷ 7 ∷ 8 ∷ 9 ∷ 10 ∷ 11 ∷ [])))
    ≡ ascii "  container superblock: 1\n"
    ++ ascii "  checkpoint descriptor area: 2\n"
    ++ ascii "  checkpoint data area: 3\n"
    ++ ascii "  internal pool: 4\n"
    ++ ascii "  internal-pool bitmap ring: 5\n"
    ++ ascii "  object map: 6\n"
    ++ ascii "  object map node: 7\n"
    ++ ascii "  volume superblock: 8\n"
    ++ ascii "  free queue (pending release): 9\n"
    ++ ascii "  extent-reference tree node: 10\n"
    ++ ascii "  snapshot tree node: 11\n"
unfolding computed
claimant_lines = refl

some_claimants : flatten (flat_map claimant_line_of (claimants_from 1 (0 ∷ 0 ∷ 30 ∷ 0 ∷ 0 ∷ 0 ∷ 0 ∷ 0 ∷ 2 ∷ 5 ∷ 0 ∷ [])))
    ≡ ascii "  checkpoint data area: 30\n  free queue (pending release): 2\n  extent-reference tree node: 5\n"
unfolding computed
some_claimants = refl

-- the last of the Rust's problems, document 02's line for the first that it adds, and one for a kind that there may be later
problem_lines : flatten (problem_line 5 0x1f ++ problem_line 6 0x1f ++ problem_line 12 0)
    ≡ ascii "  internal-pool block 0x1f queued but still in use\n  problem 6 at 0x1f\n  problem 12 at 0x0\n"
unfolding computed
problem_lines = refl

-- "or only `refused N`"
first_refusal : listing_of (refusal ShortImage) ≡ ascii "refused 1\n"
unfolding computed
first_refusal = refl

last_refusal : listing_of (refusal RingIndex) ≡ ascii "refused 25\n"
unfolding computed
last_refusal = refl

-- numbers at both ends, on either side of a digit more, with zeros inside, and with one digit throughout; the text expected is
-- Python's, `str(n)` and `format(n, 'x')`
abbrev spaced : (ℕ → List ℕ) → List ℕ → List ℕ
spaced spell = flat_map (λ n. spell n ++ ascii " ")

decimals : spaced decimal (0 ∷ 9 ∷ 10 ∷ 11 ∷ 99 ∷ 100 ∷ 101 ∷ 1020304050607 ∷ 7777777 ∷ (10 ^ 19 - 1) ∷ (10 ^ 19) ∷ (10 ^ 19 + 1) ∷ (2 ^ 64 - 1) ∷ [])
    ≡ ascii "0 9 10 11 99 100 101 1020304050607 7777777 "
    ++ ascii "9999999999999999999 10000000000000000000 10000000000000000001 18446744073709551615 "
unfolding computed
decimals = refl

hexes : spaced hex (0 ∷ 9 ∷ 10 ∷ 15 ∷ 16 ∷ 17 ∷ 255 ∷ 256 ∷ 0x1020304050607 ∷ 0x7777777 ∷ (2 ^ 60 - 1) ∷ (2 ^ 60) ∷ (2 ^ 64 - 1) ∷ [])
    ≡ ascii "0 9 a f 10 11 ff 100 1020304050607 7777777 "
    ++ ascii "fffffffffffffff 1000000000000000 ffffffffffffffff "
unfolding computed
hexes = refl

-- lost lines by name: each place once, and the names rise
before : List ℕ → List ℕ → Bool
before xs [] = false
before [] (y ∷ ys) = true
before (x ∷ xs) (y ∷ ys) = pick (eqb x y) (before xs ys) (ltb x y)

rise : List (List ℕ) → Bool
rise [] = true
rise (x ∷ []) = true
rise (x ∷ y ∷ ys) = before x y && rise (y ∷ ys)

count : ℕ → List ℕ → ℕ
count n [] = 0
count n (x ∷ xs) = pick (eqb n x) 1 0 + count n xs

all_once : ℕ → List ℕ → Bool
all_once zero xs = true
all_once (suc n) xs = eqb (count n xs) 1 && all_once n xs

by_name : rise (map (λ place. kind_name (place + 1)) places_by_name) && all_once kinds places_by_name ≡ true
unfolding computed before rise count all_once
by_name = refl
