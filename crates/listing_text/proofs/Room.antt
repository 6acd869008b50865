-- Every listing has at most `most_bytes` bytes.
use Rattle.std.specs.Prelude.{Err, Ok, Result}
use Rattle.blocks.specs.declared.Refusal.{Refusal}
use Rattle.std.proofs.Common.{◌≡◌, ℕ, zero, suc, ◌+◌, ◌*◌, ◌≤◌, min, Bool, true, false, T, eqb, leb, List, [], ◌∷◌, ◌++◌, length, get_or, take, sym, zero-le, le_trans, le_refl, zero-add, arith, lit≤, length-append, length-take}
use mathlib.Core.List.{flat_map, flatten}
use Rattle.fields.specs.Choice.{pick}
use Rattle.blocks.specs.Refusals.{number_of}
use Rattle.report.specs.Report.{logged, kinds, overlap_figure}
use Rattle.report.specs.declared.Problem.{Problem}
use Rattle.report.specs.declared.Overlap.{Overlap}
use Rattle.report.specs.declared.OverlapLog.{OverlapLog}
use Rattle.report.specs.declared.Lost.{Lost}
use Rattle.report.specs.declared.Report.{Report}
use Rattle.report.specs.declared.Answer.{Answer}
use Rattle.totals.specs.Totals.{consistent}
use Rattle.listing_text.specs.Text.{most_digits, numeral}
use Rattle.listing_text.specs.Lines.{decimal_sign, hex_sign, name_sign, kind_names, kind_name, piece, taken, filled_from, problem_formats, problem_format, last_format, title_line, pool_line, bitmaps_line, overlaps_line, lost_line, leaked_line, result_line, refused_line}
use Rattle.listing_text.specs.Listing.{named, problem_line_of, Claimant, claimant_if, claimants_from, claimants_of, claimant_line_of, overlap_line_of, places_by_name, lost_at, lost_kind_line_of, lost_total, report_lines, answer_lines, listing_of}
use Rattle.listing_text.proofs.Digits.{numeral_length, places_most}

-- a test of every text
abbrev all : (List ℕ → Bool) → List (List ℕ) → Bool
all test [] = true
all test (t ∷ ts) = pick (test t) (all test ts) false

both : (a b : Bool) → T (pick a b false) → T a × T b
both true b h = (tt, h)
both false b h = absurd h

at_each : (test : List ℕ → Bool) (texts : List (List ℕ)) (k : ℕ) → T (test []) → T (all test texts) → T (test (get_or texts k []))
at_each test [] k none h = none
at_each test (t ∷ ts) zero none h = (both (test t) (all test ts) h).0
at_each test (t ∷ ts) (suc k) none h = at_each test ts k none (both (test t) (all test ts) h).1

-- the most bytes of a piece: a number's, a name's, or one
numeral_most : (base n : ℕ) → length (numeral base n) ≤ most_digits
numeral_most base n = omega (arith, numeral_length base n, places_most base n)

-- the longest name of a kind
abbrev name_bytes : ℕ
name_bytes = 28

kind_length : (kind : ℕ) → length (kind_name kind) ≤ name_bytes
unfolding kind_name kind_names
kind_length kind = lit≤ (at_each (λ t. leb (length t) name_bytes) kind_names kind tt tt)

most_of : ℕ → ℕ
most_of c = pick (eqb c decimal_sign) most_digits (pick (eqb c hex_sign) most_digits (pick (eqb c name_sign) name_bytes 1))

pick_most : (t : Bool) (a b : List ℕ) (m n : ℕ) → length a ≤ m → length b ≤ n → length (pick t a b) ≤ pick t m n
pick_most true a b m n h k = h
pick_most false a b m n h k = k

piece_most : (c n : ℕ) → length (piece c n) ≤ most_of c
unfolding piece most_of
piece_most c n =
    pick_most (eqb c decimal_sign) _ _ _ _ (numeral_most _ n)
    (pick_most (eqb c hex_sign) _ _ _ _ (numeral_most _ n) (pick_most (eqb c name_sign) _ _ _ _ (kind_length n) (le_refl 1)))

-- the most bytes of a format's line
format_bytes : List ℕ → ℕ
format_bytes [] = 0
format_bytes (c ∷ cs) = most_of c + format_bytes cs

filled_most : (format figures : List ℕ) (next : ℕ) → length (flatten (filled_from format figures next)) ≤ format_bytes format
unfolding filled_from format_bytes flatten
filled_most [] figures next = zero-le
filled_most (c ∷ cs) figures next =
    simp length-append (omega (arith, piece_most c (get_or figures next 0), filled_most cs figures (next + taken c)))

flatten_length : (ts us : List (List ℕ)) → length (flatten (ts ++ us)) ≡ length (flatten ts) + length (flatten us)
unfolding flatten
flatten_length [] us = sym (zero-add _)
flatten_length (t ∷ ts) us = simp length-append (omega (arith, flatten_length ts us))

-- no line has more bytes; and as many lines as there can be, seven of which always stand there
abbrev pub line_bytes : ℕ
line_bytes = 160

abbrev pub most_lines : ℕ
most_lines = 7 + kinds + logged + logged + kinds

abbrev pub most_bytes : ℕ
most_bytes = most_lines * line_bytes

-- so many lines have room for these pieces
record Fits (n : ℕ) (ts : List (List ℕ)) : Type 0 where
  most : length (flatten ts) ≤ n * line_bytes

◌then◌ : {m n : ℕ} {ts us : List (List ℕ)} → Fits m ts → Fits n us → Fits (m + n) (ts ++ us)
◌then◌ {ts = ts} {us = us} h k = record { most = omega (arith, flatten_length ts us, h.most, k.most) }

infixl 5 ◌then◌
by_format : (format figures : List ℕ) → format_bytes format ≤ line_bytes → Fits 1 (filled_from format figures 0)
by_format format figures h = record { most = omega (arith, filled_most format figures 0) }

-- a format's line that ends otherwise
format_and : (format figures : List ℕ) (end : List (List ℕ)) (n : ℕ) → length (flatten end) ≤ n → format_bytes format + n ≤ line_bytes
    → Fits 1 (filled_from format figures 0 ++ end)
format_and format figures end n h k = record { most = omega (arith, flatten_length (filled_from format figures 0) end, filled_most format figures 0) }

each_lines : {A : Type 0} (f : A → List (List ℕ)) → ((x : A) → Fits 1 (f x)) → (xs : List A) → Fits (length xs) (flat_map f xs)
unfolding flat_map flatten
each_lines f one [] = record { most = zero-le }
each_lines f one (x ∷ xs) = record { most = omega (arith, flatten_length (f x) (flat_map f xs), (one x).most, (each_lines f one xs).most) }

named_lines : {A : Type 0} (f : A → List (List ℕ)) → ((x : A) → Fits 1 (f x)) → (total : ℕ) (first : List A) → Fits logged (flat_map f (named total first))
named_lines f one total first = record { most = omega (arith, (each_lines f one (named total first)).most, length-take (min total logged) first) }

text_and : (text : List ℕ) (end : List (List ℕ)) (n : ℕ) → length (flatten end) ≤ n → length text + n ≤ line_bytes → Fits 1 (text ∷ end)
unfolding flatten
text_and text end n h k = record { most = simp length-append (omega arith) }

-- one text or another, after a piece of a line
one_of : (t : Bool) (a b : List ℕ) (most : ℕ) → length a ≤ most → length b ≤ most → length (flatten (pick t a b ∷ [])) ≤ most
unfolding flatten
one_of true a b most h k = simp length-append (omega arith)
one_of false a b most h k = simp length-append (omega arith)

title_fits : (xid : ℕ) → Fits 1 (title_line xid)
unfolding format_bytes most_of
title_fits xid = by_format _ _ (lit≤ tt)

pool_fits : (used unused problems : ℕ) → Fits 1 (pool_line used unused problems)
unfolding format_bytes most_of
pool_fits used unused problems = by_format _ _ (lit≤ tt)

overlaps_fit : (total : ℕ) → Fits 1 (overlaps_line total)
unfolding format_bytes most_of
overlaps_fit total = by_format _ _ (lit≤ tt)

lost_fits : (total : ℕ) → Fits 1 (lost_line total)
unfolding format_bytes most_of
lost_fits total = by_format _ _ (lit≤ tt)

leaked_fits : (total : ℕ) → Fits 1 (leaked_line total)
unfolding format_bytes most_of
leaked_fits total = by_format _ _ (lit≤ tt)

refused_fits : (number : ℕ) → Fits 1 (refused_line number)
unfolding format_bytes most_of
refused_fits number = by_format _ _ (lit≤ tt)

-- one line or another
either : (t : Bool) {ts us : List (List ℕ)} → Fits 1 ts → Fits 1 us → Fits 1 (pick t ts us)
either true h k = h
either false h k = k

problem_line : (p : Problem) → Fits 1 (problem_line_of p)
unfolding problem_format problem_formats format_bytes most_of flatten
problem_line p =
    either (leb p.kind last_format)
    (format_and (problem_format p.kind) _ _ 1 (lit≤ tt) (lit≤ (at_each (λ format. leb (format_bytes format + 1) line_bytes) problem_formats p.kind tt tt)))
    (by_format _ _ (lit≤ tt))

overlap_line : (o : Overlap) → Fits 1 (overlap_line_of o)
unfolding format_bytes most_of
overlap_line o = by_format _ _ (lit≤ tt)

-- one line for a kind at most
claimant_line : (c : Claimant) → Fits 1 (claimant_line_of c)
unfolding format_bytes most_of
claimant_line c = by_format _ _ (lit≤ tt)

claimants_most : (kind : ℕ) (ns : List ℕ) → length (claimants_from kind ns) ≤ length ns
unfolding claimants_from claimant_if
claimants_most kind [] = zero-le
claimants_most kind (n ∷ ns) = simp length-append (omega (arith, one (eqb n 0), claimants_most (kind + 1) ns))
  where
    this : Claimant
    this = record { kind = kind; count = n }

    one : (t : Bool) → length (pick t [] (this ∷ [])) ≤ 1
    one true = zero-le
    one false = le_refl 1

claimant_lines : (l : OverlapLog) → Fits kinds (flat_map claimant_line_of (claimants_of l))
claimant_lines l =
    record {
      most = omega (arith, (each_lines claimant_line_of claimant_line (claimants_of l)).most, claimants_most 1 (take kinds l.claimants), length-take kinds l.claimants);
    }

bitmaps_fit : (free wrong device : ℕ) → Fits 1 (bitmaps_line free wrong device)
unfolding format_bytes most_of
bitmaps_fit free wrong device = format_and _ _ _ 17 (one_of (eqb free device) _ _ 17 (lit≤ tt) (lit≤ tt)) (lit≤ tt)

lost_kind : (lost : List Lost) (place : ℕ) → Fits 1 (lost_kind_line_of lost place)
unfolding lost_kind_line_of format_bytes most_of flatten
lost_kind lost place = either (eqb (lost_at lost place).count 0) (record { most = zero-le }) (by_format _ _ (lit≤ tt))

result_fits : (verdict : ℕ) → Fits 1 (result_line verdict)
result_fits verdict = text_and _ _ 68 (one_of (eqb verdict consistent) _ _ 68 (lit≤ tt) (lit≤ tt)) (lit≤ tt)

report_fits : (r : Report) → Fits most_lines (report_lines r)
unfolding report_lines places_by_name
report_fits r =
    title_fits r.xid
    then pool_fits r.pool_used r.pool_unused r.problems.total
    then named_lines problem_line_of problem_line r.problems.total r.problems.first
    then bitmaps_fit r.free r.wrong_chunks r.device_free
    then overlaps_fit (overlap_figure r.overlaps)
    then claimant_lines r.overlaps
    then named_lines overlap_line_of overlap_line (overlap_figure r.overlaps) r.overlaps.first
    then lost_fits (lost_total r.lost)
    then each_lines (lost_kind_line_of r.lost) (lost_kind r.lost) places_by_name
    then leaked_fits r.leaked
    then result_fits r.verdict

answer_fits : (e : Result (Unit {0}) Refusal) (r : Report) → Fits most_lines (answer_lines e r)
unfolding answer_lines
answer_fits (Ok tt) r = report_fits r
answer_fits (Err f) r = record { most = le_trans (refused_fits (number_of f)).most (lit≤ tt) }

pub listing_fits : (a : Answer) → length (listing_of a) ≤ most_bytes
unfolding listing_of
listing_fits a = (answer_fits a.ending a.report).most
