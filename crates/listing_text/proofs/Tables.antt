-- A table of texts in one list of bytes, a newline behind each: its rows are the texts.
use Rattle.std.proofs.Common.{◌≡◌, ℕ, zero, suc, ◌+◌, Bool, true, false, T, eqb, List, [], ◌∷◌, ◌++◌, length, get_or, sym, refl, ap, ◌∙◌, add-one, take_at}
use Rattle.fields.specs.Choice.{pick}
use Rattle.listing_text.specs.Lines.{kind_names, kind_name, problem_formats, problem_format}
use Rattle.listing_text.specs.clauses.Tables.{newline, past_row, rows_from, row_length, row_of}

-- no byte is left to pass
no_rows : (k : ℕ) → rows_from k [] ≡ []
unfolding rows_from past_row
no_rows zero = refl
no_rows (suc k) = no_rows k

-- the table of some texts, none of which has a newline in it
abbrev pub table : List (List ℕ) → List ℕ
table [] = []
table (t ∷ ts) = t ++ (newline ∷ table ts)

abbrev plain : List ℕ → Bool
plain [] = true
plain (c ∷ cs) = pick (eqb c newline) false (plain cs)

-- a test of every text
abbrev pub all : (List ℕ → Bool) → List (List ℕ) → Bool
all test [] = true
all test (t ∷ ts) = pick (test t) (all test ts) false

both : (a b : Bool) → T (pick a b false) → T a × T b
both true b h = (tt, h)
both false b h = absurd h

plain_cons : (a b : Bool) → T (pick a false b) → (a ≡ false) × T b
plain_cons true b h = absurd h
plain_cons false b h = (refl, h)

first_past : (t rest : List ℕ) → T (plain t) → past_row (t ++ (newline ∷ rest)) ≡ rest
unfolding past_row
first_past [] rest h = refl
first_past (c ∷ cs) rest h =
    let p : (eqb c newline ≡ false) × T (plain cs) = plain_cons (eqb c newline) (plain cs) h in
    rw p.0 (first_past cs rest p.1)

first_length : (t rest : List ℕ) → T (plain t) → row_length (t ++ (newline ∷ rest)) ≡ length t
unfolding row_length
first_length [] rest h = refl
first_length (c ∷ cs) rest h =
    let p : (eqb c newline ≡ false) × T (plain cs) = plain_cons (eqb c newline) (plain cs) h in
    rw p.0 (ap (λ (n : ℕ). n + 1) (first_length cs rest p.1) ∙ add-one _)

pub row_is : (texts : List (List ℕ)) → T (all plain texts) → (k : ℕ) → row_of k (table texts) ≡ get_or texts k []
unfolding row_of rows_from row_length
row_is [] h k = rw (no_rows k) refl
row_is (t ∷ ts) h zero = take_at t (newline ∷ table ts) _ (sym (first_length t (table ts) (both (plain t) (all plain ts) h).0))
row_is (t ∷ ts) h (suc k) =
    let p : T (plain t) × T (all plain ts) = both (plain t) (all plain ts) h in
    rw (first_past t (table ts) p.0) (row_is ts p.1 k)

-- so it is with both tables of the listing: no text of theirs has a newline in it
pub kind_row : (kind : ℕ) → row_of kind (table kind_names) ≡ kind_name kind
unfolding kind_names kind_name
kind_row kind = row_is kind_names tt kind

pub problem_row : (kind : ℕ) → row_of kind (table problem_formats) ≡ problem_format kind
unfolding problem_formats problem_format
problem_row kind = row_is problem_formats tt kind
