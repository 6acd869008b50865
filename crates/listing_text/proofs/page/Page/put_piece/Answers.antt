use Rattle.std.proofs.Common.{◌≡◌, refl, ne_eqb, rules}
use Rattle.listing_text.specs.Lines.{decimal_sign, hex_sign, name_sign, piece, taken}
use Rattle.listing_text.proofs.Laws.{one_as}
use Rattle.listing_text.proofs.page.Page.put_piece.Goals as goal

pub returns-in-35 : goal.returns-in-35
unfolding piece taken
returns-in-35 c = record { piece = rw c.in-35.is c.put_numeral.ensures; taken = rw c.in-35.is refl }

pub returns-in-64 : goal.returns-in-64
unfolding piece taken
returns-in-64 c = record { piece = rw c.in-64.is c.put_numeral-in-64.ensures; taken = rw c.in-64.is refl }

pub returns-in-36 : goal.returns-in-36
unfolding piece taken
returns-in-36 c = record { piece = rw c.in-36.is (one_as c.put.ensures c.kind_name.ensures); taken = rw c.in-36.is refl }

pub returns-in_default : goal.returns-in_default
unfolding piece taken
returns-in_default c =
    let a : c.args.c ≡ decimal_sign → ⊥ = search rules in
    let b : c.args.c ≡ hex_sign → ⊥ = search rules in
    let d : c.args.c ≡ name_sign → ⊥ = search rules in
    record { piece = rw (ne_eqb _ _ a, ne_eqb _ _ b, ne_eqb _ _ d) c.put-in_default.ensures; taken = rw (ne_eqb _ _ a, ne_eqb _ _ b, ne_eqb _ _ d) refl }
