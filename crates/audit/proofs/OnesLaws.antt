-- Laws of how many bits of a byte are set: no more than there are, all of a byte of ones, and as the code adds them.
use Rattle.std.proofs.Common.{Bool, true, false, ◌≡◌, refl, ℕ, zero, suc, ◌+◌, ◌-◌, ◌/◌, ◌^◌, ◌≤◌, ◌<◌, arith, bit_and, eqb, eqb→eq}
use Rattle.fields.specs.Choice.{pick}
use Rattle.fields.specs.Fields.{bit}
use Rattle.fields.proofs.Tables.{at_below}
use Rattle.audit.specs.clauses.Bits.{ones_in}

one_few : (on : Bool) → pick on 1 0 ≤ 1
one_few true = omega arith
one_few false = omega arith

pub ones_few : (n b : ℕ) → ones_in n b ≤ n
unfolding ones_in
ones_few zero b = omega arith
ones_few (suc n) b = omega (arith, ones_few n b, one_few (bit n b))

pub ones_all : ones_in 8 255 ≡ 8
unfolding ones_in
ones_all = refl

-- the sums of neighbours: of two bits, of four, and of eight
abbrev pairs : ℕ → ℕ
pairs b = b - bit_and (b / 2) 85

abbrev fours : ℕ → ℕ
fours p = bit_and p 51 + bit_and (p / 4) 51

abbrev eight : ℕ → ℕ
eight f = bit_and (f + f / 16) 15

pub ones_added : (b : ℕ) → b < 2 ^ 8 → eight (fours (pairs b)) ≡ ones_in 8 b
unfolding ones_in
ones_added b h = eqb→eq _ _ (at_below (λ b. eqb (eight (fours (pairs b))) (ones_in 8 b)) (2 ^ 8) b tt h)
