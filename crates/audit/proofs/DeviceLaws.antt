-- Laws of lists of addresses: their blocks one at a time, an address block's list, and what the main device lists.
use Rattle.std.proofs.Common.{Bool, true, false, List, ◌≡◌, refl, sym, ℕ, ◌+◌, ◌-◌, ◌*◌, ◌≤◌, ◌<◌, arith, Result, add-zero}
use Rattle.fields.specs.Fields.{num}
use Rattle.blocks.specs.Reads.{Reads, Outcome, done, given, run, ◌>>=◌}
use Rattle.blocks.specs.declared.Address.{Address}
use Rattle.blocks.specs.declared.Container.{Container}
use Rattle.blocks.specs.declared.Refusal.{Refusal}
use Rattle.manager.specs.Manager.{list_from, listed, addresses_of}
use Rattle.manager.specs.clauses.Lists.{values, held, listed_in, addresses_in}
use Rattle.manager.specs.clauses.Place.{placed}
use Rattle.manager.specs.declared.AddressList.{AddressList}
use Rattle.manager.specs.declared.Manager.{Manager}
use Rattle.block_map.specs.BlockMap.{Marked, update, used}
use Rattle.report.specs.clauses.Steps.{Stepped}
use Rattle.pool.specs.Pool.{Pool}
use Rattle.audit.specs.Audit.{audit_info, audit_each, enter_address, audit_address, audit_listed}
use Rattle.audit.specs.clauses.Answers.{audited, addresses_on}
use Rattle.audit.specs.declared.Audit.{Audit}
use Rattle.audit.proofs.Laws.{none_left, one_less, entered_then}

-- the blocks of a list of addresses from place i on, of n
module _ (visit : Address → Marked Audit → Reads (Marked Audit)) (b : List ℕ) (off n i : ℕ) (s : Marked Audit) where
  pub each_done : n ≤ i → audit_each visit (values 8 b (n - i) (off + 8 * i)) s ≡ done s
  unfolding audit_each values
  each_done h = rw (none_left n i h) refl

  pub each_more : (a : Address) → a.0 ≡ num 8 b (off + 8 * i) → i < n
      → audit_each visit (values 8 b (n - i) (off + 8 * i)) s ≡ visit a s >>= audit_each visit (values 8 b (n - (i + 1)) (off + 8 * (i + 1)))
  unfolding audit_each values
  each_more a e h = rw (one_less n i h, ← e, at) refl
    where
      at : off + 8 * i + 8 ≡ off + 8 * (i + 1)
      at = omega arith

pub each_first : (visit : Address → Marked Audit → Reads (Marked Audit)) (b : List ℕ) (off n : ℕ) (s : Marked Audit) → audit_each visit (values 8 b n (off + 8 * 0)) s ≡ audit_each visit (values 8 b n off) s
each_first visit b off n s = rw add-zero refl

-- the list of an address block, and that of the main device, where each stands
module _ (f : ℕ → List ℕ) (c : Container) (l : AddressList) where
  pub address_list : (a : Address) → l ≡ addresses_in (f a.0) a → list_from 8 (held f c.size l.holder) l.count l.at ≡ addresses_of (f a.0)
  address_list a is = rw is refl

  pub device_list : (m : Manager) → l ≡ listed_in (placed f c.size m) m → list_from 8 (held f c.size l.holder) l.count l.at ≡ listed (placed f c.size m)
  device_list m is = rw is refl

-- a list of addresses, read whole
abbrev addresses_read : (ℕ → List ℕ) → Container → AddressList → Outcome (List ℕ)
addresses_read f c l = run f (list_from 8 (held f c.size l.holder) l.count l.at)

-- an address block whose list is there
module _ (f : ℕ → List ℕ) (c : Container) (p : Pool) (a : Address) (map : List ℕ) (audit : Audit) (l : AddressList) (is : l ≡ addresses_in (f a.0) a) where
  pub address_there : {count : ℕ} {r : Result Audit Refusal} {between after : List ℕ} → given (addresses_on f c l) ≡ addresses_read f c l → a.0 < count → between ≡ update used a.0 map
      → Stepped f count r between after (audit_each (audit_info c p) (addresses_on f c l) (audited between audit))
      → Stepped f count r map after (enter_address c p a (audited map audit) (f a.0))
  unfolding enter_address
  address_there q below e h = entered_then a map audit below e (addresses_of (f a.0)) _ (audit_each (audit_info c p)) (sym (rw is at q)) (rw is at h)

-- what the main device lists
module _ (c : Container) (p : Pool) (l : List ℕ) (s : Marked Audit) (has : Bool) where
  pub listed_addresses : has ≡ true → audit_each (audit_address c p) l s ≡ audit_listed c p has l s
  unfolding audit_listed
  listed_addresses e = rw e refl

  pub listed_infos : has ≡ false → audit_each (audit_info c p) l s ≡ audit_listed c p has l s
  unfolding audit_listed
  listed_infos e = rw e refl
