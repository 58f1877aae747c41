-- The leases that a book keeps are the machine's.
use Rattle.std.specs.Prelude.{◌≡◌, ℕ, ◌+◌, ◌<◌, ◌≤◌, ◌==◌, ◌&&◌, Bool, true, false, List, length, map, Some, None}
use Rattle.std.specs.List.{AllWithin, HoldsAt}
use Rattle.adb_model.specs.Lists.{last, least}
use Rattle.adb_model.specs.State as machine
use Rattle.book.specs.declared.leasing.Lease.{Lease}
use Rattle.book.specs.declared.refusals.RaiseRefusal.{RaiseRefusal}
use Rattle.book.specs.declared.refusals.RaiseRefusal.TheVariants.{PastRoot, Leased}

-- the machine's lease
abbrev pub lease_of : Lease → machine.Lease
lease_of l = record { pass = l.pass; max_root = l.max_root }

-- in order
abbrev pub leases_of : List Lease → List machine.Lease
leases_of leases = map lease_of leases

-- it is the pass's, of these views
abbrev pub is_of : ℕ → ℕ → Lease → Bool
is_of pass max_root l = l.pass == pass && l.max_root == max_root

-- the element at the place passes, and none after it does
pub record IsLastPlace {X : Type 0} (test : X → Bool) (xs : List X) (place : ℕ) : Type 0 where
  pub in_range : place < length xs
  pub passes : HoldsAt (λ x. test x ≡ true) xs place
  pub none_after : AllWithin (λ x. test x ≡ false) xs (place + 1) (length xs)

-- the slot is not past the newest root, and no lease is of views below it
pub record MayRaise (roots : List ℕ) (leases : List machine.Lease) (upto : ℕ) : Type 0 where
  pub newest : ℕ
  pub last_is : last roots ≡ Some newest
  pub within : upto ≤ newest
  pub unleased : (l : ℕ) → least (map (λ l. l.max_root) leases) ≡ Some l → upto ≤ l

-- it is past the newest root, or there is none; or, where it is not, a lease is of views below it
abbrev pub IsWhyNotRaised : List ℕ → List machine.Lease → ℕ → RaiseRefusal → Type 0
IsWhyNotRaised roots leases upto (PastRoot of_slot None) = (of_slot ≡ upto) × (last roots ≡ None)
IsWhyNotRaised roots leases upto (PastRoot of_slot (Some newest)) = (of_slot ≡ upto) × (last roots ≡ Some newest) × (newest < upto)
IsWhyNotRaised roots leases upto (Leased of_slot l) =
    (of_slot ≡ upto) × (newest : ℕ) × (last roots ≡ Some newest) × (upto ≤ newest) × (least (map (λ l. l.max_root) leases) ≡ Some l) × (l < upto)
