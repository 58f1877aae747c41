-- What a load that found its answer in a storage is told.
use Rattle.std.proofs.Common.{◌≡◌, ℕ, List, Option, Some, None, IsSome, Result, Ok, IfOk, IfSome, refl, subst}
use Rattle.std.specs.Option.{option_map}
use Rattle.adb_model.specs.Account.{Account}
use Rattle.adb_model.specs.Call as machine
use Rattle.adb_model.specs.Call.{InStorage}
use Rattle.book_parts.specs.Parts.{Shared}
use Rattle.book.specs.declared.refusals.LoadRefusal.{LoadRefusal}
use Rattle.book.specs.declared.loading.Found.{Found}
use Rattle.book.specs.declared.loading.FoundAt.TheVariants.{Stored}
use Rattle.book.specs.Pinned.{IsThere}
use Rattle.vec_scan.specs.Image.{Placed}

-- the account of the row that is there
pub told_of : (slot id : ℕ) (o : Option Placed) → IsSome o → (account : Account) × (option_map (λ r. machine.Found slot (InStorage id) r.account) (option_map (λ p. p.row) o) ≡ Some (machine.Found slot (InStorage id) account))
told_of slot id (Some placed) some = (placed.row.account, refl)
told_of slot id None some = absurd cc

-- the place that was found is one of the key
pub stored_there : (key : List ℕ) (r : Result (Option Found) LoadRefusal) (slot id : ℕ) (sealed : Shared) (offset : ℕ) → r ≡ Ok (Some (record { slot = slot; at = Stored id sealed offset }))
    → IfOk r (λ found. IfSome found (λ f. IsThere key f.at)) → IsThere key (Stored id sealed offset)
stored_there key r slot id sealed offset is there = subst (λ (x : Result (Option Found) LoadRefusal). IfOk x (λ found. IfSome found (λ f. IsThere key f.at))) is there
