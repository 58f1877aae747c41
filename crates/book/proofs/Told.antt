-- The account that a look into a book tells.
use Rattle.std.proofs.Common.{◌≡◌, ℕ, List, Bool, true, false, cond, eqb, Option, Some, None, sym, ap, ◌∙◌, subst, inl, inr, ◌⊎◌, option_and_then}
use Rattle.std.proofs.lemmas.Bool.{cases_Bool, true≢false}
use Rattle.adb_model.specs.Account.{Account, is_tomb, tomb}
use Rattle.adb_model.specs.View.{View}
use Rattle.adb_model.specs.State.{Stored, State}
use Rattle.adb_model.specs.Load.{latest, unless_tomb, answer}
use Rattle.account_layout.specs.Record.{account_in}

-- accounts with the same fields are one
pub same_account : (a b : Account) → a.lamports ≡ b.lamports → a.owner ≡ b.owner → a.executable ≡ b.executable → a.rent_epoch ≡ b.rent_epoch → a.bytes ≡ b.bytes → a ≡ b
same_account a b lamports owner executable rent_epoch bytes =
    ap (λ (x : ℕ). let r : Account = record { lamports = x; owner = a.owner; executable = a.executable; rent_epoch = a.rent_epoch; bytes = a.bytes } in r) lamports
    ∙ ap (λ (x : List ℕ). let r : Account = record { lamports = b.lamports; owner = x; executable = a.executable; rent_epoch = a.rent_epoch; bytes = a.bytes } in r) owner
    ∙ ap (λ (x : Bool). let r : Account = record { lamports = b.lamports; owner = b.owner; executable = x; rent_epoch = a.rent_epoch; bytes = a.bytes } in r) executable
    ∙ ap (λ (x : ℕ). let r : Account = record { lamports = b.lamports; owner = b.owner; executable = b.executable; rent_epoch = x; bytes = a.bytes } in r) rent_epoch
    ∙ ap (λ (x : List ℕ). let r : Account = record { lamports = b.lamports; owner = b.owner; executable = b.executable; rent_epoch = b.rent_epoch; bytes = x } in r) bytes

no_tomb : (o : Option Stored) (t : Stored) → option_and_then unless_tomb o ≡ Some t → is_tomb t.account ≡ false
no_tomb None t is = let h : None ≡ Some t = is in absurd cc
no_tomb (Some u) t is = by (cases_Bool (is_tomb u.account))
  where
    by : (is_tomb u.account ≡ true) ⊎ (is_tomb u.account ≡ false) → is_tomb t.account ≡ false
    by (inl dead) = let h : None ≡ Some t = sym (ap (λ b. cond b None (Some u)) dead) ∙ is in absurd cc
    by (inr whole) =
        let same : Some u ≡ Some t = sym (ap (λ b. cond b None (Some u)) whole) ∙ is in
        let one : u ≡ t = cc in
        subst (λ (v : Stored). is_tomb v.account ≡ false) one whole

-- an answer is no tomb
pub whole_answer : (m : State) (v : View) (key : List ℕ) (t : Stored) → answer m v key ≡ Some t → is_tomb t.account ≡ false
whole_answer m v key t is = no_tomb (latest m v key) t is

-- fields that don't stand for the tomb are the account
pub whole_fields : (fields : Account) → is_tomb (account_in fields) ≡ false → account_in fields ≡ fields
whole_fields fields whole = by (cases_Bool (eqb fields.lamports 0))
  where
    by : (eqb fields.lamports 0 ≡ true) ⊎ (eqb fields.lamports 0 ≡ false) → account_in fields ≡ fields
    by (inl none) = absurd (true≢false (sym (ap (λ b. is_tomb (cond b tomb fields)) none) ∙ whole))
    by (inr some) = ap (λ b. cond b tomb fields) some
