-- What the private fields of an account and of a view stand for, and the facts that hold of them.
use Rattle.std.specs.Prelude.{◌≡◌, ◌≤◌, length}
use Rattle.std.specs.List.Sorted.{IsStrictlyIncreasing}
use Rattle.adb_model.specs.Account.{Account, tomb}
use Rattle.adb_model.specs.View.{View}
use Rattle.adb_model.specs.declared.account.Account.TheInside as account
use Rattle.adb_model.specs.declared.view.View.TheInside as view

-- the fields as contracts see them
abbrev pub account_seen : account.Inside → Account
account_seen a = record { lamports = a.lamports; owner = a.owner; executable = a.executable; rent_epoch = a.rent_epoch; bytes = a.bytes.items }

-- an account has at most so many bytes of data, and one without lamports is the tomb
pub record IsAccount (a : account.Inside) : Type 0 where
  pub most : length a.bytes.items ≤ 10485760
  pub tomb : a.lamports ≡ 0 → account_seen a ≡ tomb

-- the fields as contracts see them
abbrev pub view_seen : view.Inside → View
view_seen v = record { ancestors = v.ancestors.value.items; max_root = v.max_root }

-- the ancestors rise without repeats, and are not too many
pub record IsView (v : view.Inside) : Type 0 where
  pub rise : IsStrictlyIncreasing v.ancestors.value.items
  pub most : length v.ancestors.value.items ≤ 8192
