-- What is printed of an account.
use Rattle.std.specs.Prelude.{ℕ, List}
use Rattle.adb_model.specs.Account.{Account}
use Rattle.adb_model.specs.declared.account.Head.{Head}

-- the account of these fields and this data
abbrev pub account_with : Head → List ℕ → Account
account_with head body = record { lamports = head.lamports; owner = head.owner; executable = head.executable; rent_epoch = head.rent_epoch; bytes = body }
