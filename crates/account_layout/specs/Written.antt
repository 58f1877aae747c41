-- The written form of a record.
use Rattle.std.specs.Prelude.{◌≡◌, ℕ, ◌+◌, ◌-◌, List, ◌++◌, length, replicate}
use Rattle.adb_model.specs.Account.{Account, size, tomb}
use Rattle.account_layout.specs.Record.{Skipped, Fits, record_bytes}

-- what a reader skips is written as zeros
abbrev pub zeroed : Skipped
zeroed = record { version = replicate 8 0; padding = replicate 7 0; hash = replicate 32 0 }

-- a key and its account as they are written: the record, and zeros up to a multiple of eight
abbrev pub written_record : List ℕ → Account → List ℕ
written_record key account = record_bytes zeroed key account ++ replicate (size account - (136 + length account.bytes)) 0

-- a key and an account as the program has them: they have room in a record, and without lamports it is the tomb
pub record IsWritable (key : List ℕ) (account : Account) : Type 0 where
  pub fits : Fits key account
  pub buried : account.lamports ≡ 0 → account ≡ tomb
