-- Accounts.
use Rattle.std.specs.Prelude.{ℕ, ◌+◌, ◌*◌, ◌/◌, ◌==◌, Bool, false, if◌then◌else◌, List, [], length, replicate}

-- one version of an account; the data is a list of bytes
pub record Account : Type 0 where
  pub lamports : ℕ
  pub owner : List ℕ
  pub executable : Bool
  pub rent_epoch : ℕ
  pub bytes : List ℕ

-- an account that does not exist to a reader
abbrev pub is_tomb : Account → Bool
is_tomb a = a.lamports == 0

-- all tombs are this one
abbrev pub tomb : Account
tomb = record { lamports = 0; owner = replicate 32 0; executable = false; rent_epoch = 0; bytes = [] }

-- the account with these fields
abbrev pub account_of : ℕ → List ℕ → Bool → ℕ → List ℕ → Account
account_of lamports owner executable rent_epoch bytes =
    if lamports == 0 then tomb
    else record { lamports = lamports; owner = owner; executable = executable; rent_epoch = rent_epoch; bytes = bytes }

-- the bytes of its record in a storage: 136 and the data, rounded up to a multiple of 8
abbrev pub size : Account → ℕ
size a = (136 + length a.bytes + 7) / 8 * 8
