-- Which bytes are a record, by concatenation of its parts: the header of Agave's append vectors, and the data.
use Rattle.std.specs.Prelude.{◌≡◌, ℕ, ◌<◌, ◌≤◌, ◌^◌, List, [], ◌∷◌, ◌++◌, length, if◌then◌else◌}
use Rattle.std.specs.List.{concat}
use Rattle.le_fields.specs.Fields.{number_bytes}
use Rattle.adb_model.specs.Account.{Account, account_of}

-- the parts that a reader skips
pub record Skipped : Type 0 where
  pub version : List ℕ
  pub padding : List ℕ
  pub hash : List ℕ

-- the parts before the data, one after another
abbrev pub header_bytes : Skipped → List ℕ → Account → List ℕ
header_bytes skipped key fields = concat (
    skipped.version
    ∷ number_bytes (length fields.bytes)
    ∷ key
    ∷ number_bytes fields.lamports
    ∷ number_bytes fields.rent_epoch
    ∷ fields.owner
    ∷ ((if fields.executable then 1 else 0) ∷ [])
    ∷ skipped.padding
    ∷ skipped.hash
    ∷ [])

-- a record: its header, and its data
abbrev pub record_bytes : Skipped → List ℕ → Account → List ℕ
record_bytes skipped key fields = header_bytes skipped key fields ++ fields.bytes

-- a key and fields that have room in a record's parts
pub record Fits (key : List ℕ) (fields : Account) : Type 0 where
  pub key_len : length key ≡ 32
  pub lamports : fields.lamports < 2 ^ 64
  pub owner_len : length fields.owner ≡ 32
  pub rent_epoch : fields.rent_epoch < 2 ^ 64
  pub most : length fields.bytes ≤ 10485760

-- the bytes are a record in which this key and these fields stand as they are; what a reader skips is free
pub record HasFields (bytes key : List ℕ) (fields : Account) : Type 0 where
  pub fits : Fits key fields
  pub skipped : Skipped
  pub version_len : length skipped.version ≡ 8
  pub padding_len : length skipped.padding ≡ 7
  pub hash_len : length skipped.hash ≡ 32
  pub parts : bytes ≡ record_bytes skipped key fields

-- the account that fields stand for: the tomb, where they have no lamports
abbrev pub account_in : Account → Account
account_in fields = account_of fields.lamports fields.owner fields.executable fields.rent_epoch fields.bytes

-- the bytes are a record of this key and account
abbrev pub IsRecord : List ℕ → List ℕ → Account → Type 0
IsRecord bytes key account = (fields : Account) × HasFields bytes key fields × (account ≡ account_in fields)
