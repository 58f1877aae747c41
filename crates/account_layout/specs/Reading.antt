-- Reading a record: the first fault that is met, or what the record says.
use Rattle.std.specs.Prelude.{◌≡◌, ℕ, ◌+◌, ◌-◌, List, Result, Ok, Err, nat_lt, if◌then◌else◌, slice_index, slice_range}
use Rattle.le_fields.specs.Fields.{number_at}
use Rattle.adb_model.specs.Account.{Account}
use Rattle.account_layout.specs.declared.record.RecordFault.{RecordFault}
use Rattle.account_layout.specs.declared.record.RecordFault.TheVariants.{HeaderCut, DataCut, DataTooLong, BadExecutable}
use Rattle.account_layout.specs.declared.record.Record.{Record}

-- what a record says, with its fields as they stand in it, and where its data ends
pub record Entry : Type 0 where
  pub key : List ℕ
  pub fields : Account
  pub end : ℕ

-- the fields of a record of the program
abbrev pub fields_of : Record → Account
fields_of r = record {
  lamports = r.head.lamports;
  owner = r.head.owner;
  executable = r.head.executable;
  rent_epoch = r.head.rent_epoch;
  bytes = r.body.now;
}

-- what a record of the program says
abbrev pub entry_of : Record → Entry
entry_of r = record { key = r.key.0; fields = fields_of r; end = r.end }

-- what stands at the places that the fields have in a record that starts here
abbrev pub entry_at : List ℕ → ℕ → Entry
entry_at bytes at =
    let end = at + 136 + number_at bytes (at + 8) in
    record {
      key = slice_range bytes (at + 16) (at + 48);
      fields = record {
        lamports = number_at bytes (at + 48);
        owner = slice_range bytes (at + 64) (at + 96);
        executable = nat_lt 0 (slice_index bytes (at + 96));
        rent_epoch = number_at bytes (at + 56);
        bytes = slice_range bytes (at + 136) end;
      };
      end = end;
    }

-- the record that starts at a place and ends at a bound or before, or its first fault
abbrev pub record_at : List ℕ → ℕ → ℕ → Result Entry RecordFault
record_at bytes at end =
    let len = number_at bytes (at + 8) in
    let byte = slice_index bytes (at + 96) in
    if nat_lt (end - at) 136 then Err (HeaderCut at)
    else if nat_lt end (at + 136 + len) then Err (DataCut at len)
    else if nat_lt 10485760 len then Err (DataTooLong len)
    else if nat_lt 1 byte then Err (BadExecutable at byte)
    else Ok (entry_at bytes at)

-- the result is what reading gives
abbrev pub Gives : Result Record RecordFault → Result Entry RecordFault → Type 0
Gives (Ok r) read = read ≡ Ok (entry_of r)
Gives (Err fault) read = read ≡ Err fault
