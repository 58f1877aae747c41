use Rattle.std.proofs.Common.{◌≡◌, length, take}
use Rattle.vec_scan.specs.Written.{IsWritten}
use Rattle.append_vec.specs.Filled.{rows_of, total_size}
use Rattle.append_vec.proofs.filling.write_all.Given as goal

-- the records of the accounts so far stand in the front of the image
abbrev pub invariant-loop-key : goal.invariant-loop-key
invariant-loop-key l = record {
  place : l.at ≡ total_size (rows_of (take l.key-index l.accounts));
  written : IsWritten (rows_of (take l.key-index l.accounts)) (take l.at l.bytes.items) l.places.items;
  whole : length l.bytes.items ≡ l.len;
}
