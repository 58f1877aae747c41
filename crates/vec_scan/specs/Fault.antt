-- What keeps bytes from being an image.
use Rattle.std.specs.Prelude.{◌≡◌, ℕ, ◌<◌, ◌≤◌, ◌&&◌, List, ◌++◌, length, take, nat_lt, if◌then◌else◌, Result, Ok, Err, Option, Some, None}
use Rattle.le_fields.specs.Fields.{rounded}
use Rattle.account_layout.specs.declared.record.RecordFault.{RecordFault}
use Rattle.account_layout.specs.declared.record.RecordFault.TheVariants as records
use Rattle.account_layout.specs.Reading.{Entry, record_at}
use Rattle.vec_scan.specs.declared.fault.LayoutFault.{LayoutFault}
use Rattle.vec_scan.specs.declared.fault.LayoutFault.TheVariants.{ShortFile, HeaderCut, DataCut, DataTooLong, BadExecutable, TailCut, NoMemory}
use Rattle.vec_scan.specs.Image.{Placed, AreRows}

-- a record's fault, as an image's
abbrev pub layout_fault : RecordFault → LayoutFault
layout_fault (records.HeaderCut at) = HeaderCut at
layout_fault (records.DataCut at len) = DataCut at len
layout_fault (records.DataTooLong len) = DataTooLong len
layout_fault (records.BadExecutable at byte) = BadExecutable at byte

-- the fault of a record that was read before a bound: its own, or that the bound cuts the gap behind it
abbrev pub fault_of : ℕ → Result Entry RecordFault → Option LayoutFault
fault_of end (Err fault) = Some (layout_fault fault)
fault_of end (Ok entry) = if nat_lt entry.end end && nat_lt end (rounded entry.end) then Some (TailCut entry.end end) else None

-- the fault of the row at a place, if it has one
abbrev pub fault_at : List ℕ → ℕ → Option LayoutFault
fault_at bytes at = fault_of (length bytes) (record_at bytes at (length bytes))

-- the bytes are rows without a fault, and then a row that has this one
pub record FailsWith (bytes : List ℕ) (fault : LayoutFault) : Type 0 where
  pub front : List ℕ
  pub rest : List ℕ
  pub rows : List Placed
  pub parts : bytes ≡ front ++ rest
  pub are_rows : AreRows front rows
  pub more : 0 < length rest
  pub fault_is : fault_at bytes (length front) ≡ Some fault

-- the first fault of a file as an image of a length
abbrev pub HasFault : List ℕ → ℕ → LayoutFault → Type 0
HasFault file len (ShortFile have want) = (have ≡ length file) × (want ≡ len) × (have < want)
HasFault file len NoMemory = ⊥
HasFault file len fault = (len ≤ length file) × FailsWith (take len file) fault
