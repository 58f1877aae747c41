-- What a scan of a file's first bytes says of the file.
use Rattle.std.proofs.Common.{◌≡◌, ℕ, ◌<◌, ◌≤◌, List, length, take, Bool, true, false, cond, ltb, ◌&&◌, Result, Ok, Err, Some, None, refl, sym, ◌⊎◌, inl, inr, arith}
use Rattle.le_fields.specs.Fields.{rounded}
use Rattle.account_layout.specs.declared.record.RecordFault.{RecordFault}
use Rattle.account_layout.specs.declared.record.RecordFault.TheVariants as records
use Rattle.account_layout.specs.Reading.{Entry, record_at}
use Rattle.vec_scan.specs.declared.fault.LayoutFault.{LayoutFault}
use Rattle.vec_scan.specs.declared.fault.LayoutFault.TheVariants.{ShortFile, HeaderCut, DataCut, DataTooLong, BadExecutable, TailCut, NoMemory}
use Rattle.vec_scan.specs.Image.{Placed, IsImage}
use Rattle.vec_scan.specs.Fault.{FailsWith, HasFault, fault_of}
use Rattle.vec_scan.specs.Forward.{IsScanned, Scans}

-- no row has the fault of a short file
never_short : (end have want : ℕ) (read : Result Entry RecordFault) → fault_of end read ≡ Some (ShortFile have want) → ⊥
never_short end have want (Err (records.HeaderCut at)) is = cc
never_short end have want (Err (records.DataCut at len)) is = cc
never_short end have want (Err (records.DataTooLong len)) is = cc
never_short end have want (Err (records.BadExecutable at byte)) is = cc
never_short end have want (Ok entry) is = pick (ltb entry.end end && ltb end (rounded entry.end)) is
  where
    pick : (b : Bool) → cond b (Some (TailCut entry.end end)) None ≡ Some (ShortFile have want) → ⊥
    pick true is = cc
    pick false is = cc

-- what was refused, as a fault of the file
pub refused_is : (file : List ℕ) (len : ℕ) (fault : LayoutFault) → len ≤ length file → Scans (take len file) (Err fault) → HasFault file len fault ⊎ (fault ≡ NoMemory)
refused_is file len (ShortFile have want) le is =
    let at = length is.fails.front in
    absurd (never_short (length (take len file)) have want (record_at (take len file) at (length (take len file))) is.fails.fault_is)
refused_is file len (HeaderCut at) le is = inl (le, is.fails)
refused_is file len (DataCut at n) le is = inl (le, is.fails)
refused_is file len (DataTooLong n) le is = inl (le, is.fails)
refused_is file len (BadExecutable at byte) le is = inl (le, is.fails)
refused_is file len (TailCut at n) le is = inl (le, is.fails)
refused_is file len NoMemory le is = inr refl

-- a fault of a file that is long enough is one of its first bytes
fails_with : (file : List ℕ) (len : ℕ) (fault : LayoutFault) → len ≤ length file → HasFault file len fault → FailsWith (take len file) fault
fails_with file len (ShortFile have want) le is = let have_is = is.0 in let want_is = is.1 in let short = is.2 in absurd (omega arith)
fails_with file len (HeaderCut at) le is = is.1
fails_with file len (DataCut at n) le is = is.1
fails_with file len (DataTooLong n) le is = is.1
fails_with file len (BadExecutable at byte) le is = is.1
fails_with file len (TailCut at n) le is = is.1
fails_with file len NoMemory le is = absurd is

pub refused_image : (image : List ℕ) (fault : LayoutFault) (rows : List Placed) → Scans image (Err fault) → IsImage image rows → fault ≡ NoMemory
refused_image image (ShortFile have want) rows is im = absurd (is.none rows im)
refused_image image (HeaderCut at) rows is im = absurd (is.none rows im)
refused_image image (DataCut at n) rows is im = absurd (is.none rows im)
refused_image image (DataTooLong n) rows is im = absurd (is.none rows im)
refused_image image (BadExecutable at byte) rows is im = absurd (is.none rows im)
refused_image image (TailCut at n) rows is im = absurd (is.none rows im)
refused_image image NoMemory rows is im = refl

refused_by : (image : List ℕ) (fault other : LayoutFault) → Scans image (Err fault) → FailsWith image other → (fault ≡ other) ⊎ (fault ≡ NoMemory)
refused_by image (ShortFile have want) other is fails = inl (sym (is.only other fails))
refused_by image (HeaderCut at) other is fails = inl (sym (is.only other fails))
refused_by image (DataCut at n) other is fails = inl (sym (is.only other fails))
refused_by image (DataTooLong n) other is fails = inl (sym (is.only other fails))
refused_by image (BadExecutable at byte) other is fails = inl (sym (is.only other fails))
refused_by image (TailCut at n) other is fails = inl (sym (is.only other fails))
refused_by image NoMemory other is fails = inr refl

pub refused_fault : (file : List ℕ) (len : ℕ) (fault other : LayoutFault) → len ≤ length file → Scans (take len file) (Err fault) → HasFault file len other → (fault ≡ other) ⊎ (fault ≡ NoMemory)
refused_fault file len fault other le is has = refused_by (take len file) fault other is (fails_with file len other le has)

pub sealed_fault : {B : Type 0} (file offsets : List ℕ) (len : ℕ) (fault : LayoutFault) → len ≤ length file → IsScanned (take len file) offsets → HasFault file len fault → B
sealed_fault file offsets len fault le is has = absurd (is.sound fault (fails_with file len fault le has))

-- a file that is too short has no image and no other fault
pub short_fault : (file : List ℕ) (len : ℕ) (other : LayoutFault) → length file < len → HasFault file len other → ShortFile (length file) len ≡ other
short_fault file len (ShortFile have want) lt has = (λ i. ShortFile (sym has.0 i) (sym has.1 i))
short_fault file len (HeaderCut at) lt has = let le = has.0 in absurd (omega arith)
short_fault file len (DataCut at n) lt has = let le = has.0 in absurd (omega arith)
short_fault file len (DataTooLong n) lt has = let le = has.0 in absurd (omega arith)
short_fault file len (BadExecutable at byte) lt has = let le = has.0 in absurd (omega arith)
short_fault file len (TailCut at n) lt has = let le = has.0 in absurd (omega arith)
short_fault file len NoMemory lt has = absurd has
