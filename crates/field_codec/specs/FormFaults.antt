-- Why a form was not read, and the answers of reading one.
use Rattle.std.specs.Prelude.{◌≡◌, ℕ, ◌≤◌, Bool, true, false, List, ◌++◌, map, codes, decimal, Option, Result, Ok, Err, string_bytes}
use Rattle.stream_io.specs.Stream.{Rose}
use Rattle.field_codec.specs.declared.fault.FieldFault.{FieldFault}
use Rattle.field_codec.specs.declared.fault.FieldFault.TheVariants as fields
use Rattle.field_codec.specs.declared.form_fault.FormFault.{FormFault}
use Rattle.field_codec.specs.declared.form_fault.FormFault.TheVariants as faults
use Rattle.field_codec.specs.declared.form.Form.{Form}
use Rattle.field_codec.specs.declared.form.FormFile.{FormFile}
use Rattle.field_codec.specs.Forms.{NamedFile, Found, Flaw, unless, NoVersion, BadVersion, NoManifest, ManyManifests, BadManifest, SlotMismatch, SlotAbove, NoFile, UnknownFile}

-- a file of a form
abbrev pub file_seen : FormFile → NamedFile
file_seen file = record { slot = file.slot; len = file.len; path = string_bytes file.name }

-- a form of the program
abbrev pub form_seen : Form → Found
form_seen form = record { slot = form.slot; files = map file_seen form.files.items }

-- a fault of a manifest in words
abbrev pub field_fault_text : FieldFault → List ℕ
field_fault_text (fields.Cut at) = codes "cut " ++ decimal at
field_fault_text (fields.SlotTwice slot) = codes "slot-twice " ++ decimal slot
field_fault_text (fields.Storages slot count) = codes "storages " ++ decimal slot ++ codes " " ++ decimal count
field_fault_text (fields.Trailing at) = codes "trailing " ++ decimal at
field_fault_text fields.NoMemory = codes "no memory"

-- a fault of a manifest, as a form's
abbrev pub form_fault_of : FieldFault → FormFault
form_fault_of (fields.Cut at) = faults.Manifest (fields.Cut at)
form_fault_of (fields.SlotTwice slot) = faults.Manifest (fields.SlotTwice slot)
form_fault_of (fields.Storages slot count) = faults.Manifest (fields.Storages slot count)
form_fault_of (fields.Trailing at) = faults.Manifest (fields.Trailing at)
form_fault_of fields.NoMemory = faults.NoMemory

-- a fault in words
abbrev pub form_fault_text : FormFault → List ℕ
form_fault_text faults.NoVersion = codes "no-version"
form_fault_text faults.BadVersion = codes "bad-version"
form_fault_text faults.NoManifest = codes "no-manifest"
form_fault_text (faults.ManyManifests count) = codes "many-manifests " ++ decimal count
form_fault_text (faults.Manifest fault) = codes "manifest " ++ field_fault_text fault
form_fault_text (faults.SlotMismatch name field) = codes "slot-mismatch " ++ decimal name ++ codes " " ++ decimal field
form_fault_text (faults.SlotAbove slot snapshot) = codes "slot-above " ++ decimal slot ++ codes " " ++ decimal snapshot
form_fault_text (faults.NoFile name) = codes "no-file " ++ string_bytes name
form_fault_text (faults.UnknownFile name) = codes "unknown-file " ++ string_bytes name
form_fault_text faults.DirFault = codes "directory fault"
form_fault_text (faults.Gone name) = codes "gone " ++ string_bytes name
form_fault_text faults.NoMemory = codes "no memory"

-- the answer is what was found, which is this or that flaw; want of memory may come in place of any answer, and a fault of the
-- directory where `lost` allows it
abbrev pub Given : {X Y : Type 0} → Type 0 → (X → Y) → (Result Y Flaw → Type 0) → Result X FormFault → Type 0
Given lost view Is (Ok x) = Is (Ok (view x))
Given lost view Is (Err faults.NoVersion) = Is (Err NoVersion)
Given lost view Is (Err faults.BadVersion) = Is (Err BadVersion)
Given lost view Is (Err faults.NoManifest) = Is (Err NoManifest)
Given lost view Is (Err (faults.ManyManifests count)) = Is (Err (ManyManifests count))
Given lost view Is (Err (faults.Manifest fault)) = Is (Err (BadManifest fault))
Given lost view Is (Err (faults.SlotMismatch name field)) = Is (Err (SlotMismatch name field))
Given lost view Is (Err (faults.SlotAbove slot snapshot)) = Is (Err (SlotAbove slot snapshot))
Given lost view Is (Err (faults.NoFile name)) = Is (Err (NoFile (string_bytes name)))
Given lost view Is (Err (faults.UnknownFile name)) = Is (Err (UnknownFile (string_bytes name)))
Given lost view Is (Err faults.DirFault) = lost
Given lost view Is (Err (faults.Gone name)) = ⊥
Given lost view Is (Err faults.NoMemory) = Unit {0}

-- the check passes, or answers the flaw where there is one
abbrev pub PassesUnless : {X : Type 0} → Option Flaw → Result X FormFault → Type 0
PassesUnless flaw result = Given ⊥ (λ _. true) (λ found. found ≡ unless flaw true) result

-- there is an answer, or a call of the directory failed, or memory was wanted
abbrev pub OnlyLost : {X : Type 0} → Result X FormFault → Type 0
OnlyLost result = Given (Unit {0}) (λ _. true) (λ found. found ≡ Ok true) result

-- a call of the directory failed
abbrev pub is_dir_fault : {X : Type 0} → Result X FormFault → Bool
is_dir_fault (Err faults.DirFault) = true
is_dir_fault _ = false

-- the directory's count does not fall; it failed only where the count rose, and anything else is answered only where it did not
pub record HasFormCause {X : Type 0} (before now : ℕ) (result : Result X FormFault) : Type 0 where
  pub later : before ≤ now
  pub failed : is_dir_fault result ≡ true → Rose before now
  pub kept : is_dir_fault result ≡ false → now ≡ before
