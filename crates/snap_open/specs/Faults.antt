-- Why no book was opened from a snapshot.
use Rattle.std.specs.Prelude.{◌≡◌, ◌≢◌, ◌≤◌, ℕ, Bool, true, false, List, ◌∷◌, ◌++◌, All, Option, Some, None, is_some, IsSomeAnd, Result, Err, ⊤, string_bytes}
use Rattle.stream_io.specs.Stream.{Rose}
use Rattle.dir_io.specs.Files.{Files, file_of}
use Rattle.vec_scan.specs.declared.fault.LayoutFault.{LayoutFault}
use Rattle.vec_scan.specs.declared.fault.LayoutFault.TheVariants as layouts
use Rattle.vec_scan.specs.Fault.{HasFault}
use Rattle.vec_scan.specs.Image.{Placed, HasImage}
use Rattle.field_codec.specs.declared.fault.FieldFault.TheVariants as fields
use Rattle.field_codec.specs.declared.form_fault.FormFault.{FormFault}
use Rattle.field_codec.specs.declared.form_fault.FormFault.TheVariants as forms
use Rattle.field_codec.specs.Forms as flaws
use Rattle.field_codec.specs.Forms.{Finds, Flaw, HoldsForm, NamedFile, form_in}
use Rattle.field_codec.specs.Manifest.{Content}
use Rattle.open_plan.specs.declared.fault.RebuildFault.{RebuildFault}
use Rattle.open_plan.specs.declared.fault.RebuildFault.TheVariants as rebuilds
use Rattle.open_plan.specs.Causes.{IsFirstFull, IsOutOfCells}
use Rattle.snap_open.specs.Sizes.{HasRoom, sizes_in}
use Rattle.snap_open.specs.declared.fault.OpenFault.{OpenFault}
use Rattle.snap_open.specs.declared.fault.OpenFault.TheVariants as faults

-- the flaw of files that a form's fault tells; a fault of the directory and want of memory tell none
abbrev pub flaw_of : FormFault → Option Flaw
flaw_of forms.NoVersion = Some flaws.NoVersion
flaw_of forms.BadVersion = Some flaws.BadVersion
flaw_of forms.NoManifest = Some flaws.NoManifest
flaw_of (forms.ManyManifests count) = Some (flaws.ManyManifests count)
flaw_of (forms.Manifest fields.NoMemory) = None
flaw_of (forms.Manifest fault) = Some (flaws.BadManifest fault)
flaw_of (forms.SlotMismatch name field) = Some (flaws.SlotMismatch name field)
flaw_of (forms.SlotAbove slot snapshot) = Some (flaws.SlotAbove slot snapshot)
flaw_of (forms.NoFile name) = Some (flaws.NoFile (string_bytes name))
flaw_of (forms.UnknownFile name) = Some (flaws.UnknownFile (string_bytes name))
flaw_of forms.DirFault = None
flaw_of (forms.Gone name) = None
flaw_of forms.NoMemory = None

-- a form's fault or a layout's is one of the files: a fault of the directory and want of memory have variants of their own
abbrev pub IsOwn : OpenFault → Type 0
IsOwn (faults.Form fault) = is_some (flaw_of fault) ≡ true
IsOwn (faults.Layout name fault) = fault ≢ layouts.NoMemory
IsOwn fault = ⊤

-- files hold a form, and this is so of the storages' files
pub record HoldsFormOf (files : Files) (name : List ℕ) (Is : List NamedFile → Type 0) : Type 0 where
  pub content : Content
  pub form : HoldsForm files name content
  pub is : Is (form_in name content).files

-- the first bytes of a file are no image, and this is its first fault
pub record IsNoImage (len : ℕ) (fault : LayoutFault) (bytes : List ℕ) : Type 0 where
  pub has_fault : HasFault bytes len fault
  pub none : (rows : List Placed) → HasImage bytes len rows → ⊥

-- the first bytes of a storage's file are an image
abbrev pub HoldsImage : Files → NamedFile → Type 0
HoldsImage files file = IsSomeAnd (file_of files file.path) (λ bytes. (rows : List Placed) × HasImage bytes file.len rows)

-- the first of the storages' files that is no image is under this path, and has this fault
pub record IsFirstFaulty (files : Files) (path : List ℕ) (fault : LayoutFault) (storages : List NamedFile) : Type 0 where
  pub front : List NamedFile
  pub file : NamedFile
  pub rest : List NamedFile
  pub parts : storages ≡ front ++ file ∷ rest
  pub sound : All (HoldsImage files) front
  pub path_is : path ≡ file.path
  pub no_image : IsSomeAnd (file_of files path) (IsNoImage file.len fault)

-- there is room for all storages, and the first whose file is no image is this one
pub record IsBadLayout (files : Files) (budget : ℕ) (path : List ℕ) (fault : LayoutFault) (storages : List NamedFile) : Type 0 where
  pub room : HasRoom budget (sizes_in storages)
  pub first : IsFirstFaulty files path fault storages

-- why no book is opened from these files
abbrev pub WhyNotOpened : Files → List ℕ → ℕ → OpenFault → Type 0
WhyNotOpened files name budget (faults.Form fault) = IsSomeAnd (flaw_of fault) (λ flaw. Finds files name (Err flaw))
WhyNotOpened files name budget (faults.Full used wanted limit) = HoldsFormOf files name (λ storages. IsFirstFull budget (sizes_in storages) used wanted limit)
WhyNotOpened files name budget (faults.NoCell limit) = HoldsFormOf files name (λ storages. IsOutOfCells budget (sizes_in storages) limit)
WhyNotOpened files name budget (faults.Layout path fault) = HoldsFormOf files name (IsBadLayout files budget (string_bytes path) fault)
WhyNotOpened files name budget faults.DirFault = ⊤
WhyNotOpened files name budget (faults.Gone path) = ⊥
WhyNotOpened files name budget faults.NoMemory = ⊤

-- a call of the directory failed
abbrev pub is_dir_fault : {X : Type 0} → Result X OpenFault → Bool
is_dir_fault (Err faults.DirFault) = true
is_dir_fault _ = false

-- the directory's count does not fall; it failed only where the count rose, and anything else is answered only where it did not
pub record HasOpenCause {X : Type 0} (before now : ℕ) (result : Result X OpenFault) : Type 0 where
  pub later : before ≤ now
  pub failed : is_dir_fault result ≡ true → Rose before now
  pub kept : is_dir_fault result ≡ false → now ≡ before

-- a form's fault, with the directory's and want of memory in variants of their own
abbrev pub open_fault_for : FormFault → OpenFault
open_fault_for forms.DirFault = faults.DirFault
open_fault_for (forms.Gone name) = faults.Gone name
open_fault_for forms.NoMemory = faults.NoMemory
open_fault_for (forms.Manifest fields.NoMemory) = faults.NoMemory
open_fault_for fault = faults.Form fault

-- why storages were not taken over by a book, as a fault of their opening
abbrev pub rebuild_fault_for : RebuildFault → OpenFault
rebuild_fault_for (rebuilds.Full used wanted limit) = faults.Full used wanted limit
rebuild_fault_for (rebuilds.NoCell limit) = faults.NoCell limit
rebuild_fault_for rebuilds.NoMemory = faults.NoMemory
