-- What the steps of opening a form give.
use Rattle.std.specs.Prelude.{◌≡◌, ◌≢◌, ℕ, List, [], ◌∷◌, Option, None, IfSome, IsSomeAnd, ⊤, string_bytes}
use Rattle.adb_model.specs.Laws.{MayOpen}
use Rattle.adb_model.specs.Opened as machine
use Rattle.adb_model.specs.Opened.{opened}
use Rattle.open_plan.specs.Causes.{IsFirstFull, IsOutOfCells}
use Rattle.book_parts.specs.Parts.{Parts}
use Rattle.book_parts.specs.Stands.{Stands}
use Rattle.dir_io.specs.Files.{Files, file_of}
use Rattle.field_codec.specs.Forms.{Found, NamedFile}
use Rattle.le_fields.specs.Fields.{rounded}
use Rattle.snap_write.specs.Snapshot.{HasRows}
use Rattle.snap_write.specs.Written.{slots_without_rows, with_rows}
use Rattle.vec_scan.specs.declared.fault.LayoutFault.TheVariants as layouts
use Rattle.snap_open.specs.Faults.{IsBadLayout}
use Rattle.snap_open.specs.Sizes.{sizes_in}
use Rattle.snap_open.specs.declared.fault.OpenFault.{OpenFault}
use Rattle.snap_open.specs.declared.fault.OpenFault.TheVariants as faults

-- a call of the directory failed, or memory was wanted; that a file is gone is answered only where the files are not told
abbrev pub IsLost : Option Files → OpenFault → Type 0
IsLost files faults.DirFault = ⊤
IsLost files (faults.Gone name) = files ≡ None
IsLost files faults.NoMemory = ⊤
IsLost files fault = ⊥

-- why no book is opened from the storages of a form
abbrev pub WhyFormNotOpened : Option Files → ℕ → List NamedFile → OpenFault → Type 0
WhyFormNotOpened files budget storages (faults.Full used wanted limit) = IsFirstFull budget (sizes_in storages) used wanted limit
WhyFormNotOpened files budget storages (faults.NoCell limit) = IsOutOfCells budget (sizes_in storages) limit
WhyFormNotOpened files budget storages (faults.Layout name fault) = (fault ≢ layouts.NoMemory) × IfSome files (λ told. IsBadLayout told budget (string_bytes name) fault storages)
WhyFormNotOpened files budget storages fault = IsLost files fault

-- a storage's file is an image of the storage's slot, whose bytes are its length, rounded up
pub record IsImageIn (files : Files) (file : NamedFile) (image : machine.Image) : Type 0 where
  pub slot : image.slot ≡ file.slot
  pub bytes : image.bytes ≡ rounded file.len
  pub rows : IsSomeAnd (file_of files file.path) (HasRows file.len image)

-- the storages' files are these images, in their order
abbrev pub AreImagesIn : Files → List NamedFile → List machine.Image → Type 0
AreImagesIn files [] [] = ⊤
AreImagesIn files [] (image ∷ images) = ⊥
AreImagesIn files (file ∷ storages) [] = ⊥
AreImagesIn files (file ∷ storages) (image ∷ images) = IsImageIn files file image × AreImagesIn files storages images

-- the book stands for the state opened from the images of a form's files
pub record OpenedForm (budget : ℕ) (files : Option Files) (form : Found) (answer : Parts × ℕ) : Type 0 where
  pub laid : List machine.Image
  pub slot_is : answer.1 ≡ form.slot
  pub room : MayOpen budget (with_rows laid)
  pub stands : Stands answer.0 (opened budget form.slot (with_rows laid) (slots_without_rows laid)) []
  pub are_images : IfSome files (λ told. AreImagesIn told form.files laid)
