-- The images that storages' files are.
use Rattle.std.specs.Prelude.{◌≡◌, ◌<◌, ◌≤◌, ◌-◌, ◌^◌, ℕ, List, [], ◌∷◌, ◌++◌, length, map, All, Option, ⊤, string_bytes}
use Rattle.std.specs.Global.{Global}
use Rattle.std.specs.List.{enumerate_from}
use Rattle.std.specs.declared.string.String.{String}
use Rattle.adb_model.specs.Opened as machine
use Rattle.book_parts.specs.Snaps.{ids_of}
use Rattle.dir_io.specs.Files.{Files, IsFile}
use Rattle.field_codec.specs.Forms.{NamedFile}
use Rattle.field_codec.specs.FormFaults.{file_seen}
use Rattle.le_fields.specs.Fields.{rounded}
use Rattle.snap_write.specs.Snapshot.{HasRows}
use Rattle.snap_write.specs.Written.{slots_without_rows, with_rows}
use Rattle.vec_scan.specs.declared.fault.LayoutFault.{LayoutFault}
use Rattle.vec_scan.specs.Image.{HasImage, Image, Placed}
use Rattle.vec_scan.specs.Shown.{stored}
use Rattle.snap_open.specs.Faults.{IsNoImage}
use Rattle.snap_open.specs.declared.fault.OpenFault.{OpenFault}
use Rattle.snap_open.specs.declared.fault.OpenFault.TheVariants as faults
use Rattle.snap_open.specs.declared.reading.Loaded.{Loaded}

-- the files that were read
abbrev pub files_of : List Loaded → List NamedFile
files_of loaded = map (λ l. file_seen l.file) loaded

-- a file was read with its bytes, where the files are told
abbrev pub HasBytes : Option Files → Loaded → Type 0
HasBytes files loaded = IsFile files (string_bytes loaded.file.name) loaded.bytes.items

-- the first bytes of a file are the image, whose bytes are their number, rounded up
pub record IsImageOf (loaded : Loaded) (image : machine.Image) : Type 0 where
  pub slot : image.slot ≡ loaded.file.slot
  pub bytes : image.bytes ≡ rounded loaded.file.len
  pub small : loaded.file.len ≤ 2 ^ 64 - 8
  pub rows : HasRows loaded.file.len image loaded.bytes.items

-- the files are these images, in their order
abbrev pub AreImagesOf : List Loaded → List machine.Image → Type 0
AreImagesOf [] [] = ⊤
AreImagesOf [] (image ∷ images) = ⊥
AreImagesOf (loaded ∷ files) [] = ⊥
AreImagesOf (loaded ∷ files) (image ∷ images) = IsImageOf loaded image × AreImagesOf files images

-- these are the sealed images of the files that have rows, with the ids 1, 2, and so on, and the slots of those that have none
pub record AreSealed (files : List Loaded) (storages : List Image) (more : List ℕ) : Type 0 where
  pub laid : List machine.Image
  pub are_images : AreImagesOf files laid
  pub storages_are : map stored storages ≡ with_rows laid
  pub more_are : more ≡ slots_without_rows laid
  pub ids : ids_of storages ≡ map (λ n. n.0) (enumerate_from 1 storages)

-- the storage that a file is, sealed with this id
pub record IsStorage (id : ℕ) (loaded : Loaded) (image : Image) : Type 0 where
  pub is_image : IsImageOf loaded (stored image)
  pub some : 0 < length image.rows
  pub id_is : image.id ≡ id

-- why a file is no storage
abbrev pub IsFileFault : Loaded → OpenFault → Type 0
IsFileFault loaded (faults.Layout name fault) = (name ≡ loaded.file.name) × IsNoImage loaded.file.len fault loaded.bytes.items
IsFileFault loaded faults.NoMemory = ⊤
IsFileFault loaded fault = ⊥

-- the first of files that is no image has this name and this fault
pub record IsFirstBad (files : List Loaded) (name : String Global) (fault : LayoutFault) : Type 0 where
  pub front : List Loaded
  pub loaded : Loaded
  pub rest : List Loaded
  pub parts : files ≡ front ++ loaded ∷ rest
  pub sound : All (λ l. (rows : List Placed) × HasImage l.bytes.items l.file.len rows) front
  pub name_is : name ≡ loaded.file.name
  pub no_image : IsNoImage loaded.file.len fault loaded.bytes.items

-- why files are no storages
abbrev pub IsFilesFault : List Loaded → OpenFault → Type 0
IsFilesFault files (faults.Layout name fault) = IsFirstBad files name fault
IsFilesFault files faults.NoMemory = ⊤
IsFilesFault files fault = ⊥
