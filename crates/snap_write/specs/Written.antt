-- The files of a snapshot as they are written.
use Rattle.std.specs.Prelude.{ℕ, ◌<◌, ◌^◌, nat_lt, List, [], ◌∷◌, ◌++◌, map, filter, length, not, Bool, codes}
use Rattle.std.specs.List.{AllByRecursion}
use Rattle.adb_model.specs.Opened as machine
use Rattle.adb_model.specs.Storages.{bytes_of}
use Rattle.dir_io.specs.Files.{Files}
use Rattle.field_codec.specs.declared.fields.FieldStorage.{FieldStorage}
use Rattle.field_codec.specs.Manifest.{Content, IsManifest}
use Rattle.field_codec.specs.Paths.{manifest_path, storage_path, version_path}
use Rattle.field_codec.specs.Written.{written_manifest}
use Rattle.vec_scan.specs.Image.{Image}
use Rattle.vec_scan.specs.Seal.{rows_in}
use Rattle.vec_scan.specs.Written.{IsWritableRow, written_image}

-- an image's storage in the manifest: the length is that of its rows' records
abbrev pub storage_of : Image → FieldStorage
storage_of image = record { slot = image.slot; id = image.id; len = bytes_of (rows_in image) }

-- what the manifest says
abbrev pub content_of : ℕ → List Image → Content
content_of slot images = record { slot = slot; storages = map storage_of images }

-- the file of an image: its rows' records, written anew in their order
abbrev pub storage_file : List ℕ → Image → List ℕ × List ℕ
storage_file name image = (storage_path name image.slot image.id, written_image (rows_in image))

-- the file of the manifest
abbrev pub manifest_file : List ℕ → Content → List ℕ × List ℕ
manifest_file name content = (manifest_path name content.slot, written_manifest content)

-- what is written of this content is a manifest that says it
abbrev pub IsWrittenManifest : Content → Type 0
IsWrittenManifest content = IsManifest (written_manifest content) content

-- the file of the version
abbrev pub version_file : List ℕ → List ℕ × List ℕ
version_file name = (version_path name, codes "1.2.0")

-- the files of the images, and the manifest's behind them
abbrev pub body_of : List ℕ → ℕ → List Image → Files
body_of name slot images = map (storage_file name) images ++ manifest_file name (content_of slot images) ∷ []

-- all files of a snapshot: the version's behind these
abbrev pub files_of : List ℕ → ℕ → List Image → Files
files_of name slot images = body_of name slot images ++ version_file name ∷ []

-- it has a row
abbrev pub has_rows : machine.Image → Bool
has_rows image = nat_lt 0 (length image.rows)

-- the images that have rows
abbrev pub with_rows : List machine.Image → List machine.Image
with_rows images = filter has_rows images

-- the slots of those that have none
abbrev pub slots_without_rows : List machine.Image → List ℕ
slots_without_rows images = map (λ image. image.slot) (filter (λ image. not (has_rows image)) images)

-- an image whose slot and rows have room in the files
pub record IsFit (image : Image) : Type 0 where
  pub slot : image.slot < 2 ^ 64
  pub rows : AllByRecursion IsWritableRow (rows_in image)
