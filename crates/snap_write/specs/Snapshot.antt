-- Which files hold a snapshot: its form, and the images of its storages.
use Rattle.std.specs.Prelude.{◌≡◌, ℕ, List, [], ◌∷◌, map, IsSomeAnd, ⊤}
use Rattle.le_fields.specs.Fields.{rounded}
use Rattle.adb_model.specs.Opened as machine
use Rattle.dir_io.specs.Files.{Files, file_of}
use Rattle.field_codec.specs.declared.fields.FieldStorage.{FieldStorage}
use Rattle.field_codec.specs.Manifest.{Content}
use Rattle.field_codec.specs.Paths.{storage_path}
use Rattle.field_codec.specs.Forms.{HoldsForm}
use Rattle.vec_scan.specs.Image.{Placed, HasImage}
use Rattle.snap_write.specs.Written.{slots_without_rows, with_rows}

-- the first bytes of a file are an image of this length with these rows
abbrev pub HasRows : ℕ → machine.Image → List ℕ → Type 0
HasRows len image file = (rows : List Placed) × HasImage file len rows × (image.rows ≡ map (λ p. p.row) rows)

-- a storage's file is an image of the storage's slot, whose bytes are its length, rounded up
pub record IsLaid (files : Files) (name : List ℕ) (storage : FieldStorage) (image : machine.Image) : Type 0 where
  pub slot : image.slot ≡ storage.slot
  pub bytes : image.bytes ≡ rounded storage.len
  pub rows : IsSomeAnd (file_of files (storage_path name storage.slot storage.id)) (HasRows storage.len image)

-- the storages' files are these images, in their order
abbrev pub AreLaid : Files → List ℕ → List FieldStorage → List machine.Image → Type 0
AreLaid files name [] [] = ⊤
AreLaid files name [] (image ∷ images) = ⊥
AreLaid files name (storage ∷ storages) [] = ⊥
AreLaid files name (storage ∷ storages) (image ∷ images) = IsLaid files name storage image × AreLaid files name storages images

-- files hold the snapshot of a slot: a form, each storage of which is an image; these are the images that have rows, and the slots
-- of those that have none
pub record HoldsSnapshot (files : Files) (name : List ℕ) (slot : ℕ) (images : List machine.Image) (more : List ℕ) : Type 0 where
  pub content : Content
  pub form : HoldsForm files name content
  pub slot_is : content.slot ≡ slot
  pub laid : List machine.Image
  pub are_laid : AreLaid files name content.storages laid
  pub images_are : images ≡ with_rows laid
  pub more_are : more ≡ slots_without_rows laid
