-- Images of files, in their order.
use Rattle.std.proofs.Common.{◌≡◌, ℕ, suc, ◌≤◌, Bool, true, false, nat_lt, List, [], ◌∷◌, length, map, Option, Some, None, refl, sym, ap, ◌∙◌, arith}
use Rattle.std.specs.Prelude.{IsSomeAnd, sum_by}
use Rattle.std.proofs.lemmas.List.Sums.{sum_by-cons}
use Rattle.adb_model.specs.Opened as machine
use Rattle.dir_io.specs.Files.{Files, file_of}
use Rattle.field_codec.specs.declared.fields.FieldStorage.{FieldStorage}
use Rattle.field_codec.specs.Forms.{NamedFile, file_for}
use Rattle.le_fields.specs.Fields.{rounded}
use Rattle.vec_scan.specs.Image.{IsImage, Placed}
use Rattle.snap_write.specs.Snapshot.{AreLaid, HasRows}
use Rattle.snap_write.specs.Written.{has_rows, with_rows}
use Rattle.snap_open.specs.Sizes.{size_of, sizes_in}
use Rattle.snap_open.specs.Steps.{AreImagesIn, IsImageIn}
use Rattle.snap_open.proofs.Rows.{shows_rows}

-- ---- the storages of a manifest, as files of a form

pub laid_in : (files : Files) (name : List ℕ) (storages : List FieldStorage) (laid : List machine.Image) → AreLaid files name storages laid → AreImagesIn files (map (file_for name) storages) laid
laid_in files name [] [] are = tt
laid_in files name [] (image ∷ laid) are = absurd are
laid_in files name (s ∷ storages) [] are = absurd are
laid_in files name (s ∷ storages) (image ∷ laid) are =
    let is = are.0 in
    (record { slot = is.slot; bytes = is.bytes; rows = is.rows }, laid_in files name storages laid are.1)

pub in_laid : (files : Files) (name : List ℕ) (storages : List FieldStorage) (laid : List machine.Image) → AreImagesIn files (map (file_for name) storages) laid → AreLaid files name storages laid
in_laid files name [] [] are = tt
in_laid files name [] (image ∷ laid) are = absurd are
in_laid files name (s ∷ storages) [] are = absurd are
in_laid files name (s ∷ storages) (image ∷ laid) are =
    let is = are.0 in
    (record { slot = is.slot; bytes = is.bytes; rows = is.rows }, in_laid files name storages laid are.1)

-- ---- how many bytes they take

small : (len : ℕ) → size_of len ≤ rounded len
small len = omega arith

pub sizes_within : (files : Files) (storages : List NamedFile) (laid : List machine.Image) → AreImagesIn files storages laid
    → (sum_by (λ size. size) (sizes_in storages) ≤ sum_by (λ (i : machine.Image). i.bytes) (with_rows laid)) × (length (sizes_in storages) ≡ length (with_rows laid))
sizes_within files [] [] are = (omega arith, refl)
sizes_within files [] (image ∷ laid) are = absurd are
sizes_within files (file ∷ storages) [] are = absurd are
sizes_within files (file ∷ storages) (image ∷ laid) are =
    by (nat_lt 0 file.len) refl (shows_rows file.len image (file_of files file.path) (let is = are.0 in is.rows)) (sizes_within files storages laid are.1)
  where
    by : (b : Bool) → nat_lt 0 file.len ≡ b → has_rows image ≡ nat_lt 0 file.len
        → (sum_by (λ size. size) (sizes_in storages) ≤ sum_by (λ (i : machine.Image). i.bytes) (with_rows laid)) × (length (sizes_in storages) ≡ length (with_rows laid))
        → (sum_by (λ size. size) (sizes_in (file ∷ storages)) ≤ sum_by (λ (i : machine.Image). i.bytes) (with_rows (image ∷ laid))) × (length (sizes_in (file ∷ storages)) ≡ length (with_rows (image ∷ laid)))
    by false none same rest =
        let no : has_rows image ≡ false = same ∙ none in
        rw (none, no) rest
    by true some same rest =
        let yes : has_rows image ≡ true = same ∙ some in
        let first = sum_by-cons (λ (size : ℕ). size) (size_of file.len) (sizes_in storages) in
        let second = sum_by-cons (λ (i : machine.Image). i.bytes) image (with_rows laid) in
        let is = are.0 in
        let bound = small file.len in
        rw (some, yes) (omega (arith, first, second, rest.0, is.bytes, bound), ap suc rest.1)

-- ---- files are one list of images

abbrev pub HaveOneReading : Type 0
HaveOneReading = (bytes : List ℕ) (rows others : List Placed) → IsImage bytes rows → IsImage bytes others → rows ≡ others

module _ (one : HaveOneReading) (files : Files) where
  same_rows : (len : ℕ) (image other : machine.Image) (file : Option (List ℕ)) → IsSomeAnd file (HasRows len image) → IsSomeAnd file (HasRows len other) → image.rows ≡ other.rows
  same_rows len image other None is too = absurd is
  same_rows len image other (Some bytes) is too = is.2 ∙ ap (map (λ (p : Placed). p.row)) (one _ is.0 too.0 is.1.1 too.1.1) ∙ sym too.2

  same_image : (file : NamedFile) (image other : machine.Image) → IsImageIn files file image → IsImageIn files file other → image ≡ other
  same_image file image other is too =
      let slots = is.slot ∙ sym too.slot in
      let bytes = is.bytes ∙ sym too.bytes in
      let rows = same_rows file.len image other (file_of files file.path) is.rows too.rows in
      λ i. record { slot = slots i; rows = rows i; bytes = bytes i }

  pub same_images : (storages : List NamedFile) (laid other : List machine.Image) → AreImagesIn files storages laid → AreImagesIn files storages other → laid ≡ other
  same_images [] [] [] are too = refl
  same_images [] [] (image ∷ other) are too = absurd too
  same_images [] (image ∷ laid) other are too = absurd are
  same_images (file ∷ storages) [] other are too = absurd are
  same_images (file ∷ storages) (image ∷ laid) [] are too = absurd too
  same_images (file ∷ storages) (image ∷ laid) (image2 ∷ other) are too =
      let first = same_image file image image2 are.0 too.0 in
      let rest = same_images storages laid other are.1 too.1 in
      λ i. first i ∷ rest i
