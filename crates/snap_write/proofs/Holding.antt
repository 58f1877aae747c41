-- Files among which a snapshot's were put hold the snapshot.
use Rattle.std.proofs.Common.{◌≡◌, ℕ, ◌≤◌, Bool, true, false, cond, ◌||◌, ◌⊎◌, List, [], ◌∷◌, ◌++◌, length, map, take, get_or, Option, Some, None, is_some, Result, Ok, Err, All, AllPairs, refl, sym, ap, subst, ◌∙◌, inl, inr, arith}
use Rattle.std.specs.Prelude.{codes, IfSome, IsSomeAnd, OnOk, sum_by}
use Rattle.std.specs.List.{AllByRecursion}
use Rattle.std.specs.Option.{option_or}
use Rattle.std.specs.Str.{bytes_eq}
use Rattle.std.proofs.Math.Seq.{take-length}
use Rattle.std.proofs.lemmas.List.Elements.{All-head, All-map, All-tail, All-weaker}
use Rattle.adb_model.specs.Account.{size}
use Rattle.adb_model.specs.State.{Row}
use Rattle.adb_model.specs.Storages.{bytes_of}
use Rattle.dir_io.specs.Files.{Files, file_of, has_prefix, is_among}
use Rattle.field_codec.specs.declared.fields.FieldStorage.{FieldStorage}
use Rattle.field_codec.specs.Forms.{HoldsForm, is_version, known_paths, paths_of}
use Rattle.field_codec.specs.Manifest.{IsManifest}
use Rattle.field_codec.specs.Paths.{manifest_path, prefix_of, status_path, storage_path, version_path}
use Rattle.field_codec.specs.Written.{written_manifest}
use Rattle.vec_scan.specs.Image.{Image, IsImage}
use Rattle.vec_scan.specs.Seal.{rows_in}
use Rattle.vec_scan.specs.Written.{IsWritableRow, written_image, written_rows}
use Rattle.snap_write.specs.Changes.{HasNone, Puts, StillTold}
use Rattle.snap_write.specs.declared.fault.SnapFault.{SnapFault}
use Rattle.snap_write.specs.Snapshot.{AreLaid, HasRows, HoldsSnapshot, IsLaid}
use Rattle.vec_scan.specs.Shown.{shown}
use Rattle.snap_write.specs.Written.{IsFit, IsWrittenManifest, body_of, content_of, files_of, manifest_file, slots_without_rows, storage_file, storage_of, version_file, with_rows}
use Rattle.snap_write.proofs.Facts.{or_either, or_left, or_none, or_right}
use Rattle.snap_write.proofs.Laid.{eights, rounds, rows_back}
use Rattle.snap_write.proofs.Lookups.{ManifestApart, SlotBelow, SlotsApart, VersionAlone, VersionApart, manifest_there, storages_there, version_there}
use Rattle.snap_write.proofs.Steps.{file_of-append}

-- what was written is read as it was
abbrev pub ImagesAreRead : Type 0
ImagesAreRead = (rows : List Row) → AllByRecursion IsWritableRow rows → IsImage (written_image rows) (written_rows 0 rows)

abbrev pub ImagesHaveLength : Type 0
ImagesHaveLength = (rows : List Row) → AllByRecursion IsWritableRow rows → length (written_image rows) ≡ sum_by (λ row. size row.account) rows

-- ---- the names of the files

either_some : (a b : Option (List ℕ)) → is_some (option_or a b) ≡ true → (is_some a || is_some b) ≡ true
either_some None b e = e
either_some (Some x) b e = refl

storage_named : (name : List ℕ) (images : List Image) (path : List ℕ) → is_some (file_of (map (storage_file name) images) path) ≡ true → is_among (paths_of name (map storage_of images)) path ≡ true
storage_named name [] path some = absurd cc
storage_named name (image ∷ images) path some = by (bytes_eq (storage_path name image.slot image.id) path) refl some (storage_named name images path)
  where
    by : (b : Bool) → bytes_eq (storage_path name image.slot image.id) path ≡ b → is_some (cond b (Some (written_image (rows_in image))) (file_of (map (storage_file name) images) path)) ≡ true
        → (is_some (file_of (map (storage_file name) images) path) ≡ true → is_among (paths_of name (map storage_of images)) path ≡ true) → is_among (paths_of name (map storage_of (image ∷ images))) path ≡ true
    by true is s rest = or_left _ _ is
    by false is s rest = or_right _ _ (rest s)

one_named : (a path x : List ℕ) → is_some (file_of ((a, x) ∷ []) path) ≡ true → bytes_eq a path ≡ true
one_named a path x some = by (bytes_eq a path) refl some
  where
    by : (t : Bool) → bytes_eq a path ≡ t → is_some (cond t (Some x) None) ≡ true → bytes_eq a path ≡ true
    by true p s = p
    by false p s = absurd cc

either_file : (xs ys : Files) (path : List ℕ) → is_some (file_of (xs ++ ys) path) ≡ true → (is_some (file_of xs path) ≡ true) ⊎ (is_some (file_of ys path) ≡ true)
either_file xs ys path some =
    or_either (is_some (file_of xs path)) (is_some (file_of ys path)) (either_some (file_of xs path) (file_of ys path) (ap is_some (sym (file_of-append xs ys path)) ∙ some))

named : (name : List ℕ) (slot : ℕ) (images : List Image) (path : List ℕ) → is_some (file_of (files_of name slot images) path) ≡ true → is_among (known_paths name (content_of slot images)) path ≡ true
named name slot images path some = elim (either_file (body_of name slot images) (version_file name ∷ []) path some) [
  | inr version ↦ or_left (bytes_eq (version_path name) path) _ (one_named (version_path name) path (codes "1.2.0") version)
  | inl body ↦ or_right (bytes_eq (version_path name) path) _ (or_right (bytes_eq (status_path name) path) _ (in_body body))
]
  where
    in_body : is_some (file_of (body_of name slot images) path) ≡ true → (bytes_eq (manifest_path name slot) path || is_among (paths_of name (map storage_of images)) path) ≡ true
    in_body body = elim (either_file (map (storage_file name) images) (manifest_file name (content_of slot images) ∷ []) path body) [
      | inl storage ↦ or_right (bytes_eq (manifest_path name slot) path) _ (storage_named name images path storage)
      | inr manifest ↦ or_left (bytes_eq (manifest_path name slot) path) _ (one_named (manifest_path name slot) path (written_manifest (content_of slot images)) manifest)
    ]

-- ---- the images of the files

module _ (read : ImagesAreRead) (long : ImagesHaveLength) (files : Files) (name : List ℕ) where
  -- an image's file
  abbrev pub HasFile : Image → Type 0
  HasFile image = file_of files (storage_path name image.slot image.id) ≡ Some (written_image (rows_in image))

  has_rows : (image : Image) → IsFit image → HasRows (bytes_of (rows_in image)) (shown image) (written_image (rows_in image))
  has_rows image fit =
      let rows = rows_in image in
      let len : bytes_of rows ≡ length (written_image rows) = sym (long rows fit.rows) in
      let whole : take (bytes_of rows) (written_image rows) ≡ written_image rows = ap (λ (n : ℕ). take n (written_image rows)) len ∙ take-length (written_image rows) in (
        written_rows 0 rows,
        (omega (arith, len), subst (λ (bytes : List ℕ). IsImage bytes (written_rows 0 rows)) (sym whole) (read rows fit.rows)),
        sym (rows_back 0 rows),
      )

  is_laid : (image : Image) → IsFit image → HasFile image → IsLaid files name (storage_of image) (shown image)
  is_laid image fit there = record {
    slot = refl;
    bytes = sym (rounds (bytes_of (rows_in image)) (eights (rows_in image)));
    rows = subst (λ (o : Option (List ℕ)). IsSomeAnd o (HasRows (bytes_of (rows_in image)) (shown image))) (sym there) (has_rows image fit);
  }

  pub are_laid : (images : List Image) → All IsFit images → All HasFile images → AreLaid files name (map storage_of images) (map shown images)
  are_laid [] fit there = tt
  are_laid (image ∷ images) fit there =
      (is_laid image (All-head IsFit image images fit) (All-head HasFile image images there), are_laid images (All-tail IsFit image images fit) (All-tail HasFile image images there))

-- ---- the snapshot

module _ (slots : SlotsApart) (manifests : ManifestApart) (versions : VersionApart) (alone : VersionAlone) (read : ImagesAreRead) (long : ImagesHaveLength)
    (name : List ℕ) (slot : ℕ) (images : List Image) (below : AllPairs SlotBelow images) (fit : All IsFit images) (upto : All (λ image. image.slot ≤ slot) images) (manifest : IsWrittenManifest (content_of slot images))
    (old new : Files) (none : HasNone (prefix_of name) old) (puts : (path : List ℕ) → file_of new path ≡ option_or (file_of (files_of name slot images) path) (file_of old path)) where
  found : (path bytes : List ℕ) → file_of (files_of name slot images) path ≡ Some bytes → file_of new path ≡ Some bytes
  found path bytes is = puts path ∙ ap (λ o. option_or o (file_of old path)) is

  only : (path : List ℕ) → has_prefix (prefix_of name) path ≡ true → file_of new path ≡ file_of (files_of name slot images) path
  only path under = puts path ∙ ap (option_or (file_of (files_of name slot images) path)) (none path under) ∙ or_none (file_of (files_of name slot images) path)

  files_there : All (HasFile read long new name) images
  files_there = λ i d lt.
      let x = get_or images i d in
      found (storage_path name x.slot x.id) (written_image (rows_in x)) (storages_there slots manifests versions alone name slot images below fit i d lt)

  some_there : (x : Image) → HasFile read long new name x → is_some (file_of new (storage_path name x.slot x.id)) ≡ true
  some_there x is = ap is_some is

  pub form : HoldsForm new name (content_of slot images)
  form = record {
    version = subst (λ (o : Option (List ℕ)). IsSomeAnd o (λ bytes. is_version bytes ≡ true)) (sym (found (version_path name) (codes "1.2.0") (version_there slots manifests versions alone name slot images))) refl;
    manifest = subst (λ (o : Option (List ℕ)). IsSomeAnd o (λ bytes. IsManifest bytes (content_of slot images)))
        (sym (found (manifest_path name slot) (written_manifest (content_of slot images)) (manifest_there slots manifests versions alone name slot images))) manifest;
    none_above = All-map (λ (s : FieldStorage). s.slot ≤ slot) storage_of images upto;
    there = All-map (λ path. is_some (file_of new path) ≡ true) (λ (s : FieldStorage). storage_path name s.slot s.id) (map storage_of images)
        (All-map (λ (s : FieldStorage). is_some (file_of new (storage_path name s.slot s.id)) ≡ true) storage_of images
        (All-weaker (HasFile read long new name) (λ (x : Image). is_some (file_of new (storage_path name x.slot x.id)) ≡ true) some_there images files_there));
    known = λ path under some. named name slot images path (ap is_some (sym (only path under)) ∙ some);
  }

  pub holds : HoldsSnapshot new name slot (with_rows (map shown images)) (slots_without_rows (map shown images))
  holds = record {
    content = content_of slot images;
    form = form;
    slot_is = refl;
    laid = map shown images;
    are_laid = are_laid read long new name images fit files_there;
    images_are = refl;
    more_are = refl;
  }

-- the same of an answer, over files that are told or not
module _ (slots : SlotsApart) (manifests : ManifestApart) (versions : VersionApart) (alone : VersionAlone) (read : ImagesAreRead) (long : ImagesHaveLength)
    (name : List ℕ) (slot : ℕ) (images : List Image) (below : AllPairs SlotBelow images) (upto : All (λ image. image.slot ≤ slot) images) where
  abbrev pub Holds : Files → Type 0
  Holds told = HoldsSnapshot told name slot (with_rows (map shown images)) (slots_without_rows (map shown images))

  pub answer_holds : (r : Result (Unit {0}) SnapFault) (f g : Option Files) → OnOk r (Puts (files_of name slot images) f g) → OnOk r (All IsFit images) → OnOk r (IsWrittenManifest (content_of slot images)) → IfSome f (HasNone (prefix_of name))
      → OnOk r (StillTold f g Holds)
  answer_holds (Err fault) f g puts fit manifest none = tt
  answer_holds (Ok x) None g puts fit manifest none = tt
  answer_holds (Ok x) (Some old) None puts fit manifest none = absurd puts
  answer_holds (Ok x) (Some old) (Some new) puts fit manifest none = holds slots manifests versions alone read long name slot images below fit upto manifest old new none puts
