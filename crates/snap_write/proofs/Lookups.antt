-- The files of a snapshot by their names.
use Rattle.std.proofs.Common.{◌≡◌, ℕ, ◌<◌, ◌^◌, true, false, List, [], ◌∷◌, map, take, get_or, length, length-take-le, Some, None, All, AllPairs, refl, sym, ap, subst, ◌∙◌, arith}
use Rattle.std.specs.Prelude.{codes}
use Rattle.std.specs.Option.{option_or}
use Rattle.std.specs.List.Sorted.{IsStrictlyIncreasing}
use Rattle.std.proofs.lemmas.Grind.{common_steps}
use Rattle.std.proofs.lemmas.List.{get_or-map, length-map}
use Rattle.std.proofs.lemmas.List.Kept.{AllPairs-from_increasing}
use Rattle.std.proofs.lemmas.List.Elements.{All-cons, All-head, All-nil, All-tail}
use Rattle.dir_io.specs.Files.{Files, file_of, has_prefix}
use Rattle.field_codec.specs.Manifest.{Content}
use Rattle.field_codec.specs.Paths.{manifest_path, storage_path, version_path}
use Rattle.field_codec.specs.Written.{written_manifest}
use Rattle.vec_scan.specs.Image.{Image}
use Rattle.vec_scan.specs.Seal.{rows_in}
use Rattle.vec_scan.specs.Written.{written_image}
use Rattle.snap_write.specs.Written.{IsFit, body_of, content_of, files_of, manifest_file, storage_file, version_file}
use Rattle.snap_write.proofs.Facts.{bytes_differ, bytes_eq-self, pairs_head, pairs_tail}
use Rattle.snap_write.proofs.Steps.{AllUnder, Apart, apart_one, file_of-append}

-- the slot of the first image is below that of the second
abbrev pub SlotBelow : Image → Image → Type 0
SlotBelow a b = a.slot < b.slot

-- that the names of a snapshot's files differ
abbrev pub SlotsApart : Type 0
SlotsApart = (name : List ℕ) (slot id other other_id : ℕ) → slot < 2 ^ 64 → other < 2 ^ 64 → storage_path name slot id ≡ storage_path name other other_id → slot ≡ other

abbrev pub ManifestApart : Type 0
ManifestApart = (name : List ℕ) (slot other id : ℕ) → manifest_path name slot ≡ storage_path name other id → ⊥

abbrev pub VersionApart : Type 0
VersionApart = (name : List ℕ) (slot id : ℕ) → version_path name ≡ storage_path name slot id → ⊥

abbrev pub VersionAlone : Type 0
VersionAlone = (name : List ℕ) (slot : ℕ) → version_path name ≡ manifest_path name slot → ⊥

-- a path that is no storage's
pub no_storage : (name path : List ℕ) (images : List Image) → ((slot id : ℕ) → path ≡ storage_path name slot id → ⊥) → file_of (map (storage_file name) images) path ≡ None
no_storage name path [] apart = refl
no_storage name path (image ∷ images) apart =
    rw (bytes_differ (storage_path name image.slot image.id) path (λ same. apart image.slot image.id (sym same))) (no_storage name path images apart)

-- the storages of the slots below
pub none_below : SlotsApart → (name : List ℕ) (images : List Image) (slot id : ℕ) → slot < 2 ^ 64 → All IsFit images → All (λ image. image.slot < slot) images → file_of (map (storage_file name) images) (storage_path name slot id) ≡ None
none_below apart name [] slot id small fit below = refl
none_below apart name (image ∷ images) slot id small fit below =
    let lower = All-head (λ (x : Image). x.slot < slot) image images below in
    let fits = All-head IsFit image images fit in
    let differ = bytes_differ (storage_path name image.slot image.id) (storage_path name slot id) (λ same. let e = apart name image.slot image.id slot id fits.slot small same in omega (arith, lower, e)) in
    rw differ (none_below apart name images slot id small (All-tail IsFit image images fit) (All-tail (λ (x : Image). x.slot < slot) image images below))

pub storage_apart : SlotsApart → (name : List ℕ) (images : List Image) (image : Image) → All IsFit images → IsFit image → All (λ x. x.slot < image.slot) images → Apart (map (storage_file name) images) (storage_file name image ∷ [])
storage_apart apart name images image fit fits below =
    apart_one (map (storage_file name) images) (storage_path name image.slot image.id) (written_image (rows_in image)) (none_below apart name images image.slot image.id fits.slot fit below)

pub manifest_apart : ManifestApart → (name : List ℕ) (images : List Image) (content : Content) → Apart (map (storage_file name) images) (manifest_file name content ∷ [])
manifest_apart apart name images content =
    apart_one (map (storage_file name) images) (manifest_path name content.slot) (written_manifest content) (no_storage name (manifest_path name content.slot) images (apart name content.slot))

pub version_no_body : VersionApart → VersionAlone → (name : List ℕ) (slot : ℕ) (images : List Image) → file_of (body_of name slot images) (version_path name) ≡ None
version_no_body apart alone name slot images =
    file_of-append (map (storage_file name) images) (manifest_file name (content_of slot images) ∷ []) (version_path name)
    ∙ ap (λ o. option_or o (file_of (manifest_file name (content_of slot images) ∷ []) (version_path name))) (no_storage name (version_path name) images (apart name))
    ∙ (rw (bytes_differ (manifest_path name slot) (version_path name) (λ same. alone name slot (sym same))) refl)

pub version_apart : VersionApart → VersionAlone → (name : List ℕ) (slot : ℕ) (images : List Image) → Apart (body_of name slot images) (version_file name ∷ [])
version_apart apart alone name slot images = apart_one (body_of name slot images) (version_path name) (codes "1.2.0") (version_no_body apart alone name slot images)

-- and no part of the body has the version's name
pub body_apart : VersionApart → VersionAlone → (name : List ℕ) (slot : ℕ) (images : List Image) (path bytes : List ℕ) → file_of (body_of name slot images) path ≡ Some bytes → file_of (version_file name ∷ []) path ≡ None
body_apart apart alone name slot images path bytes is =
    rw (bytes_differ (version_path name) path (λ same. let some : None ≡ Some bytes = sym (version_no_body apart alone name slot images) ∙ ap (file_of (body_of name slot images)) same ∙ is in absurd cc)) refl

-- ---- each file is found

module _ (slots : SlotsApart) (manifests : ManifestApart) (versions : VersionApart) (alone : VersionAlone) (name : List ℕ) (slot : ℕ) (images : List Image) where
  -- what stands in the body stands in all
  in_all : (path bytes : List ℕ) → file_of (body_of name slot images) path ≡ Some bytes → file_of (files_of name slot images) path ≡ Some bytes
  in_all path bytes is = file_of-append (body_of name slot images) (version_file name ∷ []) path ∙ ap (λ o. option_or o (file_of (version_file name ∷ []) path)) is

  pub version_there : file_of (files_of name slot images) (version_path name) ≡ Some (codes "1.2.0")
  version_there =
      file_of-append (body_of name slot images) (version_file name ∷ []) (version_path name)
      ∙ ap (λ o. option_or o (file_of (version_file name ∷ []) (version_path name))) (version_no_body versions alone name slot images)
      ∙ (rw (bytes_eq-self (version_path name)) refl)

  pub manifest_there : file_of (files_of name slot images) (manifest_path name slot) ≡ Some (written_manifest (content_of slot images))
  manifest_there =
      in_all (manifest_path name slot) (written_manifest (content_of slot images))
      (file_of-append (map (storage_file name) images) (manifest_file name (content_of slot images) ∷ []) (manifest_path name slot)
      ∙ ap (λ o. option_or o (file_of (manifest_file name (content_of slot images) ∷ []) (manifest_path name slot))) (no_storage name (manifest_path name slot) images (manifests name slot))
      ∙ (rw (bytes_eq-self (manifest_path name slot)) refl))

  -- an image's file
  abbrev HasFile : Files → Image → Type 0
  HasFile files image = file_of files (storage_path name image.slot image.id) ≡ Some (written_image (rows_in image))

  each_there : (some : List Image) → AllPairs SlotBelow some → All IsFit some → All (HasFile (map (storage_file name) some)) some
  each_there [] below fit = All-nil (HasFile [])
  each_there (image ∷ rest) below fit =
      All-cons (HasFile (map (storage_file name) (image ∷ rest))) image rest (rw (bytes_eq-self (storage_path name image.slot image.id)) refl)
      (later (each_there rest (pairs_tail SlotBelow image rest below) (All-tail IsFit image rest fit)))
    where
      later : All (HasFile (map (storage_file name) rest)) rest → All (HasFile (map (storage_file name) (image ∷ rest))) rest
      later found i d lt =
          let x = get_or rest i d in
          let under = pairs_head SlotBelow image rest below i d lt in
          let first = All-head IsFit image rest fit in
          let fits = All-tail IsFit image rest fit i d lt in
          let differ = bytes_differ (storage_path name image.slot image.id) (storage_path name x.slot x.id) (λ same. let e = slots name image.slot image.id x.slot x.id first.slot fits.slot same in omega (arith, under, e)) in
          rw differ (found i d lt)

  -- in all of the snapshot's files
  pub storages_there : AllPairs SlotBelow images → All IsFit images → All (HasFile (files_of name slot images)) images
  storages_there below fit = λ i d lt.
      let x = get_or images i d in
      in_all (storage_path name x.slot x.id) (written_image (rows_in x))
      (file_of-append (map (storage_file name) images) (manifest_file name (content_of slot images) ∷ []) (storage_path name x.slot x.id)
      ∙ ap (λ o. option_or o (file_of (manifest_file name (content_of slot images) ∷ []) (storage_path name x.slot x.id))) (each_there images below fit i d lt))

-- ---- images whose slots rise

pub slots_below : (images : List Image) → IsStrictlyIncreasing (map (λ image. image.slot) images) → AllPairs SlotBelow images
slots_below images rise i j d lt within =
    let pairs = AllPairs-from_increasing (map (λ (image : Image). image.slot) images) rise in
    let at_i = get_or-map (λ (image : Image). image.slot) images i d 0 (omega (arith, lt, within)) in
    let at_j = get_or-map (λ (image : Image). image.slot) images j d 0 within in
    let both = pairs i j 0 lt (omega (arith, within, length-map images (λ (image : Image). image.slot))) in
    omega (arith, both, at_i, at_j)

-- the first ones are below the next
pub front_below : (images : List Image) (i : ℕ) (d : Image) → AllPairs SlotBelow images → i < length images → All (λ image. image.slot < (get_or images i d).slot) (take i images)
front_below images i d below within k e lt =
    let len : length (take i images) ≡ i = length-take-le i images (omega (arith, within)) in
    let same : get_or (take i images) k e ≡ get_or images k d = grind (arith, common_steps) in
    let under = below k i d (omega (arith, lt, len)) within in
    subst (λ (x : Image). x.slot < (get_or images i d).slot) (sym same) under

-- ---- the names begin as the snapshot's do

module _ (prefix : List ℕ) (name : List ℕ) (storages : (slot id : ℕ) → has_prefix prefix (storage_path name slot id) ≡ true) (manifests : (slot : ℕ) → has_prefix prefix (manifest_path name slot) ≡ true) (version : has_prefix prefix (version_path name) ≡ true) where
  outside_one : (path q bytes : List ℕ) → has_prefix prefix path ≡ true → has_prefix prefix q ≡ false → file_of ((path, bytes) ∷ []) q ≡ None
  outside_one path q bytes under lacks =
      rw (bytes_differ path q (λ same. let e : has_prefix prefix path ≡ false = ap (has_prefix prefix) same ∙ lacks in absurd (cc (sym under ∙ e)))) refl

  pub all_under : (slot : ℕ) (images : List Image) → AllUnder prefix (files_of name slot images)
  all_under slot images = λ path lacks.
      file_of-append (body_of name slot images) (version_file name ∷ []) path
      ∙ ap (λ o. option_or o (file_of (version_file name ∷ []) path))
      (file_of-append (map (storage_file name) images) (manifest_file name (content_of slot images) ∷ []) path
      ∙ ap (λ o. option_or o (file_of (manifest_file name (content_of slot images) ∷ []) path))
      (no_storage name path images (λ other id same. let e : has_prefix prefix (storage_path name other id) ≡ false = ap (has_prefix prefix) (sym same) ∙ lacks in absurd (cc (sym (storages other id) ∙ e))))
      ∙ outside_one (manifest_path name slot) path (written_manifest (content_of slot images)) (manifests slot) lacks)
      ∙ outside_one (version_path name) path (codes "1.2.0") version lacks
