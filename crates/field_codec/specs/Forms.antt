-- What the files of a directory are as a snapshot, before its storages are looked at.
use Rattle.std.specs.Prelude.{◌≡◌, ℕ, ◌≤◌, ◌==◌, nat_lt, Bool, true, List, [], ◌∷◌, ◌++◌, map, length, codes, Option, Some, None, is_some, option_map, IsSomeAnd, Result, Ok, Err, not, ◌||◌, if◌then◌else◌, find}
use Rattle.std.specs.List.{All}
use Rattle.std.specs.List.Sorted.{IsStrictlyIncreasing}
use Rattle.std.specs.Str.{bytes_eq}
use Rattle.dir_io.specs.Files.{Files, file_of, has_prefix, is_among, IsListing}
use Rattle.field_codec.specs.declared.fault.FieldFault.{FieldFault}
use Rattle.field_codec.specs.declared.fields.FieldStorage.{FieldStorage}
use Rattle.field_codec.specs.Manifest.{Content, IsManifest, slots_of}
use Rattle.field_codec.specs.Reading.{manifest_in}
use Rattle.field_codec.specs.Paths.{prefix_of, version_path, status_path, manifest_path, storage_path, manifest_slots}

-- the text of the version, which a newline may follow
abbrev pub is_version : List ℕ → Bool
is_version bytes = bytes_eq bytes (codes "1.2.0") || bytes_eq bytes (codes "1.2.0" ++ (10 ∷ []))

-- the file of a storage: its slot, how many of its bytes are the image, and its name
pub record NamedFile : Type 0 where
  pub slot : ℕ
  pub len : ℕ
  pub path : List ℕ

-- a snapshot's form: its slot, and the files of its storages by rising slot
pub record Found : Type 0 where
  pub slot : ℕ
  pub files : List NamedFile

-- the file of a storage of the manifest
abbrev pub file_for : List ℕ → FieldStorage → NamedFile
file_for name s = record { slot = s.slot; len = s.len; path = storage_path name s.slot s.id }

-- the names of the storages' files
abbrev pub paths_of : List ℕ → List FieldStorage → List (List ℕ)
paths_of name storages = map (λ s. storage_path name s.slot s.id) storages

-- the form of what a manifest says
abbrev pub form_in : List ℕ → Content → Found
form_in name content = record { slot = content.slot; files = map (file_for name) content.storages }

-- the files are by rising slot, and none is above the form's
pub record IsInOrder (form : Found) : Type 0 where
  pub rise : IsStrictlyIncreasing (map (λ file. file.slot) form.files)
  pub upto : All (λ file. file.slot ≤ form.slot) form.files

-- the names that a snapshot's files may have
abbrev pub known_with : List ℕ → ℕ → List (List ℕ) → List (List ℕ)
known_with name slot paths = version_path name ∷ status_path name ∷ manifest_path name slot ∷ paths

abbrev pub known_paths : List ℕ → Content → List (List ℕ)
known_paths name content = known_with name content.slot (paths_of name content.storages)

-- files hold the form of a snapshot with this content: a version, the manifest, a file for each of its storages, none of which is of
-- a later slot, and no other file but the one that is passed over
pub record HoldsForm (files : Files) (name : List ℕ) (content : Content) : Type 0 where
  pub version : IsSomeAnd (file_of files (version_path name)) (λ bytes. is_version bytes ≡ true)
  pub manifest : IsSomeAnd (file_of files (manifest_path name content.slot)) (λ bytes. IsManifest bytes content)
  pub none_above : All (λ s. s.slot ≤ content.slot) content.storages
  pub there : All (λ path. is_some (file_of files path) ≡ true) (paths_of name content.storages)
  pub known : (path : List ℕ) → has_prefix (prefix_of name) path ≡ true → is_some (file_of files path) ≡ true → is_among (known_paths name content) path ≡ true

-- what keeps files from holding a form
pub data Flaw : Type 0 where
  NoVersion : Flaw
  BadVersion : Flaw
  NoManifest : Flaw
  ManyManifests : ℕ → Flaw
  BadManifest : FieldFault → Flaw
  SlotMismatch : ℕ → ℕ → Flaw
  SlotAbove : ℕ → ℕ → Flaw
  NoFile : List ℕ → Flaw
  UnknownFile : List ℕ → Flaw

-- the first of two flaws, where there is one
abbrev pub or_flaw : Option Flaw → Option Flaw → Option Flaw
or_flaw (Some flaw) next = Some flaw
or_flaw None next = next

-- the flaw, where there is one, and else this
abbrev pub unless : {Y : Type 0} → Option Flaw → Y → Result Y Flaw
unless (Some flaw) y = Err flaw
unless None y = Ok y

-- there is one manifest, of this slot
abbrev pub one_slot : List ℕ → Result ℕ Flaw
one_slot [] = Err NoManifest
one_slot (slot ∷ []) = Ok slot
one_slot (slot ∷ next ∷ more) = Err (ManyManifests (length (slot ∷ next ∷ more)))

-- the bytes of a file, and none where there is no such file
abbrev pub bytes_or_none : Option (List ℕ) → List ℕ
bytes_or_none (Some bytes) = bytes
bytes_or_none None = []

abbrev pub bytes_at : Files → List ℕ → List ℕ
bytes_at files path = bytes_or_none (file_of files path)

-- the slot of the one manifest of a snapshot with a version
abbrev pub slot_in : List ℕ → List (List ℕ) → Files → Result ℕ Flaw
slot_in name names files =
    if is_among names (version_path name)
    then (if is_version (bytes_at files (version_path name)) then one_slot (manifest_slots name names) else Err BadVersion)
    else Err NoVersion

-- the manifest's file is named for another slot than the manifest's
abbrev pub mismatch : ℕ → Content → Option Flaw
mismatch slot content = if slot == content.slot then None else Some (SlotMismatch slot content.slot)

-- the least slot of the manifest that is above the snapshot's
abbrev pub above : Content → Option Flaw
above content = option_map (λ slot. SlotAbove slot content.slot) (find (λ slot. nat_lt content.slot slot) (slots_of content.storages))

-- the first of these files that isn't among the names
abbrev pub missing : List (List ℕ) → List (List ℕ) → Option Flaw
missing names paths = option_map NoFile (find (λ path. not (is_among names path)) paths)

-- the first of these names that isn't a known one
abbrev pub unknown : List (List ℕ) → List (List ℕ) → Option Flaw
unknown known names = option_map UnknownFile (find (λ path. not (is_among known path)) names)

-- the first flaw of what a manifest says, which is named for a slot, beside these names
abbrev pub flaw_in : List ℕ → List (List ℕ) → ℕ → Content → Option Flaw
flaw_in name names slot content =
    or_flaw (mismatch slot content)
    (or_flaw (above content)
    (or_flaw (missing names (paths_of name content.storages)) (unknown (known_paths name content) names)))

-- what bytes are found to be, as a manifest that is named for a slot, beside these names
pub data FindsAt (name : List ℕ) (names : List (List ℕ)) (slot : ℕ) (bytes : List ℕ) (found : Result Found Flaw) : Type 0 where
  unread : (fault : FieldFault) → manifest_in bytes ≡ Err fault → found ≡ Err (BadManifest fault) → FindsAt name names slot bytes found
  read : (content : Content) → IsManifest bytes content → found ≡ unless (flaw_in name names slot content) (form_in name content) → FindsAt name names slot bytes found

-- the same, where a slot was found
abbrev pub FindsThen : List ℕ → List (List ℕ) → Files → Result ℕ Flaw → Result Found Flaw → Type 0
FindsThen name names files (Err flaw) found = found ≡ Err flaw
FindsThen name names files (Ok slot) found = FindsAt name names slot (bytes_at files (manifest_path name slot)) found

-- the first flaw of files as a snapshot, or its form
pub record Finds (files : Files) (name : List ℕ) (found : Result Found Flaw) : Type 0 where
  pub names : List (List ℕ)
  pub listed : IsListing (Some files) (prefix_of name) names
  pub finds : FindsThen name names files (slot_in name names files) found
