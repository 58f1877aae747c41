-- Names of the files of a snapshot.
use Rattle.std.specs.Prelude.{ℕ, List, ◌++◌, length, codes, decimal, Option, Some, None, if◌then◌else◌, ◌-◌, drop}
use Rattle.std.specs.Char.{is_ascii_digit}
use Rattle.std.specs.List.{filter_map, suffix_len}
use Rattle.std.specs.Str.{bytes_eq}
use Rattle.text_fields.specs.Numbers.{number_of}

-- what the names of a snapshot's files begin with
unfoldable pub prefix_of : List ℕ → List ℕ
prefix_of name = name ++ codes "/"

-- the file of the version
unfoldable pub version_path : List ℕ → List ℕ
version_path name = name ++ codes "/version"

-- the file that is passed over unread
unfoldable pub status_path : List ℕ → List ℕ
status_path name = name ++ codes "/snapshots/status_cache"

-- the file of the manifest of a snapshot of a slot
unfoldable pub manifest_path : List ℕ → ℕ → List ℕ
manifest_path name slot = name ++ (codes "/snapshots/" ++ (decimal slot ++ (codes "/" ++ decimal slot)))

-- the file of the storage of a slot
unfoldable pub storage_path : List ℕ → ℕ → ℕ → List ℕ
storage_path name slot id = name ++ (codes "/accounts/" ++ (decimal slot ++ (codes "." ++ decimal id)))

-- the decimal digits that a path ends with
abbrev pub last_digits : List ℕ → List ℕ
last_digits path = drop (length path - suffix_len (λ c. is_ascii_digit c) path) path

-- the slot, where a path is that of its manifest
abbrev pub if_manifest : List ℕ → List ℕ → Option ℕ → Option ℕ
if_manifest name path None = None
if_manifest name path (Some slot) = if bytes_eq path (manifest_path name slot) then Some slot else None

-- the slot whose manifest's file a path names, if it names one
unfoldable pub slot_of_path : List ℕ → List ℕ → Option ℕ
slot_of_path name path = if_manifest name path (number_of (last_digits path))

-- the slots of the manifests among names of files
abbrev pub manifest_slots : List ℕ → List (List ℕ) → List ℕ
manifest_slots name names = filter_map (slot_of_path name) names
