-- The files of a directory, and what its calls say of them.
use Rattle.std.specs.Prelude.{◌≡◌, ◌≢◌, ℕ, ◌-◌, ◌&&◌, min, Bool, true, nat_eq, List, ◌++◌, length, take, drop, map, Option, Some, None, is_some, IfSome, IsSomeAnd, if◌then◌else◌, ⊤, string_bytes}
use Rattle.std.specs.List.{list_any, starts_with, All}
use Rattle.std.specs.List.Sorted.{IsStrictlySortedBy}
use Rattle.std.specs.Cmp.Lexicographic.{slice_cmp}
use Rattle.std.specs.Ordering.{nat_cmp}
use Rattle.std.specs.Map.{lookup}
use Rattle.std.specs.Str.{bytes_eq}
use Rattle.std.specs.declared.string.String.{String}

-- files by their names; of two with one name the first counts
abbrev pub Files : Type 0
Files = List (List ℕ × List ℕ)

-- the bytes of the file of this name
abbrev pub file_of : Files → List ℕ → Option (List ℕ)
file_of files name = lookup (λ k. bytes_eq k name) files

-- the name begins with these bytes
abbrev pub has_prefix : List ℕ → List ℕ → Bool
has_prefix prefix name = starts_with nat_eq name prefix

-- names as bytes
abbrev pub texts : {A : Type 0} → List (String A) → List (List ℕ)
texts names = map string_bytes names

-- all names begin with the prefix
abbrev pub AllBegin : {A : Type 0} → List ℕ → List (String A) → Type 0
AllBegin prefix names = All (λ name. has_prefix prefix (string_bytes name) ≡ true) names

-- names rise by their bytes, each once
abbrev pub IsRising : List (List ℕ) → Type 0
IsRising names = IsStrictlySortedBy (slice_cmp nat_cmp) names

-- this name is one of the names
abbrev pub is_among : List (List ℕ) → List ℕ → Bool
is_among names name = list_any (λ k. bytes_eq k name) names

-- these are the names of all files whose names have the prefix
abbrev pub AreNames : Files → List ℕ → List (List ℕ) → Type 0
AreNames files prefix names = (name : List ℕ) → is_among names name ≡ (is_some (file_of files name) && has_prefix prefix name)

-- what a listing says: rising names with the prefix, and all of them where the files are told
pub record IsListing (files : Option Files) (prefix : List ℕ) (names : List (List ℕ)) : Type 0 where
  pub rising : IsRising names
  pub prefixed : All (λ name. has_prefix prefix name ≡ true) names
  pub complete : IfSome files (λ told. AreNames told prefix names)

-- these are the bytes of the file of this name, where the files are told
abbrev pub IsFile : Option Files → List ℕ → List ℕ → Type 0
IsFile files name bytes = IfSome files (λ told. file_of told name ≡ Some bytes)

-- so many bytes of a file, from a place on, stand at the front of a piece, as many as the piece and the file allow
pub record IsPiece (bytes : List ℕ) (at count : ℕ) (old new : List ℕ) : Type 0 where
  pub counted : count ≡ min (length old) (length bytes - at)
  pub piece : new ≡ take count (drop at bytes) ++ drop count old

-- the piece is of the file of this name, where the files are told
abbrev pub IsPieceOf : Option Files → List ℕ → ℕ → ℕ → List ℕ → List ℕ → Type 0
IsPieceOf files name at count old new = IfSome files (λ told. IsSomeAnd (file_of told name) (λ bytes. IsPiece bytes at count old new))

-- files that were told are told again, and those of all other names are as they were
abbrev pub LeavesOthers : Option Files → Option Files → List ℕ → Type 0
LeavesOthers None new name = ⊤
LeavesOthers (Some old) None name = ⊥
LeavesOthers (Some old) (Some new) name = (other : List ℕ) → other ≢ name → file_of new other ≡ file_of old other

-- the files with these bytes under this name
abbrev pub IsWith : Files → Files → List ℕ → List ℕ → Type 0
IsWith old new name bytes = (other : List ℕ) → file_of new other ≡ (if bytes_eq name other then Some bytes else file_of old other)
