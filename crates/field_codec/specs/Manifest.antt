-- Which bytes are the manifest of a snapshot, by concatenation of its parts.
use Rattle.std.specs.Prelude.{◌≡◌, ℕ, ◌*◌, ◌<◌, ◌^◌, ◌⊎◌, List, [], ◌++◌, length, map}
use Rattle.std.specs.List.{AllByRecursion, flat_map}
use Rattle.std.specs.List.Sorted.{IsPermutation, IsStrictlyIncreasing}
use Rattle.le_fields.specs.Fields.{number_bytes}
use Rattle.field_codec.specs.declared.fields.FieldStorage.{FieldStorage}
use Rattle.field_codec.specs.declared.fields.Fields.{Fields}

-- what a manifest says: the slot of its snapshot, and its storages by rising slot
pub record Content : Type 0 where
  pub slot : ℕ
  pub storages : List FieldStorage

-- what fields of the program say
abbrev pub content_of : Fields → Content
content_of fields = record { slot = fields.slot; storages = fields.storages.items }

-- the slots of storages
abbrev pub slots_of : List FieldStorage → List ℕ
slots_of storages = map (λ s. s.slot) storages

-- the four numbers of a slot: itself, the number of its storages, and that storage's id and length
abbrev pub entry_bytes : FieldStorage → List ℕ
entry_bytes s = number_bytes s.slot ++ (number_bytes 1 ++ (number_bytes s.id ++ number_bytes s.len))

-- the map: the number of slots, and the numbers of each one
abbrev pub map_bytes : List FieldStorage → List ℕ
map_bytes entries = number_bytes (length entries) ++ flat_map entry_bytes entries

-- a storage whose numbers have room in an entry
pub record Fits (s : FieldStorage) : Type 0 where
  pub slot : s.slot < 2 ^ 64
  pub id : s.id < 2 ^ 64
  pub len : s.len < 2 ^ 64

-- a count, and that many items of this width
pub record IsSequence (width : ℕ) (bytes : List ℕ) : Type 0 where
  pub count : ℕ
  pub items : List ℕ
  pub count_fits : count < 2 ^ 64
  pub items_len : length items ≡ width * count
  pub parts : bytes ≡ number_bytes count ++ items

-- the bytes are such, or there are none
abbrev pub OrEnds : (List ℕ → Type 0) → List ℕ → Type 0
OrEnds Is bytes = (bytes ≡ []) ⊎ Is bytes

-- a sequence of numbers, and one of pairs of a number and 32 bytes, before which the bytes may end
abbrev pub AreSequences : List ℕ → Type 0
AreSequences bytes = (first second : List ℕ) × (bytes ≡ first ++ second) × IsSequence 8 first × OrEnds (IsSequence 40) second

-- the storages are the map's entries, by rising slot
pub record AreByRisingSlot (entries storages : List FieldStorage) : Type 0 where
  pub same : IsPermutation entries storages
  pub rise : IsStrictlyIncreasing (slots_of storages)

-- the bytes are a manifest with this content; what a reader skips is free, and so is the order of the slots
pub record IsManifest (bytes : List ℕ) (content : Content) : Type 0 where
  pub entries : List FieldStorage
  pub version : List ℕ
  pub opaque : List ℕ
  pub rest : List ℕ
  pub count_fits : length entries < 2 ^ 64
  pub entries_fit : AllByRecursion Fits entries
  pub slot_fits : content.slot < 2 ^ 64
  pub version_len : length version ≡ 8
  pub opaque_len : length opaque ≡ 104
  pub sequences : OrEnds AreSequences rest
  pub parts : bytes ≡ map_bytes entries ++ (version ++ (number_bytes content.slot ++ (opaque ++ rest)))
  pub by_slot : AreByRisingSlot entries content.storages
