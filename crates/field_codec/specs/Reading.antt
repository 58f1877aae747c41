-- Reading a manifest from left to right: the first fault that is met, or what the manifest says.
use Rattle.std.specs.Prelude.{◌≡◌, ℕ, zero, suc, ◌+◌, List, [], ◌∷◌, ◌++◌, length, Bool, Result, Ok, Err, nat_lt, ◌==◌, if◌then◌else◌}
use Rattle.std.specs.List.{list_any}
use Rattle.le_fields.specs.Fields.{number_at}
use Rattle.field_codec.specs.declared.fault.FieldFault.{FieldFault}
use Rattle.field_codec.specs.declared.fault.FieldFault.TheVariants.{Cut, SlotTwice, Storages, Trailing, NoMemory}
use Rattle.field_codec.specs.declared.fields.FieldStorage.{FieldStorage}
use Rattle.field_codec.specs.declared.fields.Fields.{Fields}
use Rattle.field_codec.specs.Manifest.{AreByRisingSlot, Content, content_of}

-- the second step, where the first had no fault
infixl 10 ◌>>=◌
abbrev pub ◌>>=◌ : {A B : Type 0} → Result A FieldFault → (A → Result B FieldFault) → Result B FieldFault
(Ok x) >>= f = f x
(Err e) >>= f = Err e

-- the place behind the field of a width that starts at a place
abbrev pub field_end : List ℕ → ℕ → ℕ → Result ℕ FieldFault
field_end bytes width at = if nat_lt (length bytes) (at + width) then Err (Cut at) else Ok (at + width)

-- the number at a place
abbrev pub number_in : List ℕ → ℕ → Result ℕ FieldFault
number_in bytes at = if nat_lt (length bytes) (at + 8) then Err (Cut at) else Ok (number_at bytes at)

-- the slot at a place, which did not stand before
unfoldable pub slot_in : List ℕ → (ℕ → Bool) → ℕ → Result ℕ FieldFault
slot_in bytes stood at = do
  slot ← number_in bytes at
  if stood slot then Err (SlotTwice slot) else Ok slot

-- the number of a slot's storages, which is one
unfoldable pub one_in : List ℕ → ℕ → ℕ → Result ℕ FieldFault
one_in bytes slot at = do
  count ← number_in bytes at
  if count == 1 then Ok count else Err (Storages slot count)

-- the storage of a slot, from its number of storages on
unfoldable pub storage_in : List ℕ → ℕ → ℕ → Result FieldStorage FieldFault
storage_in bytes slot at = do
  one ← one_in bytes slot at
  id ← number_in bytes (at + 8)
  len ← number_in bytes (at + 16)
  Ok (record { slot = slot; id = id; len = len })

-- a slot is one of these storages'
abbrev pub has_slot : List FieldStorage → ℕ → Bool
has_slot storages slot = list_any (λ s. slot == s.slot) storages

-- the storages of that many slots after those that stood before, and the place behind them
unfoldable pub storages_in : List ℕ → ℕ → List FieldStorage → ℕ → Result (List FieldStorage × ℕ) FieldFault
storages_in bytes zero before at = Ok (before, at)
storages_in bytes (suc n) before at = do
  slot ← slot_in bytes (has_slot before) at
  storage ← storage_in bytes slot (at + 8)
  storages_in bytes n (before ++ storage ∷ []) (at + 32)

-- the place behind that many items
unfoldable pub items_end : (ℕ → Result ℕ FieldFault) → ℕ → ℕ → Result ℕ FieldFault
items_end item zero at = Ok at
items_end item (suc n) at = do
  next ← item at
  items_end item n next

-- the place behind a pair of a number and 32 bytes
abbrev pub pair_end : List ℕ → ℕ → Result ℕ FieldFault
pair_end bytes at = field_end bytes 8 at >>= field_end bytes 32

-- the place behind a count and that many items
unfoldable pub sequence_end : List ℕ → (ℕ → Result ℕ FieldFault) → ℕ → Result ℕ FieldFault
sequence_end bytes item at = do
  count ← number_in bytes at
  items_end item count (at + 8)

-- the place behind a sequence, or this place where the bytes end
abbrev pub sequence_or_end : List ℕ → (ℕ → Result ℕ FieldFault) → ℕ → Result ℕ FieldFault
sequence_or_end bytes item at = if at == length bytes then Ok at else sequence_end bytes item at

-- the slot of the snapshot, and the map's entries as they stand
unfoldable pub manifest_in : List ℕ → Result (ℕ × List FieldStorage) FieldFault
manifest_in bytes = do
  count ← number_in bytes 0
  entries ← storages_in bytes count [] 8
  version ← field_end bytes 8 entries.1
  slot ← number_in bytes version
  opaque ← field_end bytes 104 (version + 8)
  first ← sequence_or_end bytes (field_end bytes 8) opaque
  second ← sequence_or_end bytes (pair_end bytes) first
  if second == length bytes then Ok (slot, entries.0) else Err (Trailing second)

-- the fault is the one that reading gives; want of memory may come in place of any answer
abbrev pub Fails : {Y : Type 0} → FieldFault → Result Y FieldFault → Type 0
Fails NoMemory read = Unit {0}
Fails fault read = read ≡ Err fault

-- the result, seen by a view, is what reading gives
abbrev pub Gives : {X Y : Type 0} → (X → Y) → Result X FieldFault → Result Y FieldFault → Type 0
Gives view (Ok x) read = read ≡ Ok (view x)
Gives view (Err fault) read = Fails fault read

-- reading gives this content: its slot, and its storages as the map's entries by rising slot
abbrev pub Reads : Result (ℕ × List FieldStorage) FieldFault → Content → Type 0
Reads read content = (entries : List FieldStorage) × (read ≡ Ok (content.slot, entries)) × AreByRisingSlot entries content.storages

-- the result is what reading gives
abbrev pub GivesFields : Result Fields FieldFault → Result (ℕ × List FieldStorage) FieldFault → Type 0
GivesFields (Ok fields) read = Reads read (content_of fields)
GivesFields (Err fault) read = Fails fault read
