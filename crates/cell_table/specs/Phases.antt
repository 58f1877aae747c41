-- The phases of a cell, and how calls change them.
use Rattle.std.specs.Prelude.{ℕ, ◌+◌, ◌-◌, ◌==◌, Bool, true, false, if◌then◌else◌, Option, Some, None}
use Rattle.cell_table.specs.declared.phase.Phase.{Phase}
use Rattle.cell_table.specs.declared.phase.Phase.TheVariants.{Free, Filling, Live, Retired}

module _ {T : Type 0} where
  abbrev pub id_of : Phase T → ℕ
  id_of Free = 0
  id_of (Filling id bytes) = id
  id_of (Live id bytes pins value) = id
  id_of (Retired id bytes pins value) = id

  -- the id of a cell in use
  abbrev pub cell_id : Phase T → Option ℕ
  cell_id Free = None
  cell_id (Filling id bytes) = Some id
  cell_id (Live id bytes pins value) = Some id
  cell_id (Retired id bytes pins value) = Some id

  abbrev pub bytes_of : Phase T → ℕ
  bytes_of Free = 0
  bytes_of (Filling id bytes) = bytes
  bytes_of (Live id bytes pins value) = bytes
  bytes_of (Retired id bytes pins value) = bytes

  abbrev pub pins_of : Phase T → ℕ
  pins_of Free = 0
  pins_of (Filling id bytes) = 0
  pins_of (Live id bytes pins value) = pins
  pins_of (Retired id bytes pins value) = pins

  abbrev pub value_of : Phase T → Option T
  value_of Free = None
  value_of (Filling id bytes) = None
  value_of (Live id bytes pins value) = Some value
  value_of (Retired id bytes pins value) = Some value

  abbrev pub is_free : Phase T → Bool
  is_free Free = true
  is_free (Filling id bytes) = false
  is_free (Live id bytes pins value) = false
  is_free (Retired id bytes pins value) = false

  abbrev pub is_filling : Phase T → Bool
  is_filling Free = false
  is_filling (Filling id bytes) = true
  is_filling (Live id bytes pins value) = false
  is_filling (Retired id bytes pins value) = false

  abbrev pub is_live : Phase T → Bool
  is_live Free = false
  is_live (Filling id bytes) = false
  is_live (Live id bytes pins value) = true
  is_live (Retired id bytes pins value) = false

  abbrev pub is_retired : Phase T → Bool
  is_retired Free = false
  is_retired (Filling id bytes) = false
  is_retired (Live id bytes pins value) = false
  is_retired (Retired id bytes pins value) = true

  -- retired without a pin
  abbrev pub is_idle : Phase T → Bool
  is_idle Free = false
  is_idle (Filling id bytes) = false
  is_idle (Live id bytes pins value) = false
  is_idle (Retired id bytes pins value) = pins == 0

  -- in use under this id
  abbrev pub has_id : ℕ → Phase T → Bool
  has_id n Free = false
  has_id n (Filling id bytes) = id == n
  has_id n (Live id bytes pins value) = id == n
  has_id n (Retired id bytes pins value) = id == n

  -- a filling cell with its value
  abbrev pub published : T → Phase T → Phase T
  published value Free = Free
  published value (Filling id bytes) = Live id bytes 0 value
  published value (Live id bytes pins old) = Live id bytes pins old
  published value (Retired id bytes pins old) = Retired id bytes pins old

  -- a live cell that can be pinned no longer
  abbrev pub retired : Phase T → Phase T
  retired Free = Free
  retired (Filling id bytes) = Filling id bytes
  retired (Live id bytes pins value) = Retired id bytes pins value
  retired (Retired id bytes pins value) = Retired id bytes pins value

  -- a live cell with one pin more
  abbrev pub pinned : Phase T → Phase T
  pinned Free = Free
  pinned (Filling id bytes) = Filling id bytes
  pinned (Live id bytes pins value) = Live id bytes (pins + 1) value
  pinned (Retired id bytes pins value) = Retired id bytes pins value

  -- one pin less
  abbrev pub unpinned : Phase T → Phase T
  unpinned Free = Free
  unpinned (Filling id bytes) = Filling id bytes
  unpinned (Live id bytes pins value) = Live id bytes (pins - 1) value
  unpinned (Retired id bytes pins value) = Retired id bytes (pins - 1) value

  -- a retired cell without a pin is freed
  abbrev pub recycled : Phase T → Phase T
  recycled phase = if is_idle phase then Free else phase
