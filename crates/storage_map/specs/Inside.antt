-- What holds of the fields of a map.
use Rattle.std.specs.Prelude.{◌≡◌, ℕ, ◌+◌, ◌≤◌, ◌==◌, ◌%◌, ◌^◌, Bool, true, false, if◌then◌else◌, List, length, Option, All, count_by}
use Rattle.std.specs.Map.{values_of}
use Rattle.std.specs.Option.{option_map_or}
use Rattle.storage_map.specs.declared.entry.Live.{Live}
use Rattle.storage_map.specs.declared.entry.Entry.{Entry}
use Rattle.storage_map.specs.Slots.{Slots, live_at, is_filled, alive_sum, total_sum, Becomes}

-- each slot that is kept has a storage
abbrev pub AreFilled : Slots → Type 0
AreFilled slots = All (λ e. is_filled e ≡ true) (values_of slots)

-- each slot that is kept has a storage, and the numbers are the sums over the storages in use, modulo 2^64
pub record IsCounted (slots : Slots) (alive total : ℕ) : Type 0 where
  pub filled : AreFilled slots
  pub alive_is : alive ≡ alive_sum slots % 2 ^ 64
  pub total_is : total ≡ total_sum slots % 2 ^ 64

-- a storage in use without a row alive
abbrev pub is_emptied : Option Live → Bool
is_emptied live = option_map_or (λ l. l.alive == 0) live false

-- how many slots have one
abbrev pub emptied_count : Slots → ℕ
emptied_count slots = count_by (λ e. is_emptied e.live) (values_of slots)

-- how often a slot stands in a list
abbrev pub times_in : ℕ → List ℕ → ℕ
times_in slot slots = count_by (λ s. s == slot) slots

abbrev pub once_if : Bool → ℕ
once_if b = if b then 1 else 0

-- the list has the slots of these storages, each once, and there is room for the slots of all
pub record AreListed (slots : Slots) (emptied : List ℕ) (room : ℕ) : Type 0 where
  pub each : (q : ℕ) → times_in q emptied ≡ once_if (is_emptied (live_at slots q))
  pub every : length emptied ≡ emptied_count slots
  pub fits : length slots ≤ room

-- new has this entry in the slot, and in every other what old has, with so many slots more at the most
pub record IsChanged (old new : Slots) (slot : ℕ) (entry : Entry) (more : ℕ) : Type 0 where
  pub becomes : Becomes old new slot entry.live entry.begun
  pub emptied : emptied_count new + once_if (is_emptied (live_at old slot)) ≡ emptied_count old + once_if (is_emptied entry.live)
  pub few : length new ≤ length old + more
