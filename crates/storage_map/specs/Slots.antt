-- What contracts see of a storage map: by rising slot, the storages of each that has some.
use Rattle.std.specs.Prelude.{◌≡◌, ℕ, ◌+◌, ◌-◌, ◌≤◌, ◌<◌, ◌==◌, ◌||◌, Bool, if◌then◌else◌, List, Option, Some, None, IsSome, IsSomeAnd, is_some, option_map, option_and_then, sum_by}
use Rattle.std.specs.Map.{lookup, values_of}
use Rattle.std.specs.Option.{option_map_or}
use Rattle.storage_map.specs.declared.entry.Live.{Live}
use Rattle.storage_map.specs.declared.entry.Begun.{Begun}
use Rattle.storage_map.specs.declared.entry.Entry.{Entry}

-- a slot's entry has a storage
abbrev pub is_filled : Entry → Bool
is_filled e = is_some e.begun || is_some e.live

-- slots with their storages
abbrev pub Slots : Type 0
Slots = List (ℕ × Entry)

-- a slot has storages
abbrev pub HasEntry : Slots → ℕ → Type 0
HasEntry slots slot = IsSome (lookup (λ s. s == slot) slots)

-- the storage of a slot that is in use
abbrev pub live_at : Slots → ℕ → Option Live
live_at slots slot = option_and_then (λ e. e.live) (lookup (λ s. s == slot) slots)

-- the storage of a slot that is being filled
abbrev pub begun_at : Slots → ℕ → Option Begun
begun_at slots slot = option_and_then (λ e. e.begun) (lookup (λ s. s == slot) slots)

-- the rows of a storage that are alive, and all its rows
abbrev pub alive_in : Option Live → ℕ
alive_in live = option_map_or (λ l. l.alive) live 0

abbrev pub total_in : Option Live → ℕ
total_in live = option_map_or (λ l. l.total) live 0

-- these over all storages in use
abbrev pub alive_sum : Slots → ℕ
alive_sum slots = sum_by (λ e. alive_in e.live) (values_of slots)

abbrev pub total_sum : Slots → ℕ
total_sum slots = sum_by (λ e. total_in e.live) (values_of slots)

-- a storage that is being filled with so many rows
abbrev pub begun_with : ℕ → ℕ → Begun
begun_with cell rows = record { cell = cell; rows = rows }

-- a storage that was filled, in use: the number of rows alive stays, or is that of its rows where none was in use
abbrev pub published : Option Live → Option Begun → Option Live
published live begun =
    option_map (λ b. record { cell = b.cell; alive = option_map_or (λ l. l.alive) live b.rows; total = b.rows }) begun

-- one row less is alive
abbrev pub one_less : Live → Live
one_less live = record live { alive = live.alive - 1 }

-- new has these storages in the slot, and in every other what old has; the sums are those of old but for the slot
pub record Becomes (old new : Slots) (slot : ℕ) (live : Option Live) (begun : Option Begun) : Type 0 where
  pub lives : (q : ℕ) → live_at new q ≡ (if slot == q then live else live_at old q)
  pub begins : (q : ℕ) → begun_at new q ≡ (if slot == q then begun else begun_at old q)
  pub alive : alive_sum new + alive_in (live_at old slot) ≡ alive_sum old + alive_in live
  pub total : total_sum new + total_in (live_at old slot) ≡ total_sum old + total_in live

-- the least slot from one on that has a storage in use
abbrev pub IsNextLive : Slots → ℕ → Option ℕ → Type 0
IsNextLive slots from None = (q : ℕ) → from ≤ q → live_at slots q ≡ None
IsNextLive slots from (Some slot) = (from ≤ slot) × IsSome (live_at slots slot) × ((q : ℕ) → from ≤ q → q < slot → live_at slots q ≡ None)

-- a slot whose storage in use has no row alive, or none where each storage in use has one
abbrev pub TellsEmptied : Slots → Option ℕ → Type 0
TellsEmptied slots None = (q : ℕ) (live : Live) → live_at slots q ≡ Some live → 0 < live.alive
TellsEmptied slots (Some slot) = IsSomeAnd (live_at slots slot) (λ live. live.alive ≡ 0)
