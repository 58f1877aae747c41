-- What contracts see of the slots of one key, and their edits.
use Rattle.std.specs.Prelude.{ℕ, ◌<◌, ◌==◌, nat_lt, not, if◌then◌else◌, List, ◌∷◌, ◌++◌, Option, filter, find, map, AllPairs}
use Rattle.slot_list.specs.declared.Place.{Place}
use Rattle.slot_list.specs.declared.Version.{Version}

-- versions and held slots, both by rising slot, and how many more slots can be held without taking memory
pub record KeySlots : Type 0 where
  pub versions : List Version
  pub held : List ℕ
  pub spare : ℕ

-- each version is of a lower slot than all later ones
abbrev pub VersionsRise : List Version → Type 0
VersionsRise versions = AllPairs (λ v w. v.slot < w.slot) versions

-- the version of a slot
abbrev pub at : ℕ → List Version → Option Version
at slot versions = find (λ v. v.slot == slot) versions

-- with a version at its place, in place of one of its slot
abbrev pub put : Version → List Version → List Version
put version versions = filter (λ v. nat_lt v.slot version.slot) versions ++ version ∷ filter (λ v. nat_lt version.slot v.slot) versions

-- without the version of a slot
abbrev pub without : ℕ → List Version → List Version
without slot versions = filter (λ v. not (v.slot == slot)) versions

-- with the version of a slot found at another place
abbrev pub rehomed : ℕ → Place → List Version → List Version
rehomed slot place versions = map {A = Version} {B = Version} (λ v. if v.slot == slot then record v { place = place } else v) versions

-- with a slot at its place among rising ones
abbrev pub with_slot : ℕ → List ℕ → List ℕ
with_slot slot slots = filter (λ s. nat_lt s slot) slots ++ slot ∷ filter (λ s. nat_lt slot s) slots

-- without a slot
abbrev pub without_slot : ℕ → List ℕ → List ℕ
without_slot slot slots = filter (λ s. not (s == slot)) slots
