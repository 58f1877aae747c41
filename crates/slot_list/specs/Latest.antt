-- Which version a view takes.
use Rattle.std.specs.Prelude.{◌≡◌, ℕ, ◌<◌, nat_le, ◌&&◌, ◌||◌, Bool, true, List, Option, Some, None}
use Rattle.view_sets.specs.Slots.{among}
use Rattle.slot_list.specs.declared.Version.{Version}
use Rattle.slot_list.specs.Versions.{at}

-- the slot is an ancestor, or a root that is not above the view's greatest
abbrev pub sees : List ℕ → List ℕ → ℕ → ℕ → Bool
sees ancestors roots max_root slot = among slot ancestors || (among slot roots && nat_le slot max_root)

-- the version is the one of the greatest slot that passes and has a version
abbrev pub IsLatest : (ℕ → Bool) → List Version → Option Version → Type 0
IsLatest passes versions None = (s : ℕ) → passes s ≡ true → at s versions ≡ None
IsLatest passes versions (Some v) = (at v.slot versions ≡ Some v) × (passes v.slot ≡ true) × ((s : ℕ) → v.slot < s → passes s ≡ true → at s versions ≡ None)
