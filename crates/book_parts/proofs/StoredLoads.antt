-- The row of a version that is in a storage.
use Rattle.std.proofs.Common.{◌≡◌, ℕ, Bool, true, false, cond, ◌||◌, List, Some, option_map, refl, ap, ◌∙◌, IsTrue}
use Rattle.std.specs.Option.{option_map_or}
use Rattle.std.proofs.lemmas.Bool.{true≢false}
use Rattle.slot_list.specs.declared.Version.{Version}
use Rattle.slot_list.specs.declared.Place.{Place}
use Rattle.slot_list.specs.declared.Place.TheVariants as places
use Rattle.slot_list.specs.Versions.{at}
use Rattle.accounts_index.specs.Index.{kept}
use Rattle.cell_table.specs.Phases.{is_live}
use Rattle.cell_table.specs.Cells.{cell_at}
use Rattle.adb_model.specs.State.{Storage, State}
use Rattle.adb_model.specs.Presence.{is_cached, is_named, is_present}
use Rattle.adb_model.specs.Storages.{live_storage, pin_count}
use Rattle.adb_model.specs.Sound.{IsSound}
use Rattle.adb_model.specs.Call as machine
use Rattle.adb_model.specs.Callers.{place_of}
use Rattle.book_parts.specs.Parts.{Parts}
use Rattle.book_parts.specs.Storages.{IsPlacedAt}
use Rattle.book_parts.specs.Reflects.{Reflects, indexed, found_of}
use Rattle.book_parts.proofs.CellOfStorage.{live_with_id, live_cell}

module _ (p : Parts) (m : State) (key : List ℕ) (v : Version) (cell offset : ℕ) where
  is_indexed : at v.slot (kept p.index key).versions ≡ Some v → v.place ≡ places.Stored cell offset → indexed p.index v.slot key ≡ Some (v.tomb, places.Stored cell offset)
  is_indexed e f = ap (option_map found_of) e ∙ ap (λ (place : Place). let i : Bool × Place = (v.tomb, place) in Some i) f

  -- its row stands there
  pub placed_there : Reflects p m → at v.slot (kept p.index key).versions ≡ Some v → v.place ≡ places.Stored cell offset → IsPlacedAt m p.cells.cells v.slot key cell offset
  placed_there r e f = r.placed key v.slot v.tomb cell offset (is_indexed e f)

  pub live_there : IsSound m → Reflects p m → IsPlacedAt m p.cells.cells v.slot key cell offset → is_live (cell_at p.cells.cells cell) ≡ true
  live_there sound r at_place =
      let t = at_place.storage in
      let of_cell = r.cells.each cell t.id at_place.there in
      live_cell of_cell.0 (pin_count m t.id) (cell_at p.cells.cells cell) (live_with_id m v.slot t.id t of_cell.0 sound.ids.differ at_place.live of_cell.1 refl) of_cell.2

-- a pair that is present, but not in the cache, is named
pub present_named : (m : State) (s : ℕ) (k : List ℕ) → is_cached m s k ≡ false → IsTrue (is_present m s k) → IsTrue (is_named m s k)
present_named m s k e t = by (is_cached m s k) (is_named m s k) e t
  where
    by : (c n : Bool) → c ≡ false → (c || n) ≡ true → n ≡ true
    by true n e t = absurd (true≢false e)
    by false n e t = t

-- a named pair is found in its slot's storage
pub named_place : (m : State) (s : ℕ) (k : List ℕ) (u : Storage) → IsTrue (is_named m s k) → live_storage m s ≡ Some u → place_of m s k ≡ machine.InStorage u.id
named_place m s k u t e =
    ap (λ b. cond b (option_map_or (λ (u : Storage). machine.InStorage u.id) (live_storage m s) machine.Cached) machine.Cached) t
    ∙ ap (λ o. option_map_or (λ (u : Storage). machine.InStorage u.id) o machine.Cached) e
