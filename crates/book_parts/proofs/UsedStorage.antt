-- The entry of a slot's storage in use.
use Rattle.std.proofs.Common.{◌≡◌, ◌≢◌, ℕ, List, length, AllPairs, true, eqb, ◌&&◌, Option, Some, None, refl, ap, ◌∙◌, subst, sym}
use Rattle.cell_table.specs.declared.phase.Phase.{Phase}
use Rattle.cell_table.specs.Phases as phases
use Rattle.cell_table.specs.Phases.{has_id, value_of}
use Rattle.cell_table.specs.Cells.{cell_at}
use Rattle.storage_map.specs.declared.entry.Live.{Live}
use Rattle.storage_map.specs.Slots.{live_at}
use Rattle.adb_model.specs.State.{Storage, State}
use Rattle.adb_model.specs.Storages.{live_storage, pin_count}
use Rattle.adb_model.specs.Presence.{is_live}
use Rattle.adb_model.specs.Shrink.{named_in}
use Rattle.adb_model.specs.Sound.{IsSound}
use Rattle.book_parts.specs.Parts.{Parts, Shared}
use Rattle.book_parts.specs.Cells.{IsCellOf, IsImageOf}
use Rattle.book_parts.specs.Storages.{IsLiveOf}
use Rattle.book_parts.specs.Reflects.{Reflects}
use Rattle.book_parts.specs.Shrinks.{IsInUse}
use Rattle.book_parts.proofs.Found.{some_is, found, of_id, one_of_id}
use Rattle.book_parts.proofs.CellOfStorage.{live_with_id, live_cell}
use Rattle.book_parts.proofs.RetiredStorage.{live_form}

module _ (cells : List (Phase Shared)) where
  entry_storage : (named : ℕ) (l : Live) (o : Option Storage) → IsLiveOf cells named (Some l) o
      → (t : Storage) × (o ≡ Some t) × (has_id t.id (cell_at cells l.cell) ≡ true) × (l.alive ≡ named) × (l.total ≡ length t.rows)
  entry_storage named l None is = absurd is
  entry_storage named l (Some t) is = (t, refl, is.0, is.1, is.2)

  no_storage : (named : ℕ) (o : Option Storage) → IsLiveOf cells named None o → o ≡ None
  no_storage named None is = refl
  no_storage named (Some t) is = absurd is

pub none_used : (p : Parts) (m : State) (slot : ℕ) → Reflects p m → live_at p.map slot ≡ None → live_storage m slot ≡ None
none_used p m slot r e =
    no_storage p.cells.cells (named_in m slot) (live_storage m slot)
    (subst (λ o. IsLiveOf p.cells.cells (named_in m slot) o (live_storage m slot)) e (r.slots.lives slot))

pub used_storage : (p : Parts) (m : State) (slot : ℕ) (live : Live) → AllPairs (λ t u. t.id ≢ u.id) m.storages → Reflects p m → live_at p.map slot ≡ Some live
    → (old : Storage) × (live_storage m slot ≡ Some old) × (has_id old.id (cell_at p.cells.cells live.cell) ≡ true)
    × (phases.is_live (cell_at p.cells.cells live.cell) ≡ true) × (live.alive ≡ named_in m slot) × (live.total ≡ length old.rows)
used_storage p m slot live differ r e =
    let f = entry_storage p.cells.cells (named_in m slot) live (live_storage m slot) (subst (λ o. IsLiveOf p.cells.cells (named_in m slot) o (live_storage m slot)) e (r.slots.lives slot)) in
    let o = r.cells.each live.cell f.0.id f.2 in (
      f.0,
      f.1,
      f.2,
      live_cell o.0 (pin_count m f.0.id) (cell_at p.cells.cells live.cell) (live_with_id m slot f.0.id f.0 o.0 differ f.1 o.1 refl) o.2,
      f.3,
      f.4,
    )

-- a storage's live cell has its image
pub live_image : (t : Storage) (count : ℕ) (phase : Phase Shared) (image : Shared) → phases.is_live phase ≡ true → has_id t.id phase ≡ true → IsCellOf t count phase → value_of phase ≡ Some image
    → IsImageOf t image.value
live_image t count phase image live has is e =
    let form = live_form t count phase live has is in
    let same : form.0 ≡ image = some_is (sym (ap value_of form.1) ∙ e) in
    subst (λ (i : Shared). IsImageOf t i.value) same form.2

pub used_image : (p : Parts) (m : State) (slot : ℕ) (live : Live) (image : Shared) (old : Storage) → IsSound m → Reflects p m → IsInUse slot live image p.cells p.map → live_storage m slot ≡ Some old
    → (has_id old.id (cell_at p.cells.cells live.cell) ≡ true) × (phases.is_live (cell_at p.cells.cells live.cell) ≡ true) × IsImageOf old image.value
used_image p m slot live image old h r used e =
    let f = used_storage p m slot live h.ids.differ r used.entry in
    let same : f.0 ≡ old = some_is (sym f.1 ∙ e) in
    let has : has_id old.id (cell_at p.cells.cells live.cell) ≡ true = ap (λ (t : Storage). has_id t.id (cell_at p.cells.cells live.cell)) (sym same) ∙ f.2 in
    let o = r.cells.each live.cell old.id has in
    let of = of_id m old.id o.0 o.1 in
    let one : o.0 ≡ old = one_of_id m h o.0 old of.0 (found (λ (t : Storage). is_live t && eqb t.slot slot) m.storages old e).0 of.1 in
    let fits : IsCellOf old (pin_count m old.id) (cell_at p.cells.cells live.cell) = subst (λ t. IsCellOf t (pin_count m old.id) (cell_at p.cells.cells live.cell)) one o.2 in
    (has, f.3, live_image old (pin_count m old.id) (cell_at p.cells.cells live.cell) image f.3 has fits used.filled)
