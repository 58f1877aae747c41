use Rattle.std.proofs.Common.{◌≢◌, ℕ, ◌<◌, List, [], get_or, length, IsTrue, AllPairs, Option, sym, ap, ◌∙◌, subst, arith}
use Rattle.std.specs.Option.{option_map_or}
use Rattle.std.proofs.lemmas.Bool.{ltb-true}
use Rattle.std.proofs.lemmas.List.{get_or-map, length-map}
use Rattle.vec_scan.specs.Image.{Image}
use Rattle.vec_scan.specs.Seal.{rows_in}
use Rattle.adb_model.specs.Lists.{among}
use Rattle.adb_model.specs.State.{Row, Snap}
use Rattle.adb_model.specs.Storages.{storage_with, pin_count}
use Rattle.adb_model.specs.Laws.{SameRows}
use Rattle.adb_model.specs.Snapping.{snapped}
use Rattle.adb_model.specs.Step.{step}
use Rattle.book_parts.specs.Parts.{Parts}
use Rattle.book_parts.specs.Reflects.{Reflects}
use Rattle.book_parts.specs.Snaps.{ids_of}
use Rattle.book_parts.proofs.Found.{of_id}
use Rattle.book_parts.proofs.Members.{some_among}
use Rattle.book_parts.proofs.SnapImages.{pairs_unmap}
use Rattle.book_parts.proofs.SnapPins.{closes_empty, unpins_reflect}
use Rattle.book_parts.proofs.Unpins.{cell_pinned}
use Rattle.book_parts.proofs.snapping.ended_snap_reflects.Goals as goal

-- the id of an image is among the ids of all
id_among : (images : List Image) (k : ℕ) (d : Image) → k < length images → IsTrue (among (get_or images k d).id (ids_of images))
id_among images k d lt =
    let id = (get_or images k d).id in
    some_among id (ids_of images) (k, omega (arith, lt, length-map images (λ (i : Image). i.id)), get_or-map (λ (i : Image). i.id) images k d id lt)

pub returns-clause-may_unpin : goal.returns-clause-may_unpin
returns-clause-may_unpin c = λ p m job h once r o. record {
  differ = pairs_unmap (λ a b. a ≢ b) (λ (i : Image). i.id) job.storages
      (subst (λ (s : Option Snap). AllPairs (λ a b. a ≢ b) (option_map_or (λ n. n.ids) s [])) o.opened once.snap);
  pinned = λ k d lt.
      let i = get_or job.storages k d in
      let e = o.each k d lt in
      let pinned = c.snaps_stay_open.ensures.pinned m (record { slot = job.slot; ids = ids_of job.storages }) o.opened i.id (id_among job.storages k d lt) in
      let cell = r.cells.every i.id e.0 e.1 in
      (cell.0, cell.1, cell_pinned p m i.id r cell.0 cell.1 (ltb-true 0 (pin_count m i.id) (sym (c.pinned_storages_stand.ensures.counted m i.id) ∙ pinned)) (c.pinned_storages_stand.ensures.filled m h i.id pinned));
}

pub returns-clause-done : goal.returns-clause-done
returns-clause-done c = λ p m job table r o each.
    let ids = ids_of job.storages in
    let is : Reflects p (snapped m job.slot ids) = subst (λ (s : Option Snap). Reflects p (record m { snap = s })) o.opened r in
    let done : Parts = record p { cells = table } in
    closes_empty done m job.slot (unpins_reflect ids p m job.slot table is each)

pub returns-clause-stays : goal.returns-clause-stays
returns-clause-stays c = λ m pass call job h is same o. record {
  opened = same ∙ o.opened;
  each = λ k d lt.
      let n = (step m pass call).0 in
      let i = get_or job.storages k d in
      let e = o.each k d lt in
      let pinned = c.snaps_stay_open.ensures.pinned m (record { slot = job.slot; ids = ids_of job.storages }) o.opened i.id (id_among job.storages k d lt) in
      let stands = c.pinned_storages_stay.ensures.step m h pass is call i.id pinned e.0 e.1 in (
        stands.there,
        ap (storage_with n) (sym (of_id m i.id e.0 e.1).1) ∙ stands.with_id,
        record {
          slot = e.2.slot ∙ sym stands.slot;
          id = e.2.id ∙ sym (of_id n e.0.id stands.there stands.with_id).1;
          rows = subst (λ (rows : List Row). SameRows (rows_in i) rows) (sym stands.rows) e.2.rows;
        },
      );
  rise = o.rise;
  upto = o.upto;
}
