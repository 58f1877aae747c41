-- Snapshots and recycling keep a sound state sound.
use Rattle.std.proofs.Common.{ℕ, eqb, leb, Bool, false, not, ◌||◌, IsTrue, map, filter, Contains, Option, Some, None, refl, sym, ap, subst}
use Rattle.std.specs.Option.{option_map_or}
use Rattle.std.specs.Ordering.{nat_cmp}
use Rattle.std.proofs.lemmas.Bool.{true≢false, or_left, or_right, eq-eqb}
use Rattle.adb_model.specs.Lists.{among, rising}
use Rattle.adb_model.specs.State.{Storage, Snap, State}
use Rattle.adb_model.specs.Presence.{is_live}
use Rattle.adb_model.specs.Storages.{is_filling, is_retired, is_pinned, live_storage}
use Rattle.adb_model.specs.Call.{NotSnapping}
use Rattle.adb_model.specs.Snap.{live_upto, live_ids, open_snap, snap_begin_step, snap_end_step, recycle_step}
use Rattle.adb_model.specs.Sound.{IsSound, is_settled}
use Rattle.adb_model.proofs.Members.{any_at, among_from, from_map}
use Rattle.adb_model.proofs.FilterMaps.{from_filter_map}
use Rattle.adb_model.proofs.Outcomes.{through_unless, through_found}
use Rattle.adb_model.proofs.PinsChange.{live_settled}
use Rattle.adb_model.proofs.Ids.{new_filling}
use Rattle.adb_model.proofs.StoragesLeave.{storages_left}

live_id_settled : (m : State) (slot id : ℕ) → Contains (live_ids m slot) id → IsTrue (is_settled m id)
live_id_settled m slot id c =
    let t = from_map (λ (t : Storage). t.id) (live_upto m slot) id c in
    let s = from_filter_map (live_storage m) (filter (λ s. leb s slot) (rising nat_cmp (map (λ t. t.slot) m.storages))) t.0 t.1 in
    subst (λ n. IsTrue (is_settled m n)) t.2 (live_settled m s.0 t.0 s.2)

abbrev with_snap : State → Option Snap → State
with_snap m snap = record m { snap = snap }

changed : (m : State) (snap : Option Snap) → ((id : ℕ) → IsTrue (option_map_or (λ n. among id n.ids) snap false) → IsTrue (is_settled m id)) → IsSound m → IsSound (with_snap m snap)
changed m snap settled h = record {
  limits = h.limits;
  slots = h.slots;
  ids = record {
    differ = h.ids.differ;
    below = h.ids.below;
    one_shrink = h.ids.one_shrink;
    shrinks = h.ids.shrinks;
    pins = h.ids.pins;
    snap = settled;
  };
  rows = h.rows;
  names = h.names;
  copies = h.copies;
  gone = h.gone;
}

pub snap_begin_keeps : (m : State) (slot : ℕ) → IsSound m → IsSound (snap_begin_step m slot).0
snap_begin_keeps m slot h =
    through_unless IsSound _ m _ h (λ free.
    changed m (Some (record { slot = slot; ids = live_ids m slot })) (λ id i. live_id_settled m slot id (among_from id (live_ids m slot) i)) h)

pub snap_end_keeps : (m : State) (slot : ℕ) → IsSound m → IsSound (snap_end_step m slot).0
snap_end_keeps m slot h = through_found IsSound (open_snap m slot) (NotSnapping slot) m _ h (λ n e. changed m None (λ id i. absurd (true≢false (sym i))) h)

-- ---- recycling

abbrev keep : State → Storage → Bool
keep m t = not (is_retired t) || is_pinned m t.id

not_retired : (t : Storage) → IsTrue (is_live t || is_filling t) → IsTrue (not (is_retired t))
not_retired t b = ap (λ c. not (not c)) b

pub recycle_keeps : (m : State) → IsSound m → IsSound (recycle_step m).0
recycle_keeps m h =
    storages_left m (keep m) m.shrinks (record {
      live = λ u c live. or_left _ _ (not_retired u (or_left (is_live u) (is_filling u) live));
      pins = λ u c settled p. or_right (not (is_retired u)) _ (or_left _ _ (or_left _ _ p));
      snap = λ u c settled p. or_right (not (is_retired u)) _ (or_right _ _ p);
      old = λ g c u d e. or_right (not (is_retired u)) _ (or_left _ _ (or_right _ _ (any_at (λ f. eqb f.old u.id) m.shrinks g c (eq-eqb g.old u.id (sym e)))));
      new = λ g c u d e. or_left _ _ (not_retired u (or_right (is_live u) (is_filling u) (new_filling m h.ids g c u d e)));
      fewer = λ g c. c;
      one_shrink = h.ids.one_shrink;
      copies = λ u c k f. refl;
    }) h
