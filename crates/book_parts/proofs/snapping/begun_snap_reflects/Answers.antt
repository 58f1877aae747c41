use Rattle.std.proofs.Common.{ℕ, List, [], leb, map, Some, sym, ap, ◌∙◌, subst}
use Rattle.adb_model.specs.State.{Snap, Storage}
use Rattle.adb_model.specs.Snapping.{snapped}
use Rattle.book_parts.specs.Parts.{Parts}
use Rattle.book_parts.specs.Reflects.{Reflects}
use Rattle.book_parts.specs.Snaps.{ids_of}
use Rattle.book_parts.proofs.SnapImages.{same_slots, ids_are, pinnable, images_rise, images_upto, images_stand, shows_live}
use Rattle.book_parts.proofs.SnapPins.{opens_empty, pins_reflect}
use Rattle.book_parts.proofs.snapping.begun_snap_reflects.Goals as goal

same_ids : goal.returns-clause-ids
same_ids c = λ p m slot images h r a.
    ap (map (λ (t : Storage). t.id)) (c.snaps_begin.ensures.storages m slot a.of a.rise (same_slots p m h r (λ s. leb s slot) images a)) ∙ ids_are p m slot images h r a

pub returns-clause-ids : goal.returns-clause-ids
returns-clause-ids = same_ids

pub returns-clause-shows : goal.returns-clause-shows
returns-clause-shows c = shows_live

pub returns-clause-may_pin : goal.returns-clause-may_pin
returns-clause-may_pin c = pinnable

pub returns-clause-done : goal.returns-clause-done
returns-clause-done c = λ p m slot images table h r none a each.
    let opened : Parts = record p { snap = Some slot } in
    let done : Parts = record p { cells = table; snap = Some slot } in
    subst (λ (ids : List ℕ). Reflects done (snapped m slot ids)) (sym (same_ids c p m slot images h r a))
    (pins_reflect (ids_of images) opened m slot [] table (opens_empty p m slot r none) each)

pub returns-clause-tied : goal.returns-clause-tied
returns-clause-tied c = λ p m slot images h r a. record {
  opened = ap (λ (ids : List ℕ). let snap : Snap = record { slot = slot; ids = ids } in Some snap) (same_ids c p m slot images h r a);
  each = images_stand p m slot images h r a;
  rise = images_rise p m slot images h r a;
  upto = images_upto p m slot images h r a;
}
