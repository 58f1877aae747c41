use Rattle.std.proofs.Common.{◌∷◌, [], ◌∙◌}
use Rattle.adb_model.specs.Call.{Event, Done}
use Rattle.adb_model.specs.History.{state_after}
use Rattle.book_parts.specs.Shrinks.{shrink_of}
use Rattle.book_parts.proofs.OpenCopy.{facts_of, copy_in, current_is, copy_stays}
use Rattle.book_parts.proofs.shrinking.open_shrink_reflects.Goals as goal

pub returns-clause-cells : goal.returns-clause-cells
returns-clause-cells c = λ p m copy h r o.
    let b = c.open_shrinks_stand.ensures.between m h copy.slot (shrink_of copy) o.opened in
    copy_in p m copy r o (facts_of m copy o b.0 b.1 b.2) h

pub returns-clause-current : goal.returns-clause-current
returns-clause-current c = λ p m copy from cell h r o i.
    let b = c.open_shrinks_stand.ensures.between m h copy.slot (shrink_of copy) o.opened in
    current_is p m copy r o (facts_of m copy o b.0 b.1 b.2) from h i.of_old
    (λ t e. c.open_shrinks_stand.ensures.current m h copy.slot (shrink_of copy) o.opened t e)
    (λ e. c.open_shrinks_stand.ensures.not_current m h copy.slot (shrink_of copy) o.opened e)

pub returns-clause-stays_after : goal.returns-clause-stays_after
returns-clause-stays_after c = λ m events copy h passes same o.
    let b = c.open_shrinks_stand.ensures.between (state_after m events) (c.states_are_sound.ensures.history m events passes h) copy.slot (shrink_of copy) (same ∙ o.opened) in
    copy_stays m (state_after m events) copy o b.0 b.1 same b.2
    (c.pinned_storages_stay.ensures.one m events passes h copy.old o.old b.0 o.old_there b.2.old_with_id).1
    (c.pinned_storages_stay.ensures.one m events passes h copy.id o.new b.1 o.new_there b.2.copy_with_id).1

pub returns-clause-stays : goal.returns-clause-stays
returns-clause-stays c = λ m pass call copy h is_pass same o.
    let event : Event = record { pass = pass; call = call; reply = Done } in
    returns-clause-stays_after c m (event ∷ []) copy h (is_pass, tt) same o
