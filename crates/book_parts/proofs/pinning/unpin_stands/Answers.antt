use Rattle.std.proofs.Common.{ℕ, IsTrue, true, false, sym, ap, ◌∙◌, subst, arith}
use Rattle.std.specs.List.{list_any}
use Rattle.std.proofs.lemmas.Bool.{ltb-true}
use Rattle.cell_table.specs.Phases.{unpinned}
use Rattle.cell_table.specs.Cells.{cell_at}
use Rattle.adb_model.specs.State.{State}
use Rattle.adb_model.specs.Storages.{pin_count}
use Rattle.adb_model.specs.Call.{Unpin, Refused, NotPinned, Done, Reply, Event}
use Rattle.adb_model.specs.Callers as callers
use Rattle.adb_model.specs.Callers.{is_pin}
use Rattle.adb_model.specs.History.{state_after}
use Rattle.book_parts.specs.Reflects.{Reflects}
use Rattle.book_parts.specs.Pins.{HoldsPins}
use Rattle.book_parts.specs.Changes.{with_cell}
use Rattle.book_parts.proofs.Repinned.{reflects_repinned, repinned_fewer}
use Rattle.book_parts.proofs.PinsInHand.{own_pin, no_own_pin, held_fewer}
use Rattle.book_parts.proofs.Unpins.{unpin_is, cell_there, cell_pinned}
use Rattle.book_parts.proofs.pinning.unpin_stands.Goals as goal

pub returns-clause-none : goal.returns-clause-none
returns-clause-none c = λ p in_hand m0 h id st held none.
    let m = state_after m0 h in
    let none_there = no_own_pin m in_hand id held (c.pinned_storages_stand.ensures.own_counted m in_hand.pass id) none in
    let is = unpin_is m in_hand.pass id false none_there in
    let reply : Reply = Refused (NotPinned id) in
    let event : Event = record { pass = in_hand.pass; call = Unpin id; reply = reply } in
    record {
      stands = c.step_stands.ensures.of_pass p p m0 h in_hand.pass (Unpin id) reply held.pass st (ap (λ r. r.1) is) (subst (λ (r : State × Reply). Reflects p r.0) (sym is) st.parts);
      pins = subst (λ (n : State). HoldsPins in_hand n) (sym (c.histories_go_on.ensures.state m0 h event ∙ ap (λ r. r.0) is)) held;
    }

pub returns-clause-there : goal.returns-clause-there
returns-clause-there c = λ p in_hand m0 h id st held some.
    let m = state_after m0 h in
    let own = own_pin m in_hand id held (c.pinned_storages_stand.ensures.own_counted m in_hand.pass id) some in
    let is = c.pinned_storages_stand.ensures.own m in_hand.pass id own in
    cell_there p m id st.parts (c.pinned_storages_stand.ensures.there m st.sound id is)

pub returns-clause-pinned : goal.returns-clause-pinned
returns-clause-pinned c = λ p in_hand m0 h id cell st held some has.
    let m = state_after m0 h in
    let own = own_pin m in_hand id held (c.pinned_storages_stand.ensures.own_counted m in_hand.pass id) some in
    let is = c.pinned_storages_stand.ensures.own m in_hand.pass id own in
    cell_pinned p m id st.parts cell has (ltb-true 0 (pin_count m id) (sym (c.pinned_storages_stand.ensures.counted m id) ∙ is)) (c.pinned_storages_stand.ensures.filled m st.sound id is)

pub returns-clause-done : goal.returns-clause-done
returns-clause-done c = λ p in_hand after m0 h id cell st held some has same each shorter.
    let m = state_after m0 h in
    let pass = after.pass in
    let was = cell_at p.cells.cells cell in
    let own_in_hand = own_pin m in_hand id held (c.pinned_storages_stand.ensures.own_counted m in_hand.pass id) some in
    let own : IsTrue (list_any (is_pin pass id) m.pins) = subst (λ (k : ℕ). IsTrue (list_any (is_pin k id) m.pins)) (sym same) own_in_hand in
    let is_own = c.pinned_storages_stand.ensures.own m pass id own in
    let pins_there = cell_pinned p m id st.parts cell has (ltb-true 0 (pin_count m id) (sym (c.pinned_storages_stand.ensures.counted m id) ∙ is_own)) (c.pinned_storages_stand.ensures.filled m st.sound id is_own) in
    let is = unpin_is m pass id true own in
    let event : Event = record { pass = pass; call = Unpin id; reply = Done } in
    let next : State = callers.unpinned m pass id in
    let changed = repinned_fewer m next.pins m.snap id was pins_there (c.pins_follow.ensures.taken m pass id own) (omega (arith, c.pins_follow.ensures.taken_length m pass id own)) in
    let reflected : Reflects (with_cell p cell (unpinned was)) next = reflects_repinned p m next.pins m.snap st.parts.snap id cell (unpinned was) has st.parts changed in
    let in_hand_then : HoldsPins after next = held_fewer m next in_hand after id same held each shorter (λ q. c.pins_follow.ensures.taken_by m pass id own pass q) (c.pins_follow.ensures.taken_of m pass id own pass) in
    record {
      stands = c.step_stands.ensures.of_pass p (with_cell p cell (unpinned was)) m0 h pass (Unpin id) Done in_hand_then.pass st (ap (λ r. r.1) is)
          (subst (λ (r : State × Reply). Reflects (with_cell p cell (unpinned was)) r.0) (sym is) reflected);
      pins = subst (λ (n : State). HoldsPins after n) (sym (c.histories_go_on.ensures.state m0 h event ∙ ap (λ r. r.0) is)) in_hand_then;
    }
