use Rattle.std.proofs.Common.{◌≡◌, ℕ, ◌<◌, ◌≤◌, length, true, false, not, sym, ap, ◌∙◌, subst, length-append, [], ◌∷◌, arith}
use Rattle.slot_list.specs.declared.Place.{Place}
use Rattle.pass_pins.specs.Pins.{Pins}
use Rattle.accounts_index.specs.Index.{is_stored}
use Rattle.cell_table.specs.Phases.{is_live, pinned}
use Rattle.cell_table.specs.Cells.{cell_at}
use Rattle.adb_model.specs.State.{State}
use Rattle.adb_model.specs.Call as machine
use Rattle.adb_model.specs.Call.{Load, Found, Reply, Event}
use Rattle.adb_model.specs.Callers as callers
use Rattle.adb_model.specs.Callers.{found, place_of}
use Rattle.adb_model.specs.History.{state_after, IsPass}
use Rattle.book_parts.specs.Reflects.{Reflects}
use Rattle.book_parts.specs.Pins.{HoldsPins}
use Rattle.book_parts.specs.Changes.{with_cell}
use Rattle.book_parts.proofs.CellOfStorage.{one_id}
use Rattle.book_parts.proofs.Repinned.{reflects_repinned, repinned_more}
use Rattle.book_parts.proofs.PinsInHand.{held_more}
use Rattle.book_parts.proofs.Loads.{pins_of, load_taken, top}
use Rattle.book_parts.proofs.StoredLoads.{placed_there, live_there, present_named, named_place}
use Rattle.book_parts.proofs.pinning.stored_load_stands.Goals as goal

pub returns-clause-live : goal.returns-clause-live
returns-clause-live c = λ p m0 h key v cell offset st e f.
    let m = state_after m0 h in
    live_there p m key v cell offset st.sound st.parts (placed_there p m key v cell offset st.parts e f)

pub returns-clause-done : goal.returns-clause-done
returns-clause-done c = λ p in_hand after m0 h view key v cell offset id row st held new few l whole place has row_there e each.
    let m = state_after m0 h in
    let pass = after.pass in
    let same : after.pass ≡ in_hand.pass = ap (λ (a : Pins). a.pass) e in
    let new_view : m.cleaned ≤ view.max_root = subst (λ (n : ℕ). n ≤ view.max_root) st.parts.cleaned new in
    let few_held : pins_of m pass < 64 = subst (λ (n : ℕ). pins_of m n < 64) (sym same) (subst (λ (n : ℕ). n < 64) held.count few) in
    let is_top = top p m view key v st.parts l in
    let stands = placed_there p m key v cell offset st.parts l.0 place in
    let same_id : stands.storage.id ≡ id = one_id stands.storage.id id (cell_at p.cells.cells cell) stands.there has in
    let named = present_named m v.slot key (is_top.cached ∙ ap (λ (at : Place). not (is_stored at)) place) is_top.present in
    let is_placed : place_of m v.slot key ≡ machine.InStorage id = named_place m v.slot key stands.storage named stands.live ∙ ap machine.InStorage same_id in
    let answered = c.latest_versions_answer.ensures.stored p m0 h view key v cell offset row st new l whole place row_there in
    let is = load_taken m pass view key new_view few_held ∙ ap (found m pass) answered
    ∙ ap (λ place. let done : State × Reply = (callers.pinned m pass place, Found v.slot place row.account) in done) is_placed in
    let reply : Reply = Found v.slot (machine.InStorage id) row.account in
    let event : Event = record { pass = pass; call = Load view key; reply = reply } in
    let next : State = callers.pinned m pass (machine.InStorage id) in
    let was = cell_at p.cells.cells cell in
    let live : is_live was ≡ true = live_there p m key v cell offset st.sound st.parts stands in
    let changed = repinned_more m next.pins m.snap id was live (c.pins_follow.ensures.pinned m pass id) (omega (arith, c.pins_follow.ensures.pinned_length m pass id)) in
    let reflected : Reflects (with_cell p cell (pinned was)) next = reflects_repinned p m next.pins m.snap st.parts.snap id cell (pinned was) has st.parts changed in
    let longer = ap (λ (a : Pins). length a.pins) e ∙ length-append in_hand.pins (record { id = id; finished = false } ∷ []) in
    let in_hand_then : HoldsPins after next = held_more m next in_hand after id same held each longer (λ q. c.pins_follow.ensures.pinned_by m pass id pass q) (c.pins_follow.ensures.pinned_of m pass id pass) in
    let is_pass : IsPass pass = in_hand_then.pass in
    record {
      stands = c.step_stands.ensures.of_pass p (with_cell p cell (pinned was)) m0 h pass (Load view key) reply is_pass st (ap (λ r. r.1) is)
          (subst (λ (r : State × Reply). Reflects (with_cell p cell (pinned was)) r.0) (sym is) reflected);
      pins = subst (λ (n : State). HoldsPins after n) (sym (c.histories_go_on.ensures.state m0 h event ∙ ap (λ r. r.0) is)) in_hand_then;
    }
