use Rattle.std.proofs.Common.{◌≡◌, count_by, sym, ap, ◌∙◌, subst, refl}
use Rattle.cell_table.specs.Phases.{is_idle}
use Rattle.adb_model.specs.State.{State}
use Rattle.adb_model.specs.Call.{Recycle, Recycled, Reply}
use Rattle.adb_model.specs.Snap.{recycled}
use Rattle.adb_model.specs.History.{state_after}
use Rattle.adb_model.specs.Step.{step}
use Rattle.book_parts.specs.Parts.{Parts}
use Rattle.book_parts.specs.Reflects.{Reflects}
use Rattle.book_parts.proofs.shrink_events.recycle_stands.Goals as goal

pub returns : goal.returns
returns c = λ p m0 h pass table st e.
    let m = state_after m0 h in
    let new : Parts = record p { cells = table } in
    let done : State × Reply = (recycled m, Recycled (count_by is_idle p.cells.cells)) in
    let is : step m pass Recycle ≡ done =
    c.storages_leave.ensures.reply m pass ∙ sym (ap (λ n. let told : State × Reply = (recycled m, Recycled n) in told) (c.recycled_storages_reflect.ensures.count p m st.sound st.parts))
    in
    c.step_stands.ensures.of_any p new m0 h pass Recycle (Recycled (count_by is_idle p.cells.cells)) refl st (ap (λ r. r.1) is)
    (subst (λ (r : State × Reply). Reflects new r.0) (sym is) (c.recycled_storages_reflect.ensures.done p m table st.sound st.parts e))
