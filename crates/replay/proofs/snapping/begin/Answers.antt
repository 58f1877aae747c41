use Rattle.std.proofs.Common.{◌≡◌, ℕ, length, map, List, Option, Some, sym, ap, subst, ◌∙◌}
use Rattle.std.proofs.lemmas.List.{length-map}
use Rattle.adb_model.specs.Call as machine
use Rattle.vec_scan.specs.Image.{Image}
use Rattle.book_parts.specs.Parts.{Shared}
use Rattle.book_parts.specs.Stands.{with_event}
use Rattle.replay.specs.Standing.{PlayerStands}
use Rattle.adb_model.specs.History.{state_after}
use Rattle.adb_model.specs.Laws.{ShowLive}
use Rattle.vec_scan.specs.Shown.{shown}
use Rattle.replay.proofs.Snaps.{slot_of, none_shown}
use Rattle.replay.proofs.snapping.begin.Goals as goal

pub returns-in-Ok-clause-stands : goal.returns-in-Ok-clause-stands
returns-in-Ok-clause-stands c p start h pass is st =
    let job = c.in-Ok.job in
    let slot = c.args.slot in
    let count : length c.storages.result.now ≡ length job.storages = sym (length-map c.storages.result.now (λ (s : Shared). s.value)) ∙ ap (λ (l : List Image). length l) c.storages.ensures in
    let made = c.snaps_go_on.ensures.begun _ c.snap_begin.new.self job start h pass slot (length job.storages) is st (c.in-Ok.ensures.stands start h pass st.book) (c.in-Ok.ensures.opens start h pass st.book) in
    subst (λ (k : ℕ). PlayerStands (record p { book = c.snap_begin.new.self; snap = Some job }) start (with_event h pass (machine.SnapBegin slot) (Some (machine.SnapBegun k)))) (sym count) made

pub returns-in-Err-clause-stands : goal.returns-in-Err-clause-stands
returns-in-Err-clause-stands c p start h pass is st =
    let made = c.snaps_go_on.ensures.refused _ c.snap_begin.new.self start h pass c.args.slot c.in-Err.refusal is st (c.in-Err.ensures.stands start h pass st.book) in
    subst (λ (r : Option machine.Reply). PlayerStands (record p { book = c.snap_begin.new.self; snap = c.args.snap.now }) start (with_event h pass (machine.SnapBegin c.args.slot) r)) (sym c.snap_refused.ensures) made

pub returns-in-Ok-clause-shows : goal.returns-in-Ok-clause-shows
returns-in-Ok-clause-shows c p start h st = λ slot storages asked told.
    let same : c.args.slot ≡ slot = slot_of asked in
    (c.in-Ok.ensures.slot ∙ same, subst (λ (s : ℕ). ShowLive (state_after start h) s (map shown c.in-Ok.job.storages)) same (c.in-Ok.ensures.shows start h st.book))

pub returns-in-Err-clause-shows : goal.returns-in-Err-clause-shows
returns-in-Err-clause-shows c p start h st =
    none_shown c.in-Err.refusal c.snap_refused.result _ _ _ c.snap_refused.ensures
