use Rattle.std.proofs.Common.{◌≡◌, Bool, true, false, cond, sym, ap, ◌∙◌, subst, refl}
use Rattle.accounts_index.specs.Index.{Index}
use Rattle.adb_model.specs.State.{State}
use Rattle.adb_model.specs.Call.{ShrinkEnd, ShrinkAbort, NotShrinking, Done, Superseded, Reply}
use Rattle.adb_model.specs.Outcome.{when_found}
use Rattle.adb_model.specs.Shrink.{is_current, installed, copy_dropped}
use Rattle.adb_model.specs.History.{state_after}
use Rattle.adb_model.specs.Step.{step}
use Rattle.book_parts.specs.Parts.{Parts}
use Rattle.book_parts.specs.Reflects.{Reflects}
use Rattle.book_parts.specs.Shrinks.{shrink_of}
use Rattle.book_parts.proofs.shrink_events.shrink_end_stands.Goals as goal

pub returns-clause-may : goal.returns-clause-may
returns-clause-may c = λ p m0 h copy st o. c.open_shrink_reflects.ensures.cells p (state_after m0 h) copy st.sound st.parts o

pub returns-clause-done : goal.returns-clause-done
returns-clause-done c = λ p m0 h pass copy from cell image places index table slots st o i in_use of_image stand e.
    let m = state_after m0 h in
    let shrink = shrink_of copy in
    let new : Parts = record p { index = index; cells = table; map = slots } in
    let ended : Bool → State × Reply = λ b. let done : State × Reply = (installed m shrink, Done) in let late : State × Reply = (copy_dropped m shrink, Superseded copy.slot copy.old) in cond b done late in
    let is : step m pass (ShrinkEnd copy.slot) ≡ ended true =
    ap (λ x. when_found x (NotShrinking copy.slot) m (λ g. let done : State × Reply = (installed m g, Done) in let late : State × Reply = (copy_dropped m g, Superseded copy.slot g.old) in cond (is_current m g) done late)) o.opened
    ∙ ap ended (sym (c.open_shrink_reflects.ensures.current p m copy from cell st.sound st.parts o i) ∙ in_use)
    in
    c.step_stands.ensures.of_any p new m0 h pass (ShrinkEnd copy.slot) Done refl st (ap (λ r. r.1) is)
    (subst (λ (r : State × Reply). Reflects new r.0) (sym is) (c.installed_shrink_reflects.ensures p m copy from cell image places index table slots st.sound st.parts o i in_use of_image stand e))

pub returns-clause-superseded : goal.returns-clause-superseded
returns-clause-superseded c = λ p m0 h pass copy from cell index table slots st o i late same e.
    let m = state_after m0 h in
    let shrink = shrink_of copy in
    let new : Index → Parts = λ x. record p { index = x; cells = table; map = slots } in
    let ended : Bool → State × Reply = λ b. let done : State × Reply = (installed m shrink, Done) in let late : State × Reply = (copy_dropped m shrink, Superseded copy.slot copy.old) in cond b done late in
    let is : step m pass (ShrinkEnd copy.slot) ≡ ended false =
    ap (λ x. when_found x (NotShrinking copy.slot) m (λ g. let done : State × Reply = (installed m g, Done) in let late : State × Reply = (copy_dropped m g, Superseded copy.slot g.old) in cond (is_current m g) done late)) o.opened
    ∙ ap ended (sym (c.open_shrink_reflects.ensures.current p m copy from cell st.sound st.parts o i) ∙ late)
    in
    c.step_stands.ensures.of_any p (new index) m0 h pass (ShrinkEnd copy.slot) (Superseded copy.slot copy.old) refl st (ap (λ r. r.1) is)
    (subst (λ (r : State × Reply). Reflects (new index) r.0) (sym is)
    (subst (λ (x : Index). Reflects (new x) (copy_dropped m shrink)) (sym same) (c.dropped_shrink_reflects.ensures p m copy from cell table slots st.sound st.parts o i e)))

pub returns-clause-dropped : goal.returns-clause-dropped
returns-clause-dropped c = λ p m0 h pass copy from cell table slots st o i e.
    let m = state_after m0 h in
    let shrink = shrink_of copy in
    let new : Parts = record p { cells = table; map = slots } in
    let done : State × Reply = (copy_dropped m shrink, Done) in
    let is : step m pass (ShrinkAbort copy.slot) ≡ done = ap (λ x. when_found x (NotShrinking copy.slot) m (λ g. let left : State × Reply = (copy_dropped m g, Done) in left)) o.opened in
    c.step_stands.ensures.of_any p new m0 h pass (ShrinkAbort copy.slot) Done refl st (ap (λ r. r.1) is)
    (subst (λ (r : State × Reply). Reflects new r.0) (sym is) (c.dropped_shrink_reflects.ensures p m copy from cell table slots st.sound st.parts o i e))
