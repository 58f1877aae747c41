use Rattle.std.proofs.Common.{◌≡◌, ℕ, ◌+◌, ◌<◌, ◌≤◌, List, true, false, length, Some, None, sym, ap, ◌∙◌, subst, refl, arith}
use Rattle.std.proofs.lemmas.Bool.{lt-ltb, le-ltb, le-leb, lt-leb, eq-eqb, ne_eqb}
use Rattle.cell_table.specs.Cells as cells
use Rattle.adb_model.specs.State.{State}
use Rattle.adb_model.specs.Storages.{used, bytes_of}
use Rattle.adb_model.specs.Shrink.{named_in, shrink_rows, shrinking, shrink_begin_refusals}
use Rattle.adb_model.specs.Outcome.{unless, when_found, first_of}
use Rattle.adb_model.specs.Call.{Call, Refusal, NoStorage, Shrinking, NothingDead, Full, NoCell, IdsSpent, ShrinkBegin, ShrinkBegun, Refused, Reply, Event}
use Rattle.adb_model.specs.History.{state_after}
use Rattle.adb_model.specs.Step.{step}
use Rattle.book_parts.specs.Parts.{Parts}
use Rattle.book_parts.specs.Reflects.{Reflects}
use Rattle.book_parts.specs.Stands.{Stands, After}
use Rattle.book_parts.specs.Shrinks.{copied_rows, copy_of, IsOpenCopy}
use Rattle.book_parts.proofs.FlushSteps.{begun_in_use, same_used}
use Rattle.book_parts.proofs.ShrinkSteps.{begin_is, is_whole, is_full, is_out, is_spent, wanted, none_open, shrink_of_entry, begun_is}
use Rattle.book_parts.proofs.shrink_events.shrink_begin_stands.Goals as goal

abbrev Refuses : State → ℕ → ℕ → Refusal → Type 0
Refuses m pass slot refusal = let refused : State × Reply = (m, Refused refusal) in step m pass (ShrinkBegin slot) ≡ refused

abbrev StepsOn : Type 0
StepsOn = (old new : Parts) (m0 : State) (h : List Event) (pass : ℕ) (call : Call) (reply : Reply)
    → (step (state_after m0 h) pass call).0 ≡ (step (state_after m0 h) 1 call).0
    → Stands old m0 h → (step (state_after m0 h) pass call).1 ≡ reply → Reflects new (step (state_after m0 h) pass call).0
    → After new m0 h pass call (Some reply)

-- a shrink that is refused changes nothing
refused_stands : StepsOn → (p : Parts) (m0 : State) (h : List Event) (pass slot : ℕ) (refusal : Refusal) → Stands p m0 h → Refuses (state_after m0 h) pass slot refusal
    → After p m0 h pass (ShrinkBegin slot) (Some (Refused refusal))
refused_stands on p m0 h pass slot refusal st is =
    on p p m0 h pass (ShrinkBegin slot) (Refused refusal) refl st (ap (λ r. r.1) is) (subst (λ (r : State × Reply). Reflects p r.0) (sym is) st.parts)

pub returns-clause-none : goal.returns-clause-none
returns-clause-none c = λ p m0 h pass slot st none.
    let m = state_after m0 h in
    refused_stands c.step_stands.ensures.of_any p m0 h pass slot (NoStorage slot) st
    (ap (λ x. when_found x (NoStorage slot) m (λ t. let begun : State × Reply = (shrinking m t, ShrinkBegun t.id m.next_id (bytes_of (shrink_rows m t))) in unless (first_of (shrink_begin_refusals m slot t)) m begun))
    (c.used_storage_reflects.ensures.none p m slot st.parts none))

pub returns-clause-in_use : goal.returns-clause-in_use
returns-clause-in_use c = λ p m0 h slot b st begun. begun_in_use p (state_after m0 h) slot st.parts b begun

pub returns-clause-is_open : goal.returns-clause-is_open
returns-clause-is_open c = λ p m0 h pass slot id live b st e begun has.
    let m = state_after m0 h in
    let u = c.used_storage_reflects.ensures.there p m slot live st.sound st.once st.parts e in
    let found = shrink_of_entry p m slot st.parts (λ h x. c.open_shrinks_stand.ensures.between m st.sound slot h x) b id
    (λ none. c.shrinks_copy_named_rows.ensures.none_filling m st.sound slot u.0 u.1 none) begun has
    in
    let is = begin_is m pass slot u.0 (Some found.0) (is_whole m pass slot u.0) (is_full m pass slot u.0) (is_out m pass slot u.0) (is_spent m pass slot u.0) u.1 found.1 refl refl refl refl in
    refused_stands c.step_stands.ensures.of_any p m0 h pass slot (Shrinking slot id) st
    (is ∙ ap (λ i. let refused : State × Reply = (m, Refused (Shrinking slot i)) in refused) found.2)

pub returns-clause-nothing_dead : goal.returns-clause-nothing_dead
returns-clause-nothing_dead c = λ p m0 h pass slot live st e none whole.
    let m = state_after m0 h in
    let u = c.used_storage_reflects.ensures.there p m slot live st.sound st.once st.parts e in
    let unopened = none_open p m slot st.parts (λ h x. c.open_shrinks_stand.ensures.between m st.sound slot h x) none in
    let same : length u.0.rows ≡ named_in m slot = omega (arith, u.4, u.5, whole) in
    refused_stands c.step_stands.ensures.of_any p m0 h pass slot (NothingDead slot) st
    (begin_is m pass slot u.0 None true (is_full m pass slot u.0) (is_out m pass slot u.0) (is_spent m pass slot u.0) u.1 unopened (eq-eqb (length u.0.rows) (named_in m slot) same) refl refl refl)

pub returns-clause-may : goal.returns-clause-may
returns-clause-may c = λ p m0 h slot live st e.
    let m = state_after m0 h in
    let u = c.used_storage_reflects.ensures.there p m slot live st.sound st.once st.parts e in (
      u.3,
      c.used_storage_reflects.ensures.filled p live.cell u.3,
      u.6,
      c.begun_flush_reflects.ensures.unused p m st.sound st.parts,
      c.stored_load_stands.ensures.room p m0 h st,
    )

-- ---- want of room

pub returns-clause-full : goal.returns-clause-full
returns-clause-full c = λ p m0 h pass slot live image st used_is none dead over.
    let m = state_after m0 h in
    let u = c.used_storage_reflects.ensures.there p m slot live st.sound st.once st.parts used_is.entry in
    let unopened = none_open p m slot st.parts (λ h x. c.open_shrinks_stand.ensures.between m st.sound slot h x) none in
    let same : cells.used p.cells.cells ≡ used m = same_used p m slot st.parts in
    let limit = st.parts.limit in
    let bytes : ℕ = bytes_of (copied_rows p.index slot live.cell image.value) in
    let size : bytes ≡ wanted m pass slot u.0 = c.begun_shrink_reflects.ensures.bytes p m slot live image u.0 st.sound st.parts used_is u.1 in
    let above : m.budget < used m + wanted m pass slot u.0 = omega (arith, over, same, limit, size) in
    let is = begin_is m pass slot u.0 None false true (is_out m pass slot u.0) (is_spent m pass slot u.0) u.1 unopened
    (ne_eqb (length u.0.rows) (named_in m slot) (λ whole. omega (arith, whole, u.4, u.5, dead))) (lt-ltb m.budget (used m + wanted m pass slot u.0) above) refl refl
    in
    refused_stands c.step_stands.ensures.of_any p m0 h pass slot (Full (cells.used p.cells.cells) bytes p.cells.limit) st
    (is ∙ sym (ap (λ n. let refused : State × Reply = (m, Refused (Full n bytes p.cells.limit)) in refused) same
    ∙ ap (λ n. let refused : State × Reply = (m, Refused (Full (used m) n p.cells.limit)) in refused) size
    ∙ ap (λ n. let refused : State × Reply = (m, Refused (Full (used m) (wanted m pass slot u.0) n)) in refused) limit))

pub returns-clause-no_cell : goal.returns-clause-no_cell
returns-clause-no_cell c = λ p m0 h pass slot live image st used_is none dead fits no_free.
    let m = state_after m0 h in
    let u = c.used_storage_reflects.ensures.there p m slot live st.sound st.once st.parts used_is.entry in
    let unopened = none_open p m slot st.parts (λ h x. c.open_shrinks_stand.ensures.between m st.sound slot h x) none in
    let same : cells.used p.cells.cells ≡ used m = same_used p m slot st.parts in
    let limit = st.parts.limit in
    let size : bytes_of (copied_rows p.index slot live.cell image.value) ≡ wanted m pass slot u.0 = c.begun_shrink_reflects.ensures.bytes p m slot live image u.0 st.sound st.parts used_is u.1 in
    let within : used m + wanted m pass slot u.0 ≤ m.budget = omega (arith, fits, same, limit, size) in
    let all = st.parts.cells.free in
    let most : 1048576 ≤ length m.storages = omega (arith, all, no_free) in
    let is = begin_is m pass slot u.0 None false false true (is_spent m pass slot u.0) u.1 unopened
    (ne_eqb (length u.0.rows) (named_in m slot) (λ whole. omega (arith, whole, u.4, u.5, dead))) (le-ltb m.budget (used m + wanted m pass slot u.0) within)
    (le-leb 1048576 (length m.storages) most) refl
    in
    refused_stands c.step_stands.ensures.of_any p m0 h pass slot (NoCell (length p.cells.cells)) st
    (is ∙ sym (ap (λ n. let refused : State × Reply = (m, Refused (NoCell n)) in refused) st.parts.cells.all))

pub returns-clause-spent : goal.returns-clause-spent
returns-clause-spent c = λ p m0 h pass slot live image st used_is none dead fits free spent.
    let m = state_after m0 h in
    let u = c.used_storage_reflects.ensures.there p m slot live st.sound st.once st.parts used_is.entry in
    let unopened = none_open p m slot st.parts (λ h x. c.open_shrinks_stand.ensures.between m st.sound slot h x) none in
    let same : cells.used p.cells.cells ≡ used m = same_used p m slot st.parts in
    let limit = st.parts.limit in
    let size : bytes_of (copied_rows p.index slot live.cell image.value) ≡ wanted m pass slot u.0 = c.begun_shrink_reflects.ensures.bytes p m slot live image u.0 st.sound st.parts used_is u.1 in
    let within : used m + wanted m pass slot u.0 ≤ m.budget = omega (arith, fits, same, limit, size) in
    let all = st.parts.cells.free in
    let few : length m.storages < 1048576 = omega (arith, all, free) in
    refused_stands c.step_stands.ensures.of_any p m0 h pass slot IdsSpent st
    (begin_is m pass slot u.0 None false false false true u.1 unopened
    (ne_eqb (length u.0.rows) (named_in m slot) (λ whole. omega (arith, whole, u.4, u.5, dead))) (le-ltb m.budget (used m + wanted m pass slot u.0) within)
    (lt-leb 1048576 (length m.storages) few) (eq-eqb m.next_id 18446744073709551615 (sym st.parts.next_id ∙ spent)))

-- ---- a shrink begins

pub returns-clause-done : goal.returns-clause-done
returns-clause-done c = λ p m0 h pass slot cell live image table slots st used_is none dead unspent begins.
    let m = state_after m0 h in
    let u = c.used_storage_reflects.ensures.there p m slot live st.sound st.once st.parts used_is.entry in
    let unopened = none_open p m slot st.parts (λ h x. c.open_shrinks_stand.ensures.between m st.sound slot h x) none in
    let of_image = c.begun_shrink_reflects.ensures.image p m slot live image u.0 st.sound st.parts used_is u.1 in
    let bytes = c.begun_shrink_reflects.ensures.bytes p m slot live image u.0 st.sound st.parts used_is u.1 in
    let is = begun_is p m pass slot live.cell cell live image u.0 table slots st.parts u.1 unopened u.4 u.5 dead of_image.id bytes unspent begins in
    let new : Parts = record p { cells = table; map = slots; next_id = p.next_id + 1 } in
    let reply : Reply = ShrinkBegun image.value.id p.next_id (bytes_of (copied_rows p.index slot live.cell image.value)) in
    c.step_stands.ensures.of_any p new m0 h pass (ShrinkBegin slot) reply refl st (ap (λ r. r.1) is)
    (subst (λ (r : State × Reply). Reflects new r.0) (sym is) (c.begun_shrink_reflects.ensures.done p m slot cell live image u.0 table slots st.sound st.parts used_is u.1 unopened begins))

pub returns-clause-tied : goal.returns-clause-tied
returns-clause-tied c = λ p m0 h pass slot cell live image table slots st used_is none dead unspent begins.
    let m = state_after m0 h in
    let u = c.used_storage_reflects.ensures.there p m slot live st.sound st.once st.parts used_is.entry in
    let unopened = none_open p m slot st.parts (λ h x. c.open_shrinks_stand.ensures.between m st.sound slot h x) none in
    let of_image = c.begun_shrink_reflects.ensures.image p m slot live image u.0 st.sound st.parts used_is u.1 in
    let bytes = c.begun_shrink_reflects.ensures.bytes p m slot live image u.0 st.sound st.parts used_is u.1 in
    let is = begun_is p m pass slot live.cell cell live image u.0 table slots st.parts u.1 unopened u.4 u.5 dead of_image.id bytes unspent begins in
    let reply : Reply = ShrinkBegun image.value.id p.next_id (bytes_of (copied_rows p.index slot live.cell image.value)) in
    let there = c.histories_go_on.ensures.state m0 h (record { pass = pass; call = ShrinkBegin slot; reply = reply }) in
    subst (λ (n : State). IsOpenCopy (copy_of p.index slot live.cell image.value p.next_id) n) (sym (there ∙ ap (λ r. r.0) is))
    (c.begun_shrink_reflects.ensures.tied p m slot live image u.0 st.sound st.parts used_is u.1 unopened)
