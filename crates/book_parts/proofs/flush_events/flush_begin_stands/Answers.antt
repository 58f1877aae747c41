use Rattle.std.proofs.Common.{◌≡◌, ℕ, ◌+◌, ◌<◌, ◌≤◌, List, true, false, cond, length, Some, None, sym, ap, ◌∙◌, subst, refl, arith, is_some}
use Rattle.std.proofs.lemmas.Bool.{lt-ltb, le-ltb, le-leb, lt-leb, eq-eqb}
use Rattle.cell_table.specs.Cells as cells
use Rattle.write_cache.specs.Rows.{rows}
use Rattle.adb_model.specs.Lists.{among}
use Rattle.adb_model.specs.State.{State}
use Rattle.std.specs.Option.{option_map_or}
use Rattle.adb_model.specs.Load.{last_store}
use Rattle.adb_model.specs.Presence.{has_row}
use Rattle.adb_model.specs.Storages.{used, bytes_of, open_flush}
use Rattle.adb_model.specs.Flush.{flush_rows, has_cached_key, filling_with}
use Rattle.adb_model.specs.Call.{Call, Refusal, FlushBegin, FlushBegun, NotRooted, NothingCached, Flushing, Full, NoCell, IdsSpent, Refused, Reply, Event}
use Rattle.adb_model.specs.History.{state_after}
use Rattle.adb_model.specs.Step.{step}
use Rattle.book_parts.specs.Parts.{Parts}
use Rattle.book_parts.specs.Reflects.{Reflects}
use Rattle.book_parts.specs.Stands.{Stands, After}
use Rattle.book_parts.proofs.Marks.{agree, some_mapped}
use Rattle.book_parts.proofs.FlushSteps.{begin_is, is_full, is_out, is_spent, wanted, some_unflushed, rows_written, some_cached, none_cached, begun_is, same_filling, begun_in_use, flush_of, none_open, same_used}
use Rattle.book_parts.proofs.flush_events.flush_begin_stands.Goals as goal

abbrev Refuses : State → ℕ → ℕ → Refusal → Type 0
Refuses m pass slot refusal = let refused : State × Reply = (m, Refused refusal) in step m pass (FlushBegin slot) ≡ refused

abbrev StepsOn : Type 0
StepsOn = (old new : Parts) (m0 : State) (h : List Event) (pass : ℕ) (call : Call) (reply : Reply)
    → (step (state_after m0 h) pass call).0 ≡ (step (state_after m0 h) 1 call).0
    → Stands old m0 h → (step (state_after m0 h) pass call).1 ≡ reply → Reflects new (step (state_after m0 h) pass call).0
    → After new m0 h pass call (Some reply)

-- a flush that is refused changes nothing
refused_stands : StepsOn → (p : Parts) (m0 : State) (h : List Event) (pass slot : ℕ) (refusal : Refusal) → Stands p m0 h → Refuses (state_after m0 h) pass slot refusal
    → After p m0 h pass (FlushBegin slot) (Some (Refused refusal))
refused_stands on p m0 h pass slot refusal st is =
    on p p m0 h pass (FlushBegin slot) (Refused refusal) refl st (ap (λ r. r.1) is) (subst (λ (r : State × Reply). Reflects p r.0) (sym is) st.parts)

pub returns-clause-unrooted : goal.returns-clause-unrooted
returns-clause-unrooted c = λ p m0 h pass slot st unrooted.
    let m = state_after m0 h in
    refused_stands c.step_stands.ensures.of_any p m0 h pass slot (NotRooted slot) st
    (begin_is m pass slot false (has_cached_key m slot) (open_flush m slot) (is_full m pass slot) (is_out m pass slot) (is_spent m pass slot)
    (ap (among slot) (sym st.parts.roots) ∙ unrooted) refl refl refl refl refl)

pub returns-clause-empty : goal.returns-clause-empty
returns-clause-empty c = λ p m0 h pass slot st rooted none.
    let m = state_after m0 h in
    refused_stands c.step_stands.ensures.of_any p m0 h pass slot (NothingCached slot) st
    (begin_is m pass slot true false (open_flush m slot) (is_full m pass slot) (is_out m pass slot) (is_spent m pass slot)
    (ap (among slot) (sym st.parts.roots) ∙ rooted)
    (none_cached p m slot st.parts (λ t. (c.begun_flush_reflects.ensures.some p m slot st.sound st.parts t).1) none) refl refl refl refl)

pub returns-clause-is_open : goal.returns-clause-is_open
returns-clause-is_open c = λ p m0 h pass slot id b st rooted some begun has.
    let m = state_after m0 h in
    let cached = some_cached p m slot st.parts (c.rows_are_last_stores.ensures.length m slot) some in
    let found = flush_of p m slot st.parts b id (λ t is. c.open_flushes_stand.ensures m st.sound slot t is) (λ none. c.flushes_begin.ensures.none_filling m st.sound slot cached none) begun has in
    let is = begin_is m pass slot true true (Some found.0) (is_full m pass slot) (is_out m pass slot) (is_spent m pass slot)
    (ap (among slot) (sym st.parts.roots) ∙ rooted) cached found.1 refl refl refl in
    refused_stands c.step_stands.ensures.of_any p m0 h pass slot (Flushing slot id) st
    (is ∙ ap (λ i. let refused : State × Reply = (m, Refused (Flushing slot i)) in refused) found.2)

pub returns-clause-in_use : goal.returns-clause-in_use
returns-clause-in_use c = λ p m0 h slot b st begun. begun_in_use p (state_after m0 h) slot st.parts b begun

-- ---- want of room

pub returns-clause-full : goal.returns-clause-full
returns-clause-full c = λ p m0 h pass slot st rooted some none over.
    let m = state_after m0 h in
    let cached = some_cached p m slot st.parts (c.rows_are_last_stores.ensures.length m slot) some in
    let unopened = none_open p m slot st.parts (λ t is. c.open_flushes_stand.ensures m st.sound slot t is) none in
    let same : cells.used p.cells.cells ≡ used m = same_used p m slot st.parts in
    let limit = st.parts.limit in
    let size : bytes_of (rows p.cache slot) ≡ wanted m pass slot = ap bytes_of (rows_written p m slot st.parts some) in
    let above : m.budget < used m + wanted m pass slot = omega (arith, over, same, limit, size) in
    let is = begin_is m pass slot true true None true (is_out m pass slot) (is_spent m pass slot)
    (ap (among slot) (sym st.parts.roots) ∙ rooted) cached unopened (lt-ltb m.budget (used m + wanted m pass slot) above) refl refl in
    refused_stands c.step_stands.ensures.of_any p m0 h pass slot (Full (cells.used p.cells.cells) (bytes_of (rows p.cache slot)) p.cells.limit) st
    (is ∙ sym (ap (λ n. let refused : State × Reply = (m, Refused (Full n (bytes_of (rows p.cache slot)) p.cells.limit)) in refused) same
    ∙ ap (λ n. let refused : State × Reply = (m, Refused (Full (used m) n p.cells.limit)) in refused) size
    ∙ ap (λ n. let refused : State × Reply = (m, Refused (Full (used m) (wanted m pass slot) n)) in refused) limit))

pub returns-clause-no_cell : goal.returns-clause-no_cell
returns-clause-no_cell c = λ p m0 h pass slot st rooted some none fits no_free.
    let m = state_after m0 h in
    let cached = some_cached p m slot st.parts (c.rows_are_last_stores.ensures.length m slot) some in
    let unopened = none_open p m slot st.parts (λ t is. c.open_flushes_stand.ensures m st.sound slot t is) none in
    let same : cells.used p.cells.cells ≡ used m = same_used p m slot st.parts in
    let limit = st.parts.limit in
    let size : bytes_of (rows p.cache slot) ≡ wanted m pass slot = ap bytes_of (rows_written p m slot st.parts some) in
    let within : used m + wanted m pass slot ≤ m.budget = omega (arith, fits, same, limit, size) in
    let all = st.parts.cells.free in
    let most : 1048576 ≤ length m.storages = omega (arith, all, no_free) in
    let is = begin_is m pass slot true true None false true (is_spent m pass slot)
    (ap (among slot) (sym st.parts.roots) ∙ rooted) cached unopened (le-ltb m.budget (used m + wanted m pass slot) within) (le-leb 1048576 (length m.storages) most) refl in
    refused_stands c.step_stands.ensures.of_any p m0 h pass slot (NoCell (length p.cells.cells)) st
    (is ∙ sym (ap (λ n. let refused : State × Reply = (m, Refused (NoCell n)) in refused) st.parts.cells.all))

pub returns-clause-spent : goal.returns-clause-spent
returns-clause-spent c = λ p m0 h pass slot st rooted some none fits free spent.
    let m = state_after m0 h in
    let cached = some_cached p m slot st.parts (c.rows_are_last_stores.ensures.length m slot) some in
    let unopened = none_open p m slot st.parts (λ t is. c.open_flushes_stand.ensures m st.sound slot t is) none in
    let same : cells.used p.cells.cells ≡ used m = same_used p m slot st.parts in
    let limit = st.parts.limit in
    let size : bytes_of (rows p.cache slot) ≡ wanted m pass slot = ap bytes_of (rows_written p m slot st.parts some) in
    let within : used m + wanted m pass slot ≤ m.budget = omega (arith, fits, same, limit, size) in
    let all = st.parts.cells.free in
    let few : length m.storages < 1048576 = omega (arith, all, free) in
    let is = begin_is m pass slot true true None false false true
    (ap (among slot) (sym st.parts.roots) ∙ rooted) cached unopened (le-ltb m.budget (used m + wanted m pass slot) within) (lt-leb 1048576 (length m.storages) few)
    (eq-eqb m.next_id 18446744073709551615 (sym st.parts.next_id ∙ spent)) in
    refused_stands c.step_stands.ensures.of_any p m0 h pass slot IdsSpent st is

pub returns-clause-may : goal.returns-clause-may
returns-clause-may c = λ p m0 h slot st rooted some none.
    let m = state_after m0 h in
    let unflushed = some_unflushed p m slot st.parts some in
    let unopened = none_open p m slot st.parts (λ t is. c.open_flushes_stand.ensures m st.sound slot t is) none in (
      agree p m slot st.parts unflushed (c.only_roots_are_flushed.ensures.named m st.sound slot unflushed)
          (λ k. ap is_some (c.rows_are_last_stores.ensures.account m slot k) ∙ some_mapped (λ t. t.account) (last_store m slot k) ∙ sym (c.last_stores_follow.ensures.there m slot k)),
      c.begun_flush_reflects.ensures.differ p m slot st.parts,
      c.begun_flush_reflects.ensures.unused p m st.sound st.parts,
      (λ k. st.parts.expected k slot ∙ ap (λ o. option_map_or (λ t. has_row k t.rows) o false) unopened),
    )

-- ---- a flush begins

pub returns-clause-done : goal.returns-clause-done
returns-clause-done c = λ p m0 h pass slot cell index table slots st rooted some none unspent begins.
    let m = state_after m0 h in
    let new : Parts = record p { index = index; cells = table; map = slots; next_id = p.next_id + 1 } in
    let cached = some_cached p m slot st.parts (c.rows_are_last_stores.ensures.length m slot) some in
    let unopened = none_open p m slot st.parts (λ t is. c.open_flushes_stand.ensures m st.sound slot t is) none in
    let is = begun_is p m pass slot cell index table slots st.parts (ap (among slot) (sym st.parts.roots) ∙ rooted) cached unopened some unspent begins in
    let reply : Reply = FlushBegun p.next_id (bytes_of (rows p.cache slot)) in
    c.step_stands.ensures.of_any p new m0 h pass (FlushBegin slot) reply refl st (ap (λ r. r.1) is)
    (subst (λ (r : State × Reply). Reflects new r.0) (sym is) (c.begun_flush_reflects.ensures.done p m slot cell index table slots st.sound st.parts cached unopened begins))

pub returns-clause-tied : goal.returns-clause-tied
returns-clause-tied c = λ p m0 h pass slot cell index table slots st rooted some none unspent begins.
    let m = state_after m0 h in
    let cached = some_cached p m slot st.parts (c.rows_are_last_stores.ensures.length m slot) some in
    let unopened = none_open p m slot st.parts (λ t is. c.open_flushes_stand.ensures m st.sound slot t is) none in
    let is = begun_is p m pass slot cell index table slots st.parts (ap (among slot) (sym st.parts.roots) ∙ rooted) cached unopened some unspent begins in
    let reply : Reply = FlushBegun p.next_id (bytes_of (rows p.cache slot)) in
    let there = c.histories_go_on.ensures.state m0 h (record { pass = pass; call = FlushBegin slot; reply = reply }) in
    let opened = c.flushes_stay_open.ensures.begun m st.sound pass slot p.next_id (bytes_of (rows p.cache slot)) (ap (λ r. r.1) is) slot in
    ap (λ (n : State). open_flush n slot) there ∙ opened ∙ ap (λ b. cond b (Some (filling_with m slot (flush_rows m slot))) (open_flush m slot)) (eq-eqb slot slot refl)
    ∙ ap Some (same_filling p m slot st.parts some)
