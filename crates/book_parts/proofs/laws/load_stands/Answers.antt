use Rattle.std.proofs.Common.{ℕ, not, ◌<◌, ◌≤◌, sym, ap, ◌∙◌, subst}
use Rattle.accounts_index.specs.Index.{is_stored}
use Rattle.adb_model.specs.State.{State}
use Rattle.adb_model.specs.Call as machine
use Rattle.adb_model.specs.Call.{Load, NotFound, Found, Reply}
use Rattle.adb_model.specs.Callers.{found, pinned}
use Rattle.adb_model.specs.History.{state_after}
use Rattle.book_parts.specs.Reflects.{Reflects}
use Rattle.book_parts.specs.Pins.{HoldsPins}
use Rattle.book_parts.proofs.Loads.{load_taken, top, cached_place, cached_unflushed}
use Rattle.book_parts.proofs.laws.load_stands.Goals as goal

pub returns-clause-none : goal.returns-clause-none
returns-clause-none c = λ p pins m0 h view key st held new few l.
    let m = state_after m0 h in
    let new_view : m.cleaned ≤ view.max_root = subst (λ (n : ℕ). n ≤ view.max_root) st.parts.cleaned new in
    let answered = c.latest_versions_answer.ensures.none p m0 h view key st new l in
    let is = load_taken m pins.pass view key new_view (subst (λ (n : ℕ). n < 64) held.count few) ∙ ap (found m pins.pass) answered in
    record {
      stands = c.step_stands.ensures.of_pass p p m0 h pins.pass (Load view key) NotFound held.pass st (ap (λ r. r.1) is) (subst (λ (r : State × Reply). Reflects p r.0) (sym is) st.parts);
      pins = subst (λ (n : State). HoldsPins pins n) (sym (c.histories_go_on.ensures.state m0 h (record { pass = pins.pass; call = Load view key; reply = NotFound }) ∙ ap (λ r. r.0) is)) held;
    }

pub returns-clause-tomb : goal.returns-clause-tomb
returns-clause-tomb c = λ p pins m0 h view key v st held new few l tomb.
    let m = state_after m0 h in
    let new_view : m.cleaned ≤ view.max_root = subst (λ (n : ℕ). n ≤ view.max_root) st.parts.cleaned new in
    let answered = c.latest_versions_answer.ensures.tomb p m0 h view key v st new l tomb in
    let is = load_taken m pins.pass view key new_view (subst (λ (n : ℕ). n < 64) held.count few) ∙ ap (found m pins.pass) answered in
    record {
      stands = c.step_stands.ensures.of_pass p p m0 h pins.pass (Load view key) NotFound held.pass st (ap (λ r. r.1) is) (subst (λ (r : State × Reply). Reflects p r.0) (sym is) st.parts);
      pins = subst (λ (n : State). HoldsPins pins n) (sym (c.histories_go_on.ensures.state m0 h (record { pass = pins.pass; call = Load view key; reply = NotFound }) ∙ ap (λ r. r.0) is)) held;
    }

pub returns-clause-cached : goal.returns-clause-cached
returns-clause-cached c = λ p pins m0 h view key v account st held new few l live in_cache row.
    let m = state_after m0 h in
    let new_view : m.cleaned ≤ view.max_root = subst (λ (n : ℕ). n ≤ view.max_root) st.parts.cleaned new in
    let is_top = top p m view key v st.parts l in
    let answered = c.latest_versions_answer.ensures.cached p m0 h view key v account st new l live row in
    let unflushed = cached_unflushed m v.slot key (is_top.cached ∙ ap (λ place. not (is_stored place)) in_cache) in
    let unnamed = c.only_roots_are_flushed.ensures.named m st.sound v.slot unflushed key in
    let is = load_taken m pins.pass view key new_view (subst (λ (n : ℕ). n < 64) held.count few) ∙ ap (found m pins.pass) answered
    ∙ ap (λ place. let done : State × Reply = (pinned m pins.pass place, Found v.slot place account) in done) (cached_place m v.slot key unnamed) in
    let reply : Reply = Found v.slot machine.Cached account in
    record {
      stands = c.step_stands.ensures.of_pass p p m0 h pins.pass (Load view key) reply held.pass st (ap (λ r. r.1) is) (subst (λ (r : State × Reply). Reflects p r.0) (sym is) st.parts);
      pins = subst (λ (n : State). HoldsPins pins n) (sym (c.histories_go_on.ensures.state m0 h (record { pass = pins.pass; call = Load view key; reply = reply }) ∙ ap (λ r. r.0) is)) held;
    }
