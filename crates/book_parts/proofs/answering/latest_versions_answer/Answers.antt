use Rattle.std.proofs.Common.{◌≡◌, ℕ, ◌≤◌, Some, sym, ap, ◌∙◌, subst}
use Rattle.std.proofs.lemmas.Option.{same_Some}
use Rattle.adb_model.specs.State.{Row}
use Rattle.adb_model.specs.History.{state_after}
use Rattle.adb_model.specs.Sound.{last_account}
use Rattle.book_parts.proofs.LastStores.{tomb_answers, store_answers}
use Rattle.book_parts.proofs.Loads.{top, none_seen, row_account}
use Rattle.book_parts.proofs.StoredLoads.{placed_there}
use Rattle.book_parts.proofs.answering.latest_versions_answer.Goals as goal

pub returns-clause-none : goal.returns-clause-none
returns-clause-none c = λ p m0 h view key st new l.
    let m = state_after m0 h in
    let new_view : m.cleaned ≤ view.max_root = subst (λ (n : ℕ). n ≤ view.max_root) st.parts.cleaned new in
    c.present_pairs_answer.ensures.none m st.sound view key new_view (none_seen p m view key st.parts l)

pub returns-clause-tomb : goal.returns-clause-tomb
returns-clause-tomb c = λ p m0 h view key v st new l tomb.
    let m = state_after m0 h in
    let new_view : m.cleaned ≤ view.max_root = subst (λ (n : ℕ). n ≤ view.max_root) st.parts.cleaned new in
    let is_top = top p m view key v st.parts l in
    c.present_pairs_answer.ensures.some m st.sound view key new_view v.slot is_top.seen is_top.present is_top.above
    ∙ tomb_answers m v.slot key (is_top.tomb ∙ tomb)

pub returns-clause-cached : goal.returns-clause-cached
returns-clause-cached c = λ p m0 h view key v account st new l whole row.
    let m = state_after m0 h in
    let new_view : m.cleaned ≤ view.max_root = subst (λ (n : ℕ). n ≤ view.max_root) st.parts.cleaned new in
    let is_top = top p m view key v st.parts l in
    let stored = row_account p m v.slot key account st.parts (c.rows_are_last_stores.ensures.account m v.slot key) row in
    c.present_pairs_answer.ensures.some m st.sound view key new_view v.slot is_top.seen is_top.present is_top.above
    ∙ store_answers m v.slot key account (is_top.tomb ∙ whole) stored

pub returns-clause-stored : goal.returns-clause-stored
returns-clause-stored c = λ p m0 h view key v cell offset row st new l whole place row_there.
    let m = state_after m0 h in
    let new_view : m.cleaned ≤ view.max_root = subst (λ (n : ℕ). n ≤ view.max_root) st.parts.cleaned new in
    let is_top = top p m view key v st.parts l in
    let stands = placed_there p m key v cell offset st.parts l.0 place in
    let same_row = same_Some (record { key = key; account = stands.account }) row (sym stands.row ∙ row_there) in
    let is_account : last_account m v.slot key ≡ Some row.account = stands.last ∙ ap (λ (r : Row). Some r.account) same_row in
    c.present_pairs_answer.ensures.some m st.sound view key new_view v.slot is_top.seen is_top.present is_top.above
    ∙ store_answers m v.slot key row.account (is_top.tomb ∙ whole) is_account
