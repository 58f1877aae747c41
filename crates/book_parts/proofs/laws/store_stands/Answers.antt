use Rattle.std.proofs.Common.{◌≡◌, None, Some, sym, ap, ◌∙◌, subst, refl, is_some, IsFalse}
use Rattle.adb_model.specs.Lists.{among}
use Rattle.adb_model.specs.State.{State}
use Rattle.adb_model.specs.Load.{last_store}
use Rattle.adb_model.specs.Call.{Store, SlotRooted, Refused, Done, Reply}
use Rattle.adb_model.specs.History.{state_after}
use Rattle.book_parts.specs.Parts.{Parts}
use Rattle.book_parts.specs.Reflects.{Reflects}
use Rattle.book_parts.specs.Changes.{rooted_by}
use Rattle.book_parts.proofs.Marks.{cached_in, reflects_store, reflects_undone, some_mapped}
use Rattle.book_parts.proofs.Steps.{store_step_is}
use Rattle.book_parts.proofs.laws.store_stands.Goals as goal

pub returns-clause-cached : goal.returns-clause-cached
returns-clause-cached c = λ p m0 h slot st free.
    let m = state_after m0 h in
    let open_slot : rooted_by m.roots slot ≡ None = ap (λ rs. rooted_by rs slot) (sym st.parts.roots) ∙ free in
    let unflushed : IsFalse (among slot m.flushed) = c.only_roots_are_flushed.ensures.flushed m st.sound slot (c.only_roots_are_flushed.ensures.free m st.sound slot open_slot) in
    cached_in p m slot st.parts unflushed (c.only_roots_are_flushed.ensures.named m st.sound slot unflushed)
    (c.last_stores_follow.ensures.there m slot) (c.rows_are_last_stores.ensures.account m slot)

pub returns-clause-refused : goal.returns-clause-refused
returns-clause-refused c = λ p m0 h pass slot key account newest st e.
    let m = state_after m0 h in
    let is = store_step_is m pass slot key account (Some newest) (ap (λ rs. rooted_by rs slot) (sym st.parts.roots) ∙ e) in
    c.step_stands.ensures.of_any p p m0 h pass (Store slot key account) (Refused (SlotRooted slot newest)) refl st (ap (λ r. r.1) is)
    (subst (λ (r : State × Reply). Reflects p r.0) (sym is) st.parts)

pub returns-clause-done : goal.returns-clause-done
returns-clause-done c = λ p index cache m0 h pass slot key account st free e.
    let m = state_after m0 h in
    let new : Parts = record p { index = index; cache = cache } in
    let open_slot : rooted_by m.roots slot ≡ None = ap (λ rs. rooted_by rs slot) (sym st.parts.roots) ∙ free in
    let unflushed : IsFalse (among slot m.flushed) = c.only_roots_are_flushed.ensures.flushed m st.sound slot (c.only_roots_are_flushed.ensures.free m st.sound slot open_slot) in
    let stored = ap is_some (c.rows_are_last_stores.ensures.account m slot key) ∙ some_mapped (λ t. t.account) (last_store m slot key) ∙ sym (c.last_stores_follow.ensures.there m slot key) in
    let is = store_step_is m pass slot key account None open_slot in
    let reflected = reflects_store p index cache m slot key account unflushed
    (c.pairs_follow_stores.ensures.present m slot key account unflushed) (c.pairs_follow_stores.ensures.cached m slot key account unflushed) (c.pairs_follow_stores.ensures.tomb m slot key account)
    (c.rows_follow_stores.ensures.here m slot key account) (c.rows_follow_stores.ensures.elsewhere m slot key account)
    stored (c.last_stores_follow.ensures.store m slot key account) (c.cached_pairs_are_counted.ensures.store m slot key account unflushed) st.parts e in
    c.step_stands.ensures.of_any p new m0 h pass (Store slot key account) Done
    (ap (λ r. r.0) (is ∙ sym (store_step_is m 1 slot key account None open_slot)))
    st (ap (λ r. r.1) is) (subst (λ (r : State × Reply). Reflects new r.0) (sym is) reflected)

pub returns-clause-undone : goal.returns-clause-undone
returns-clause-undone c = λ p index cache m0 h st same same_cache. record {
  legal = st.legal;
  sound = st.sound;
  once = st.once;
  bytes = st.bytes;
  parts = reflects_undone p index cache (state_after m0 h) same same_cache st.parts;
}
