use Rattle.std.proofs.Common.{◌≡◌, true, false, sym, ap, ◌∙◌, subst, refl, IsFalse}
use Rattle.adb_model.specs.Lists.{among}
use Rattle.adb_model.specs.State.{State}
use Rattle.adb_model.specs.Call.{Purge, Purged, Rooted, Refused, Reply}
use Rattle.adb_model.specs.History.{state_after}
use Rattle.book_parts.specs.Parts.{Parts}
use Rattle.book_parts.specs.Reflects.{Reflects}
use Rattle.book_parts.proofs.Marks.{reflects_purge, keys_purged, rows_differ}
use Rattle.book_parts.proofs.Steps.{purge_step_is}
use Rattle.book_parts.proofs.laws.purge_stands.Goals as goal

pub returns-clause-differ : goal.returns-clause-differ
returns-clause-differ c = λ p m0 h slot st. rows_differ p (state_after m0 h) slot st.parts (c.rows_are_last_stores.ensures.differ (state_after m0 h) slot)

pub returns-clause-refused : goal.returns-clause-refused
returns-clause-refused c = λ p m0 h pass slot st e.
    let m = state_after m0 h in
    let is = purge_step_is m pass slot true (ap (among slot) (sym st.parts.roots) ∙ e) in
    c.step_stands.ensures.of_any p p m0 h pass (Purge slot) (Refused (Rooted slot)) refl st (ap (λ r. r.1) is)
    (subst (λ (r : State × Reply). Reflects p r.0) (sym is) st.parts)

pub returns-clause-done : goal.returns-clause-done
returns-clause-done c = λ p index cache m0 h pass slot keys st free e.
    let m = state_after m0 h in
    let new : Parts = record p { index = index; cache = cache } in
    let no_root : among slot m.roots ≡ false = ap (among slot) (sym st.parts.roots) ∙ free in
    let unflushed : IsFalse (among slot m.flushed) = c.only_roots_are_flushed.ensures.flushed m st.sound slot no_root in
    let is = purge_step_is m pass slot false no_root in
    let all = c.rows_are_last_stores.ensures.length m slot in
    let reflected = reflects_purge p index cache m slot keys unflushed
    (c.pairs_follow_purges.ensures.present m st.sound slot unflushed) (c.pairs_follow_purges.ensures.cached m slot) (c.pairs_follow_purges.ensures.tomb m slot)
    (c.rows_follow_stores.ensures.purge m slot) all (c.last_stores_follow.ensures.purge m slot) (c.cached_pairs_are_counted.ensures.purge m slot unflushed) st.parts e in
    c.step_stands.ensures.of_any p new m0 h pass (Purge slot) (Purged keys) refl st
    (ap (λ r. r.1) is ∙ ap Purged (keys_purged p index cache m slot keys unflushed all st.parts e))
    (subst (λ (r : State × Reply). Reflects new r.0) (sym is) reflected)
