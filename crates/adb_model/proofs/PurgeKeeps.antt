-- A purge keeps a sound state sound.
use Rattle.std.proofs.Common.{◌≢◌, ℕ, Bool, not, eqb, IsTrue, IsFalse, List, filter, sym, ap, ◌∙◌}
use Rattle.std.specs.Str.{bytes_eq}
use Rattle.std.proofs.lemmas.Bool.{true≢false, and_parts, ne_eqb, eqb-true, not_from_false}
use Rattle.adb_model.specs.Lists.{among, last}
use Rattle.adb_model.specs.State.{Stored, State}
use Rattle.adb_model.specs.Load.{is_of}
use Rattle.adb_model.specs.Call.{Rooted}
use Rattle.adb_model.specs.Callers.{purge_step}
use Rattle.adb_model.specs.Sound.{IsSound}
use Rattle.adb_model.proofs.Filters.{filter_twice, any_filter, any_unfilter}
use Rattle.adb_model.proofs.Outcomes.{through_unless, not_refused}
use Rattle.adb_model.proofs.StoresChange.{KeepsRooted, stores_changed}

abbrev pub stays : ℕ → Stored → Bool
stays slot t = not (eqb t.slot slot)

kept_of : (slot s : ℕ) (k : List ℕ) → s ≢ slot → (t : Stored) → IsTrue (is_of s k t) → IsTrue (stays slot t)
kept_of slot s k ne t is = let e = eqb-true t.slot s (and_parts (eqb t.slot s) (bytes_eq t.key k) is).0 in not_from_false _ (ne_eqb t.slot slot (λ f. ne (sym e ∙ f)))

not_root : (m : State) (slot : ℕ) → IsFalse (among slot m.roots) → (s : ℕ) → IsTrue (among s m.roots) → s ≢ slot
not_root m slot free s root e = true≢false (sym root ∙ ap (λ (n : ℕ). among n m.roots) e ∙ free)

pub purge_kept : (m : State) (slot : ℕ) → IsFalse (among slot m.roots) → KeepsRooted m (filter (stays slot) m.stores)
purge_kept m slot free =
    let ne = not_root m slot free in
    record {
      same = λ s root k. any_filter (is_of s k) (stays slot) (kept_of slot s k (ne s root)) m.stores;
      last = λ s root k. ap last (filter_twice (is_of s k) (stays slot) (kept_of slot s k (ne s root)) m.stores);
      fewer = λ s root q lt k st. any_unfilter (is_of q k) (stays slot) m.stores st;
    }

pub purge_keeps : (m : State) (slot : ℕ) → IsSound m → IsSound (purge_step m slot).0
purge_keeps m slot h = through_unless IsSound _ m _ h (λ free. stores_changed m (filter (stays slot) m.stores) (purge_kept m slot (not_refused (among slot m.roots) (Rooted slot) free)) h)
