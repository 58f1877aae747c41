-- Where stored places lead, what recycling frees, and when a copy is installed.
use Rattle.std.proofs.Common.{◌≡◌, ◌≢◌, ℕ, eqb, Bool, true, false, cond, not, ◌&&◌, ◌||◌, IsTrue, IsFalse, List, Any, Contains, Some, ◌↔◌, refl, sym, ap, ◌∙◌, inl, inr}
use Rattle.std.specs.Option.{option_map_or}
use Rattle.std.proofs.lemmas.Bool.{and_parts, eqb-true, not-false, or_parts, false_from_ne_true}
use Rattle.std.proofs.lemmas.List.Elements.{All-contains}
use Rattle.adb_model.specs.State.{Storage, Shrink, State}
use Rattle.adb_model.specs.Presence.{is_named, is_live, has_row}
use Rattle.adb_model.specs.Storages.{live_storage, is_retired, is_pinned, open_shrink}
use Rattle.adb_model.specs.Call.{Cached, InStorage, Reply, Done, Superseded, NotShrinking}
use Rattle.adb_model.specs.Shrink.{is_current, installed, copy_dropped, shrink_end_step}
use Rattle.adb_model.specs.Snap.{recycle_step}
use Rattle.adb_model.specs.Outcome.{when_found}
use Rattle.adb_model.specs.Sound.{IsSound, RowsFit, last_account}
use Rattle.adb_model.specs.Laws.{IsPlacedIn}
use Rattle.adb_model.proofs.Members.{member, found, finds, any_at, into_filter}
use Rattle.adb_model.proofs.Pairs.{pairs_at}

-- a named pair is found in the Live storage of its slot, by its last store
pub placed : (m : State) → IsSound m → (s : ℕ) (k : List ℕ) → IsTrue (is_named m s k) → Any (IsPlacedIn m s k) m.storages
placed m h s k named =
    let a = member (λ u. (is_live u && eqb u.slot s) && has_row k u.rows) m.storages (h.names.held s k named) in
    let parts = and_parts _ _ a.2 in
    let first = and_parts (is_live a.0) (eqb a.0.slot s) parts.0 in
    let slot = eqb-true a.0.slot s first.1 in
    let t = finds (λ u. is_live u && eqb u.slot s) m.storages (any_at (λ u. is_live u && eqb u.slot s) m.storages a.0 a.1 parts.0) in
    let f = found (λ u. is_live u && eqb u.slot s) m.storages t.0 t.1 in
    let live = and_parts (is_live t.0) (eqb t.0.slot s) f.1 in
    let one : t.0 ≡ a.0 = elim (pairs_at (λ t u. IsTrue (is_live t) → IsTrue (is_live u) → t.slot ≢ u.slot) m.storages t.0 a.0 h.slots.one_live f.0 a.1) [
      | inl same ↦ same
      | inr (inl apart) ↦ absurd (apart live.0 first.0 (eqb-true t.0.slot s live.1 ∙ sym slot))
      | inr (inr apart) ↦ absurd (apart first.0 live.0 (slot ∙ sym (eqb-true t.0.slot s live.1)))
    ] in
    let fits : RowsFit m a.0 = All-contains (RowsFit m) m.storages a.0 h.rows a.1 in (
      a.1.0,
      a.0,
      a.1.1,
      a.1.2,
      record {
        there = first.0;
        slot = slot;
        place =
            ap (λ b. cond b (option_map_or (λ u. InStorage u.id) (live_storage m s) Cached) Cached) named
            ∙ ap (λ o. option_map_or (λ u. InStorage u.id) o Cached) t.1 ∙ ap (λ (u : Storage). InStorage u.id) one;
        row = parts.1;
        last = fits.last k parts.1 ∙ ap (λ (n : ℕ). last_account m n k) slot;
      },
    )

-- what recycling frees was Retired, and nobody's
pub freed : (m : State) (t : Storage) → Contains m.storages t → (Contains (recycle_step m).0.storages t → ⊥) → IsTrue (is_retired t) × IsFalse (is_pinned m t.id)
freed m t c gone =
    let keep : Storage → Bool = λ t. not (is_retired t) || is_pinned m t.id in
    let f : IsFalse (keep t) = false_from_ne_true (keep t) (λ k. gone (into_filter keep m.storages t c k)) in
    let parts = or_parts (not (is_retired t)) (is_pinned m t.id) f in
    (not-false _ parts.0, parts.1)

ended_reply : (m : State) (slot : ℕ) (g : Shrink) (b : Bool) → ((let ended : State × Reply = cond b (installed m g, Done) (copy_dropped m g, Superseded slot g.old) in ended).1 ≡ Done) ↔ IsTrue b
ended_reply m slot g true = (λ e. refl, λ e. refl)
ended_reply m slot g false = (λ e. absurd (let none : Superseded slot g.old ≡ Done = e in cc), λ e. absurd (let none : false ≡ true = e in cc))

-- a copy is installed exactly where the old storage is Live
pub installs_current : (m : State) (slot : ℕ) (g : Shrink) → open_shrink m slot ≡ Some g → ((shrink_end_step m slot).1 ≡ Done) ↔ IsTrue (is_current m g)
installs_current m slot g e =
    let done : Shrink → State × Reply = λ h. cond (is_current m h) (installed m h, Done) (copy_dropped m h, Superseded slot h.old) in
    let reply : (shrink_end_step m slot).1 ≡ (done g).1 = ap (λ o. (when_found o (NotShrinking slot) m done).1) e in
    let of = ended_reply m slot g (is_current m g) in
    (λ d. of.0 (sym reply ∙ d), λ t. reply ∙ of.1 t)
