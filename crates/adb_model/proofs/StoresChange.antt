-- A change of the stores that keeps those of roots.
use Rattle.std.proofs.Common.{◌≡◌, ℕ, ◌<◌, false, not, IsTrue, IsFalse, List, All, get_or, option_map, sym, ap, ◌∙◌, inl, inr}
use Rattle.std.specs.Option.{option_map_or}
use Rattle.std.proofs.lemmas.Bool.{true≢false, cases_Bool, or_parts, or_from, and_cases, and_left, and_right, false_from_ne_true}
use Rattle.adb_model.specs.Lists.{among}
use Rattle.adb_model.specs.Account.{is_tomb}
use Rattle.adb_model.specs.State.{Stored, Storage, State}
use Rattle.adb_model.specs.Load.{last_store}
use Rattle.adb_model.specs.Presence.{has_store, is_cached, is_present, is_named}
use Rattle.adb_model.specs.Storages.{is_filling}
use Rattle.adb_model.specs.Gone.{IsGone}
use Rattle.adb_model.specs.Sound.{IsSound, SlotFits, RowsFit}

abbrev pub with_stores : State → List Stored → State
with_stores m stores = record m { stores = stores }

pub record KeepsRooted (m : State) (stores : List Stored) : Type 0 where
  pub same : (s : ℕ) → IsTrue (among s m.roots) → (k : List ℕ) → has_store (with_stores m stores) s k ≡ has_store m s k
  pub last : (s : ℕ) → IsTrue (among s m.roots) → (k : List ℕ) → last_store (with_stores m stores) s k ≡ last_store m s k
  pub fewer : (s : ℕ) → IsTrue (among s m.roots) → (q : ℕ) → q < s → (k : List ℕ) → IsTrue (has_store (with_stores m stores) q k) → IsTrue (has_store m q k)

-- each storage is of a root
pub rooted : (m : State) → IsSound m → All (λ t. IsTrue (among t.slot m.roots)) m.storages
rooted m h k d lt = by (get_or m.storages k d) (h.slots.storages k d lt)
  where
    by : (t : Storage) → SlotFits m t → IsTrue (among t.slot m.roots)
    by t fits = elim (cases_Bool (is_filling t)) [ inl filling ↦ fits.rooted filling | inr settled ↦ h.slots.roots t.slot (fits.settled settled) ]

rows_kept : (m : State) (stores : List Stored) → KeepsRooted m stores → (t : Storage) → IsTrue (among t.slot m.roots) → RowsFit m t → RowsFit (with_stores m stores) t
rows_kept m stores keeps t root fits = record {
  stored = λ k r. keeps.same t.slot root k ∙ fits.stored k r;
  last = λ k r. fits.last k r ∙ sym (ap (option_map (λ u. u.account)) (keeps.last t.slot root k));
  some = fits.some;
  whole = λ f u k s. fits.whole f u k (sym (keeps.same t.slot root k) ∙ s);
}

present_kept : (m : State) (stores : List Stored) (q : ℕ) (k : List ℕ) → (IsTrue (has_store (with_stores m stores) q k) → IsTrue (has_store m q k)) → IsFalse (is_present m q k) → IsFalse (is_present (with_stores m stores) q k)
present_kept m stores q k fewer none =
    let parts = or_parts (is_cached m q k) (is_named m q k) none in
    or_from _ (is_named m q k)
    (elim (and_cases (has_store m q k) (not (among q m.flushed)) parts.0) [
      | inl no_store ↦ and_left _ _ (false_from_ne_true _ (λ t. true≢false (sym (fewer t) ∙ no_store)))
      | inr flushed ↦ and_right _ _ flushed
    ])
    parts.1

gone_kept : (m : State) (stores : List Stored) → KeepsRooted m stores → (s : ℕ) (k : List ℕ) → IsTrue (among s m.roots) → IsGone m s k → IsGone (with_stores m stores) s k
gone_kept m stores keeps s k root (inl c) = inl (record { root = c.root; is_root = c.is_root; above = c.above; upto = c.upto; stored = keeps.same c.root c.is_root k ∙ c.stored })
gone_kept m stores keeps s k root (inr b) = inr (record {
  tomb = ap (λ o. option_map_or (λ t. is_tomb t.account) o false) (keeps.last s root k) ∙ b.tomb;
  upto = b.upto;
  lowest = λ q lt. let none = b.lowest q lt in (present_kept m stores q k (keeps.fewer s root q lt k) none.0, none.1);
})

pub stores_changed : (m : State) (stores : List Stored) → KeepsRooted m stores → IsSound m → IsSound (with_stores m stores)
stores_changed m stores keeps h = record {
  limits = h.limits;
  slots = h.slots;
  ids = h.ids;
  rows = λ k d lt. rows_kept m stores keeps (get_or m.storages k d) (rooted m h k d lt) (h.rows k d lt);
  names = h.names;
  copies = h.copies;
  gone = λ s k st flushed unnamed.
      let root = h.slots.roots s flushed in
      gone_kept m stores keeps s k root (h.gone s k (sym (keeps.same s root k) ∙ st) flushed unnamed);
}
