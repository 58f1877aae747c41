-- The latest version that a view sees.
use Rattle.std.proofs.Common.{◌≡◌, ℕ, ◌<◌, ◌≤◌, List, [], ◌∷◌, Bool, true, false, cond, not, eqb, nat_lt, nat_le, Some, None, option_map, count_by, refl, sym, ap, ◌∙◌, IsTrue, IsFalse}
use Rattle.std.specs.Option.{option_map_or}
use Rattle.std.proofs.lemmas.Bool.{and_parts, le-ltb, lt-leb}
use Rattle.slot_list.specs.declared.Version.{Version}
use Rattle.slot_list.specs.Versions.{at}
use Rattle.slot_list.specs.Latest as slots
use Rattle.slot_list.specs.Latest.{IsLatest}
use Rattle.accounts_index.specs.Index.{kept, is_stored}
use Rattle.write_cache.specs.Rows.{rows, account_at}
use Rattle.adb_model.specs.Lists.{among}
use Rattle.adb_model.specs.Account.{Account}
use Rattle.adb_model.specs.View.{View}
use Rattle.adb_model.specs.State.{Row, State}
use Rattle.adb_model.specs.Load.{sees, last_store, answer}
use Rattle.adb_model.specs.Presence.{has_store, is_cached, is_named, is_present, ends_in_tomb}
use Rattle.adb_model.specs.Flush.{flush_rows}
use Rattle.adb_model.specs.Storages.{live_storage}
use Rattle.adb_model.specs.Call as machine
use Rattle.adb_model.specs.Call.{Load, ViewTooOld, TooManyPins}
use Rattle.adb_model.specs.Outcome.{unless, refused_if, first_of}
use Rattle.adb_model.specs.Callers.{found, place_of}
use Rattle.adb_model.specs.Step.{step}
use Rattle.book_parts.specs.Parts.{Parts}
use Rattle.book_parts.specs.Reflects.{Reflects, found_of, mark_of}
use Rattle.book_parts.proofs.Lookups.{unmarked, marked}

abbrev pub pins_of : State → ℕ → ℕ
pins_of m pass = count_by (λ p. eqb p.pass pass) m.pins

-- a load whose two refusals are known
pub load_step_is : (m : State) (pass : ℕ) (view : View) (key : List ℕ) (old many : Bool)
    → nat_lt view.max_root m.cleaned ≡ old → nat_le 64 (pins_of m pass) ≡ many
    → step m pass (Load view key) ≡ unless (first_of (refused_if old (ViewTooOld view.max_root m.cleaned) ∷ refused_if many (TooManyPins 64) ∷ [])) m (found m pass (answer m view key))
load_step_is m pass view key old many e f =
    ap (λ o. unless (first_of (refused_if o (ViewTooOld view.max_root m.cleaned) ∷ refused_if (nat_le 64 (pins_of m pass)) (TooManyPins 64) ∷ [])) m (found m pass (answer m view key))) e
    ∙ ap (λ b. unless (first_of (refused_if old (ViewTooOld view.max_root m.cleaned) ∷ refused_if b (TooManyPins 64) ∷ [])) m (found m pass (answer m view key))) f

-- one that is not refused
pub load_taken : (m : State) (pass : ℕ) (view : View) (key : List ℕ) → m.cleaned ≤ view.max_root → pins_of m pass < 64 → step m pass (Load view key) ≡ found m pass (answer m view key)
load_taken m pass view key new few = load_step_is m pass view key false false (le-ltb view.max_root m.cleaned new) (lt-leb 64 (pins_of m pass) few)

-- ---- the latest version

module _ (p : Parts) (m : State) (view : View) (key : List ℕ) (v : Version) where
  abbrev pub IsLast : Type 0
  IsLast = IsLatest (slots.sees view.ancestors p.roots view.max_root) (kept p.index key).versions (Some v)

  -- the view sees its slot, the pair is present and has its mark, and no higher one is both seen and present
  pub record IsTop : Type 0 where
    pub seen : IsTrue (sees m view v.slot)
    pub present : IsTrue (is_present m v.slot key)
    pub tomb : ends_in_tomb m v.slot key ≡ v.tomb
    pub cached : is_cached m v.slot key ≡ not (is_stored v.place)
    pub above : (s : ℕ) → v.slot < s → IsTrue (sees m view s) → IsFalse (is_present m s key)

  sees_same : Reflects p m → (s : ℕ) → slots.sees view.ancestors p.roots view.max_root s ≡ sees m view s
  sees_same r s = ap (λ (rs : List ℕ). slots.sees view.ancestors rs view.max_root s) r.roots

  pub top : Reflects p m → IsLast → IsTop
  top r l =
      let is = marked (is_present m v.slot key) (ends_in_tomb m v.slot key) (is_cached m v.slot key) (mark_of (found_of v)) (sym (ap (λ o. option_map mark_of (option_map found_of o)) l.0) ∙ r.marks key v.slot) in
      record {
        seen = sym (sees_same r v.slot) ∙ l.1;
        present = is.0;
        tomb = is.1;
        cached = is.2;
        above = λ s lt t. unmarked (is_present m s key) (ends_in_tomb m s key) (is_cached m s key) (sym (ap (λ o. option_map mark_of (option_map found_of o)) (l.2 s lt (sees_same r s ∙ t))) ∙ r.marks key s);
      }

-- where no slot that the view sees has a version, none has the key present
pub none_seen : (p : Parts) (m : State) (view : View) (key : List ℕ) → Reflects p m
    → ((s : ℕ) → slots.sees view.ancestors p.roots view.max_root s ≡ true → at s (kept p.index key).versions ≡ None)
    → (s : ℕ) → IsTrue (sees m view s) → IsFalse (is_present m s key)
none_seen p m view key r none s seen =
    let there = none s (ap (λ (rs : List ℕ). slots.sees view.ancestors rs view.max_root s) r.roots ∙ seen) in
    unmarked (is_present m s key) (ends_in_tomb m s key) (is_cached m s key) (sym (ap (λ o. option_map mark_of (option_map found_of o)) there) ∙ r.marks key s)

-- what is not named is found in the cache
pub cached_place : (m : State) (s : ℕ) (k : List ℕ) → IsFalse (is_named m s k) → place_of m s k ≡ machine.Cached
cached_place m s k none = ap (λ b. cond b (option_map_or (λ t. machine.InStorage t.id) (live_storage m s) machine.Cached) machine.Cached) none

-- ---- the row of a pair

account_by : (f : Bool) (rs : List Row) (k : List ℕ) (account : Account) → account_at (cond f [] rs) k ≡ Some account → account_at rs k ≡ Some account
account_by true rs k account e = let h : None ≡ Some account = e in absurd cc
account_by false rs k account e = e

-- is that of the pair's last store
pub row_account : (p : Parts) (m : State) (s : ℕ) (k : List ℕ) (account : Account) → Reflects p m → account_at (flush_rows m s) k ≡ option_map (λ t. t.account) (last_store m s k)
    → account_at (rows p.cache s) k ≡ Some account → option_map (λ t. t.account) (last_store m s k) ≡ Some account
row_account p m s k account r is e = sym is ∙ account_by (among s m.flushed) (flush_rows m s) k account (ap (λ rs. account_at rs k) (sym (r.rows s)) ∙ e)

-- a cached pair's slot is not flushed
pub cached_unflushed : (m : State) (s : ℕ) (k : List ℕ) → IsTrue (is_cached m s k) → IsFalse (among s m.flushed)
cached_unflushed m s k e = flip (among s m.flushed) (and_parts (has_store m s k) (not (among s m.flushed)) e).1
  where
    flip : (b : Bool) → not b ≡ true → b ≡ false
    flip true e = absurd cc
    flip false e = refl
