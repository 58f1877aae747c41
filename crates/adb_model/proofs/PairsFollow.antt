-- Which pairs are cached, present or tombs, after a store and after a purge.
use Rattle.std.proofs.Common.{◌≡◌, ℕ, eqb, Bool, true, false, cond, not, ◌&&◌, ◌||◌, IsFalse, List, Some, None, refl, sym, ap, ◌∙◌, arith}
use Rattle.std.proofs.Math.Bool.{or_comm, or_assoc}
use Rattle.std.specs.Option.{option_map_or, is_some}
use Rattle.std.specs.Str.{bytes_eq}
use Rattle.std.proofs.lemmas.Bool.{true≢false, and_parts, eqb-true, false_from_ne_true, not_from_false}
use Rattle.adb_model.specs.Lists.{among}
use Rattle.adb_model.specs.Account.{Account, is_tomb}
use Rattle.adb_model.specs.State.{State}
use Rattle.adb_model.specs.Load.{is_of, last_store}
use Rattle.adb_model.specs.Presence.{has_store, is_cached, is_named, is_present, ends_in_tomb}
use Rattle.adb_model.specs.Callers.{rooted_by, with_store, without_stores}
use Rattle.adb_model.specs.Sound.{IsSound}
use Rattle.adb_model.proofs.Members.{any_push}
use Rattle.adb_model.proofs.Roots.{above_roots}
use Rattle.adb_model.proofs.LastStores.{last_after, last_purged, stored_last}

-- ---- slots that no root bars

pub only_roots : (m : State) → IsSound m → (slot : ℕ) → IsFalse (among slot m.roots) → IsFalse (among slot m.flushed)
only_roots m h slot free = false_from_ne_true (among slot m.flushed) (λ t. true≢false (sym (h.slots.roots slot t) ∙ free))

pub no_root : (m : State) → IsSound m → (slot : ℕ) → rooted_by m slot ≡ None → IsFalse (among slot m.roots)
no_root m h slot free = false_from_ne_true (among slot m.roots) (λ t. let lt = above_roots m slot h.limits.roots free slot t in omega (arith, lt))

pub no_names : (m : State) → IsSound m → (slot : ℕ) → IsFalse (among slot m.flushed) → (k : List ℕ) → IsFalse (is_named m slot k)
no_names m h slot free k = false_from_ne_true (is_named m slot k) (λ t. true≢false (sym (h.slots.named slot k t) ∙ free))

-- ---- a store

module _ (m : State) (slot : ℕ) (key : List ℕ) (account : Account) (s : ℕ) (k : List ℕ) where
  abbrev n : State
  n = with_store m slot key account

  abbrev here : Bool
  here = eqb slot s && bytes_eq key k

  pub has_after : has_store n s k ≡ (here || has_store m s k)
  has_after = any_push (is_of s k) m.stores (record { slot = slot; key = key; account = account }) ∙ or_comm (has_store m s k) here

  pub cached_after : IsFalse (among slot m.flushed) → is_cached n s k ≡ (here || is_cached m s k)
  cached_after free = ap (λ b. b && not (among s m.flushed)) has_after ∙ by here refl
    where
      by : (b : Bool) → here ≡ b → ((b || has_store m s k) && not (among s m.flushed)) ≡ (b || is_cached m s k)
      by true e = not_from_false _ (ap (λ q. among q m.flushed) (sym (eqb-true slot s (and_parts (eqb slot s) (bytes_eq key k) e).0)) ∙ free)
      by false e = refl

  pub present_after : IsFalse (among slot m.flushed) → is_present n s k ≡ (here || is_present m s k)
  present_after free = ap (λ b. b || is_named m s k) (cached_after free) ∙ or_assoc here (is_cached m s k) (is_named m s k)

  pub tomb_after : ends_in_tomb n s k ≡ cond here (is_tomb account) (ends_in_tomb m s k)
  tomb_after = ap (λ o. option_map_or (λ t. is_tomb t.account) o false) (last_after m slot key account s k) ∙ by here
    where
      by : (b : Bool) → option_map_or (λ t. is_tomb t.account) (cond b (Some (record { slot = slot; key = key; account = account })) (last_store m s k)) false ≡ cond b (is_tomb account) (ends_in_tomb m s k)
      by true = refl
      by false = refl

-- ---- a purge

module _ (m : State) (slot s : ℕ) (k : List ℕ) where
  abbrev p : State
  p = without_stores m slot

  pub has_purged : has_store p s k ≡ (not (eqb slot s) && has_store m s k)
  has_purged = stored_last p s k ∙ ap is_some (last_purged m slot s k) ∙ by (eqb slot s)
    where
      by : (b : Bool) → is_some (cond b None (last_store m s k)) ≡ (not b && has_store m s k)
      by true = refl
      by false = sym (stored_last m s k)

  pub cached_purged : is_cached p s k ≡ (not (eqb slot s) && is_cached m s k)
  cached_purged = ap (λ b. b && not (among s m.flushed)) has_purged ∙ by (eqb slot s)
    where
      by : (b : Bool) → ((not b && has_store m s k) && not (among s m.flushed)) ≡ (not b && is_cached m s k)
      by true = refl
      by false = refl

  pub present_purged : IsSound m → IsFalse (among slot m.flushed) → is_present p s k ≡ (not (eqb slot s) && is_present m s k)
  present_purged h free = ap (λ b. b || is_named m s k) cached_purged ∙ by (eqb slot s) refl
    where
      by : (b : Bool) → eqb slot s ≡ b → ((not b && is_cached m s k) || is_named m s k) ≡ (not b && is_present m s k)
      by true e = no_names m h s (ap (λ q. among q m.flushed) (sym (eqb-true slot s e)) ∙ free) k
      by false e = refl

  pub tomb_purged : ends_in_tomb p s k ≡ (not (eqb slot s) && ends_in_tomb m s k)
  tomb_purged = ap (λ o. option_map_or (λ t. is_tomb t.account) o false) (last_purged m slot s k) ∙ by (eqb slot s)
    where
      by : (b : Bool) → option_map_or (λ t. is_tomb t.account) (cond b None (last_store m s k)) false ≡ (not b && ends_in_tomb m s k)
      by true = refl
      by false = refl
