-- Reclaims that go on come to an end, and leave flushes as they are.
use Rattle.std.proofs.Common.{◌≡◌, ◌≢◌, ℕ, zero, suc, ◌<◌, ◌≤◌, eqb, ltb, Bool, true, not, ◌&&◌, IsTrue, List, [], ◌∷◌, length, take, AllPairs, Contains, Option, Some, None, refl, sym, ap, ◌∙◌, subst, inl, inr, ◌⊎◌, arith}
use Rattle.std.specs.List.{list_any}
use Rattle.std.specs.Option.{option_map_or}
use Rattle.std.specs.Ordering.{is_lt}
use Rattle.std.specs.Str.{bytes_eq}
use Rattle.std.specs.declared.cmp.Ordering.{Ordering}
use Rattle.std.specs.declared.cmp.Ordering.TheVariants.{Less, Equal, Greater}
use Rattle.std.proofs.lemmas.Bool.{true≢false, and_parts, or_cases, or_left, or_right, eqb-true, eq-eqb, ltb-true, lt-ltb}
use Rattle.std.proofs.lemmas.List.Elements.{Contains-get_or}
use Rattle.std.proofs.lemmas.List.Kept.{AllPairs-cons, AllPairs-filter}
use Rattle.adb_model.specs.Lists.{last}
use Rattle.adb_model.specs.State.{Storage, Pair, State}
use Rattle.adb_model.specs.Presence.{is_cached, is_named, is_pair, is_present, ends_in_tomb}
use Rattle.adb_model.specs.Storages.{is_filling, is_copy, open_flush}
use Rattle.adb_model.specs.Reclaimable.{present_slots, is_crowded, key_cmp, crowded_keys, is_shadowed, is_spent}
use Rattle.adb_model.specs.Reclaim.{keys_taken, is_taken, retired, retire_unnamed, drop_shadowed, drop_spent, reclaimed}
use Rattle.adb_model.specs.Cleaning.{crowded_above}
use Rattle.adb_model.proofs.Members.{contains_next, contains_cases, contains_none, from_filter, into_filter}
use Rattle.adb_model.proofs.Filters.{any_unfilter, last_contained}
use Rattle.adb_model.proofs.Distinct.{bytes_eq-true, bytes_eq_self}
use Rattle.adb_model.proofs.Finds.{find_kept}
use Rattle.adb_model.proofs.Known.{present_from, present_into}
use Rattle.adb_model.proofs.Phases.{live_filled}
use Rattle.adb_model.proofs.Within.{within}
use Rattle.adb_model.proofs.Retiring.{Retires}
use Rattle.adb_model.proofs.ReclaimKeeps.{may_retire, filling_stays}
use Rattle.adb_model.proofs.CrowdedKeys.{key_apart, key_trans, keys_rise, crowded_is, slots_differ}

from_take : {X : Type 0} (n : ℕ) (xs : List X) (x : X) → Contains (take n xs) x → Contains xs x
from_take zero xs x c = absurd (contains_none x c)
from_take (suc n) [] x c = absurd (contains_none x c)
from_take (suc n) (y ∷ ys) x c = elim (contains_cases y x (take n ys) c) [ inl e ↦ (0, omega arith, e) | inr d ↦ contains_next y x ys (from_take n ys x d) ]

less_is : (o : Ordering) → IsTrue (is_lt o) → o ≡ Less
less_is Less t = refl
less_is Equal t = absurd (true≢false (sym t))
less_is Greater t = absurd (true≢false (sym t))

-- ---- fewer keys

-- the key is above another, or any
abbrev is_above : Option (List ℕ) → List ℕ → Bool
is_above after k = option_map_or (λ a. is_lt (key_cmp a k)) after true

above_more : (after : Option (List ℕ)) (key k : List ℕ) → IsTrue (is_above after key) → key_cmp key k ≡ Less → IsTrue (is_above after k)
above_more None key k t lt = refl
above_more (Some a) key k t lt = ap is_lt (key_trans a key k (less_is (key_cmp a key) t) lt)

module _ (keys : List (List ℕ)) (m : State) where
  abbrev n : State
  n = reclaimed keys m

  -- what is named then was named before
  named_before : (test : Pair → Bool) → IsTrue (list_any test n.named) → IsTrue (list_any test m.named)
  named_before test t =
      let middle = retire_unnamed (drop_shadowed keys m) in
      any_unfilter test (λ p. not (is_taken keys p.key && is_shadowed m p.slot p.key)) m.named
      (any_unfilter test (λ p. not (is_taken keys p.key && is_spent middle p.slot p.key)) middle.named t)

  present_before : (s : ℕ) (k : List ℕ) → IsTrue (is_present n s k) → IsTrue (is_present m s k)
  present_before s k t = elim (or_cases (is_cached m s k) (is_named n s k) t) [
    | inl cached ↦ or_left (is_cached m s k) (is_named m s k) cached
    | inr named ↦ or_right (is_cached m s k) (is_named m s k) (named_before (is_pair s k) named)
  ]

  slots_before : (k : List ℕ) → length (present_slots n k) ≤ length (present_slots m k)
  slots_before k = within eqb eqb-true (λ s. eq-eqb s s refl) (present_slots n k) (present_slots m k) (slots_differ n k) (λ s c. present_into m s k (present_before s k (present_from n s k c)))

  crowded_before : (k : List ℕ) → IsTrue (is_crowded n k) → IsTrue (is_crowded m k)
  crowded_before k t = elim (or_cases (ltb 1 (length (present_slots n k))) (list_any (λ p. bytes_eq p.key k && ends_in_tomb n p.slot k) n.named) t) [
    | inl more ↦ (let lt = ltb-true 1 (length (present_slots n k)) more in or_left _ _ (lt-ltb 1 (length (present_slots m k)) (omega (arith, lt, slots_before k))))
    | inr tomb ↦ or_right _ _ (named_before (λ p. bytes_eq p.key k && ends_in_tomb m p.slot k) tomb)
  ]

  module _ (after : Option (List ℕ)) (key : List ℕ) (there : Contains (crowded_above m after) key) where
    above_key : (k : List ℕ) → Contains (crowded_above n (Some key)) k → key_cmp key k ≡ Less
    above_key k c = less_is (key_cmp key k) (from_filter (is_above (Some key)) (crowded_keys n) k c).1

    -- what is left above the key was above where the reclaim began
    still_above : (k : List ℕ) → Contains (crowded_above n (Some key)) k → Contains (crowded_above m after) k
    still_above k c =
        let crowded = crowded_before k ((crowded_is n k).0 (from_filter (is_above (Some key)) (crowded_keys n) k c).0) in
        into_filter (is_above after) (crowded_keys m) k ((crowded_is m k).1 crowded)
        (above_more after key k (from_filter (is_above after) (crowded_keys m) key there).1 (above_key k c))

    rest_differs : AllPairs (λ a b. a ≢ b) (key ∷ crowded_above n (Some key))
    rest_differs =
        AllPairs-cons (λ a b. a ≢ b) key (crowded_above n (Some key)) (λ i d lt. key_apart key _ (above_key _ (Contains-get_or (crowded_above n (Some key)) i d lt)))
        (AllPairs-filter (λ a b. a ≢ b) (is_above (Some key)) (crowded_keys n) (λ i j d lt in'. key_apart _ _ (keys_rise n i j d lt in')))

    fewer_above : length (crowded_above n (Some key)) < length (crowded_above m after)
    fewer_above =
        let few = within bytes_eq bytes_eq-true bytes_eq_self (key ∷ crowded_above n (Some key)) (crowded_above m after) rest_differs
        (λ k c. elim (contains_cases key k (crowded_above n (Some key)) c) [ inl e ↦ subst (Contains (crowded_above m after)) e there | inr d ↦ still_above k d ]) in
        omega (arith, few)

pub fewer_left : (m : State) (after : Option (List ℕ)) (most : ℕ) (key : List ℕ) → last (keys_taken m after most) ≡ Some key → length (crowded_above (reclaimed (keys_taken m after most) m) (Some key)) < length (crowded_above m after)
fewer_left m after most key e = fewer_above (keys_taken m after most) m after key (from_take most (crowded_above m after) key (last_contained (keys_taken m after most) key e))

-- ---- flushes

retired_flush : (m : State) (s : ℕ) → open_flush (retire_unnamed m) s ≡ open_flush m s
retired_flush m s = find_kept (retired m) (λ u. (is_filling u && eqb u.slot s) && not (is_copy m u.id)) m.storages (λ u c. (
  by u (may_retire m u),
  λ x. filling_stays m u (and_parts (is_filling u) (eqb u.slot s) (and_parts (is_filling u && eqb u.slot s) (not (is_copy m u.id)) x).0).0,
))
  where
    by : (u : Storage) → (retired m u ≡ u) ⊎ Retires m u (retired m u)
        → ((is_filling (retired m u) && eqb (retired m u).slot s) && not (is_copy m (retired m u).id)) ≡ ((is_filling u && eqb u.slot s) && not (is_copy m u.id))
    by u (inl e) = ap (λ v. (is_filling v && eqb v.slot s) && not (is_copy m v.id)) e
    by u (inr r) =
        ap (λ v. (is_filling v && eqb v.slot s) && not (is_copy m v.id)) r.is
        ∙ sym (ap (λ b. (b && eqb u.slot s) && not (is_copy m u.id)) (live_filled u r.live))

pub reclaim_flush : (m : State) (pass : ℕ) (after : Option (List ℕ)) (most s : ℕ) → open_flush (reclaimed (keys_taken m after most) m) s ≡ open_flush m s
reclaim_flush m pass after most s =
    let keys = keys_taken m after most in
    retired_flush (drop_spent keys (retire_unnamed (drop_shadowed keys m))) s ∙ retired_flush (drop_shadowed keys m) s
