-- What the end of a flush changes of which storages are found, and of which pairs.
use Rattle.std.proofs.Common.{◌≡◌, ℕ, eqb, Bool, true, false, cond, not, ◌&&◌, ◌||◌, IsTrue, IsFalse, List, [], ◌∷◌, find, Contains, Some, None, refl, sym, ap, ap₂, ◌∙◌, subst, inl, inr, ◌⊎◌, option_map}
use Rattle.std.proofs.Math.Bool.{or_comm}
use Rattle.std.specs.List.{list_any}
use Rattle.std.specs.Str.{bytes_eq}
use Rattle.std.proofs.lemmas.Bool.{true≢false, and_parts, and_from, or_cases, or_left, or_right, eqb-true, eqb-false, eq-eqb, cases_eq, false_from_ne_true}
use Rattle.std.proofs.lemmas.List.Folds.{list_any-append}
use Rattle.adb_model.specs.Lists.{among}
use Rattle.adb_model.specs.State.{Row, Live, Storage, Pair, State}
use Rattle.adb_model.specs.Presence.{has_store, is_cached, is_named, is_present, is_held, is_live, has_row, is_pair}
use Rattle.adb_model.specs.Storages.{is_filling, is_copy, storage_with, live_storage, filling_storage, open_flush, in_phase}
use Rattle.adb_model.specs.Flush.{flushed_with}
use Rattle.adb_model.specs.Sound.{IsSound}
use Rattle.adb_model.specs.Laws.{IsOpenFlush}
use Rattle.adb_model.proofs.Members.{any_push, any_map, from_map, into_map}
use Rattle.adb_model.proofs.Filters.{same_truth}
use Rattle.adb_model.proofs.Phases.{id_same, slot_same, other_same}
use Rattle.adb_model.proofs.Finds.{none_finds, one_found, find_same, find_kept, find_map}
use Rattle.adb_model.proofs.FlushEndKeeps as end
use Rattle.adb_model.proofs.FlushEndKeeps.{IsOpen, opened}
use Rattle.adb_model.proofs.OpenFlush.{none_live, open_flush_is}

-- what a slot alone asks for
any_and : {X : Type 0} (b : Bool) (p : X → Bool) (xs : List X) → list_any (λ x. b && p x) xs ≡ (b && list_any p xs)
any_and true p xs = refl
any_and false p [] = refl
any_and false p (x ∷ xs) = any_and false p xs

unflushed_alike : (a b c : Bool) → (a && not (b || c)) ≡ ((a && not c) && not b)
unflushed_alike false b c = refl
unflushed_alike true true true = refl
unflushed_alike true true false = refl
unflushed_alike true false true = refl
unflushed_alike true false false = refl

-- in the flushed slot what was stored is named then, elsewhere nothing changes
present_here : (stored flushed named row : Bool) → IsFalse flushed → IsFalse named → row ≡ stored → (((stored && not flushed) && not true) || (named || (true && row))) ≡ ((stored && not flushed) || named)
present_here stored true named row f n e = absurd (true≢false f)
present_here stored false true row f n e = absurd (true≢false n)
present_here true false false row f n e = e
present_here false false false row f n e = e

present_there : (cached named row : Bool) → ((cached && not false) || (named || (false && row))) ≡ (cached || named)
present_there true named row = refl
present_there false true row = refl
present_there false false row = refl

module _ (m : State) (h : IsSound m) (slot : ℕ) (t : Storage) (e : open_flush m slot ≡ Some t) where
  abbrev n : State
  n = flushed_with m t

  abbrev now : Storage
  now = record t { phase = Live }

  is : IsOpen m t
  is = (opened m slot t h e).0

  same : t.slot ≡ slot
  same = (opened m slot t h e).1

  facts : IsOpenFlush m slot t
  facts = open_flush_is m h slot t e

  pub changed_here : in_phase t.id Live t ≡ now
  changed_here = ap (λ b. cond b now t) (eq-eqb t.id t.id refl)

  -- ---- pairs

  pub flushed_ended : (s : ℕ) → among s n.flushed ≡ (eqb slot s || among s m.flushed)
  flushed_ended s = any_push (λ x. eqb x s) m.flushed t.slot ∙ or_comm (among s m.flushed) (eqb t.slot s) ∙ ap (λ q. eqb q s || among s m.flushed) same

  pub cached_ended : (s : ℕ) (k : List ℕ) → is_cached n s k ≡ (is_cached m s k && not (eqb slot s))
  cached_ended s k = ap (λ b. has_store m s k && not b) (flushed_ended s) ∙ unflushed_alike (has_store m s k) (eqb slot s) (among s m.flushed)

  pub named_ended : (s : ℕ) (k : List ℕ) → is_named n s k ≡ (is_named m s k || (eqb slot s && has_row k t.rows))
  named_ended s k =
      list_any-append (is_pair s k) m.named (end.pairs t)
      ∙ ap (λ b. is_named m s k || b) (any_map (λ (r : Row). let pair : Pair = record { slot = t.slot; key = r.key } in pair) (is_pair s k) t.rows ∙ any_and (eqb t.slot s) (λ (r : Row). bytes_eq r.key k) t.rows)
      ∙ ap (λ q. is_named m s k || (eqb q s && has_row k t.rows)) same

  pub present_ended : (s : ℕ) (k : List ℕ) → is_present n s k ≡ is_present m s k
  present_ended s k = ap₂ (λ a b. a || b) (cached_ended s k) (named_ended s k) ∙ by (eqb slot s) refl
    where
      by : (b : Bool) → eqb slot s ≡ b → ((is_cached m s k && not b) || (is_named m s k || (b && has_row k t.rows))) ≡ is_present m s k
      by true f =
          let here = eqb-true slot s f in
          present_here (has_store m s k) (among s m.flushed) (is_named m s k) (has_row k t.rows)
          (ap (λ q. among q m.flushed) (sym here) ∙ facts.unflushed) (ap (λ q. is_named m q k) (sym here) ∙ facts.named k) (facts.stored k ∙ ap (λ q. has_store m q k) here)
      by false f = present_there (is_cached m s k) (is_named m s k) (has_row k t.rows)

  pub held_ended : (s : ℕ) (k : List ℕ) → is_held n s k ≡ ((eqb slot s && has_row k t.rows) || is_held m s k)
  held_ended s k = same_truth _ _ (λ held. to (end.held_cases m t h is s k held)) (λ b. from (or_cases (eqb slot s && has_row k t.rows) (is_held m s k) b))
    where
      to : IsTrue (is_held m s k) ⊎ ((t.slot ≡ s) × IsTrue (has_row k t.rows)) → IsTrue ((eqb slot s && has_row k t.rows) || is_held m s k)
      to (inl before) = or_right _ _ before
      to (inr new) = or_left _ _ (and_from _ _ (eq-eqb slot s (sym same ∙ new.0)) new.1)

      from : IsTrue (eqb slot s && has_row k t.rows) ⊎ IsTrue (is_held m s k) → IsTrue (is_held n s k)
      from (inl new) = let parts = and_parts (eqb slot s) (has_row k t.rows) new in end.held_of m t h is t s k is.there (end.here_live m t h is) (same ∙ eqb-true slot s parts.0) parts.1
      from (inr before) = end.held_after m t h is s k before

  -- ---- storages

  pub with_id_ended : (id : ℕ) → storage_with n id ≡ option_map (in_phase t.id Live) (storage_with m id)
  with_id_ended id =
      find_map (in_phase t.id Live) (λ (u : Storage). eqb u.id id) m.storages
      ∙ ap (option_map (in_phase t.id Live)) (find_same (λ u. eqb (in_phase t.id Live u).id id) (λ (u : Storage). eqb u.id id) (λ u. ap (λ (q : ℕ). eqb q id) (id_same t.id Live u)) m.storages)

  -- what asks for another slot finds what it did
  other_slots : (p : Storage → Bool) (s : ℕ) → ((u : Storage) → IsTrue (p u) → u.slot ≡ s) → IsFalse (eqb slot s) → find p n.storages ≡ find p m.storages
  other_slots p s asks other = find_kept (in_phase t.id Live) p m.storages (λ u c. by u c (cases_eq u.id t.id))
    where
      apart : (u : Storage) → Contains m.storages u → u.id ≡ t.id → u.slot ≡ s → ⊥
      apart u c f g = eqb-false slot s other (sym same ∙ ap (λ (v : Storage). v.slot) (sym (end.one m t h is u c f)) ∙ g)

      by : (u : Storage) → Contains m.storages u → (u.id ≡ t.id) ⊎ (u.id ≡ t.id → ⊥) → (p (in_phase t.id Live u) ≡ p u) × (IsTrue (p u) → in_phase t.id Live u ≡ u)
      by u c (inl f) = (
        false_from_ne_true _ (λ x. apart u c f (sym (slot_same t.id Live u) ∙ asks (in_phase t.id Live u) x)) ∙ sym (false_from_ne_true _ (λ x. apart u c f (asks u x))),
        λ x. absurd (apart u c f (asks u x)),
      )
      by u c (inr ne) = (ap p (other_same t.id Live u ne), λ x. other_same t.id Live u ne)

  -- nothing of the slot is being filled any more
  none_fills : (p : Storage → Bool) (s : ℕ) → ((u : Storage) → IsTrue (p u) → IsTrue (is_filling u) × (u.slot ≡ s)) → IsTrue (eqb slot s) → find p n.storages ≡ None
  none_fills p s asks here = none_finds p n.storages (λ v c x.
      let w = from_map (in_phase t.id Live) m.storages v c in
      let asked = asks v x in
      let was = end.filling_before m t h is w.0 (ap is_filling w.2 ∙ asked.0) in
      end.other_slot m t h is w.0 w.1 was.1 was.0 (sym (slot_same t.id Live w.0) ∙ ap (λ (u : Storage). u.slot) w.2 ∙ asked.1 ∙ sym (eqb-true slot s here) ∙ sym same))

  pub live_ended : (s : ℕ) → live_storage n s ≡ cond (eqb slot s) (Some now) (live_storage m s)
  live_ended s = by (eqb slot s) refl
    where
      only : t.slot ≡ s → (v : Storage) → Contains n.storages v → IsTrue (is_live v && eqb v.slot s) → v ≡ now
      only f v c x =
          let w = from_map (in_phase t.id Live) m.storages v c in
          let parts = and_parts (is_live v) (eqb v.slot s) x in
          elim (end.live_cases m t h is w.0 (ap is_live w.2 ∙ parts.0)) [
            | inl live ↦ absurd (none_live m t h is w.0 w.1 live (sym (slot_same t.id Live w.0) ∙ ap (λ (u : Storage). u.slot) w.2 ∙ eqb-true v.slot s parts.1 ∙ sym f))
            | inr id ↦ sym w.2 ∙ ap (in_phase t.id Live) (end.one m t h is w.0 w.1 id) ∙ changed_here
          ]

      by : (b : Bool) → eqb slot s ≡ b → live_storage n s ≡ cond b (Some now) (live_storage m s)
      by true f =
          let of_slot : t.slot ≡ s = same ∙ eqb-true slot s f in
          one_found (λ u. is_live u && eqb u.slot s) n.storages now (subst (Contains n.storages) changed_here (into_map (in_phase t.id Live) m.storages t is.there)) (eq-eqb t.slot s of_slot) (only of_slot)
      by false f = other_slots (λ u. is_live u && eqb u.slot s) s (λ u x. eqb-true u.slot s (and_parts (is_live u) (eqb u.slot s) x).1) f

  pub filling_ended : (s : ℕ) → filling_storage n s ≡ cond (eqb slot s) None (filling_storage m s)
  filling_ended s = by (eqb slot s) refl
    where
      asked : (u : Storage) → IsTrue (is_filling u && eqb u.slot s) → IsTrue (is_filling u) × (u.slot ≡ s)
      asked u x = let parts = and_parts (is_filling u) (eqb u.slot s) x in (parts.0, eqb-true u.slot s parts.1)

      by : (b : Bool) → eqb slot s ≡ b → filling_storage n s ≡ cond b None (filling_storage m s)
      by true f = none_fills (λ u. is_filling u && eqb u.slot s) s asked f
      by false f = other_slots (λ u. is_filling u && eqb u.slot s) s (λ u x. (asked u x).1) f

  pub flush_ended : (s : ℕ) → open_flush n s ≡ cond (eqb slot s) None (open_flush m s)
  flush_ended s = by (eqb slot s) refl
    where
      asked : (u : Storage) → IsTrue ((is_filling u && eqb u.slot s) && not (is_copy m u.id)) → IsTrue (is_filling u) × (u.slot ≡ s)
      asked u x = let parts = and_parts (is_filling u) (eqb u.slot s) (and_parts _ _ x).0 in (parts.0, eqb-true u.slot s parts.1)

      by : (b : Bool) → eqb slot s ≡ b → open_flush n s ≡ cond b None (open_flush m s)
      by true f = none_fills (λ u. (is_filling u && eqb u.slot s) && not (is_copy m u.id)) s asked f
      by false f = other_slots (λ u. (is_filling u && eqb u.slot s) && not (is_copy m u.id)) s (λ u x. (asked u x).1) f
