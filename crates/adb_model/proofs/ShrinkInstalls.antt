-- What the end of a shrink changes of what a state says, where the copy takes its place.
use Rattle.std.proofs.Common.{◌≡◌, ◌≢◌, ℕ, ◌+◌, eqb, Bool, true, false, cond, not, ◌&&◌, ◌||◌, IsTrue, IsFalse, List, [], ◌∷◌, get_or, length, map, find, AllPairs, Contains, Option, Some, None, count_by, sum_by, refl, sym, ap, ◌∙◌, subst, inl, inr, ◌⊎◌, option_map, arith}
use Rattle.std.specs.Option.{option_map_or}
use Rattle.std.proofs.lemmas.Bool.{cases_eq, and_parts, or_right, eqb-true, eqb-false, eq-eqb, false_from_ne_true}
use Rattle.std.proofs.lemmas.List.{length-map}
use Rattle.std.proofs.lemmas.Option.{same_Some}
use Rattle.adb_model.specs.State.{Live, Retired, Storage, Shrink, State}
use Rattle.adb_model.specs.Presence.{is_held, is_live, has_row}
use Rattle.adb_model.specs.Storages.{is_filling, is_retired, is_copy, storage_with, live_storage, filling_storage, open_flush, open_shrink, in_phase}
use Rattle.adb_model.specs.Shrink.{is_current, exchanged, installed}
use Rattle.adb_model.specs.Stats.{counts_of}
use Rattle.adb_model.specs.Sound.{IsSound}
use Rattle.adb_model.specs.Shrinking.{IsOpenShrink}
use Rattle.adb_model.proofs.Members.{found, from_map, into_map}
use Rattle.adb_model.proofs.Pairs.{pairs_map}
use Rattle.adb_model.proofs.Ids.{one_id}
use Rattle.adb_model.proofs.Phases as phases
use Rattle.adb_model.proofs.Phases.{at_phase, other_same, filling_not_live}
use Rattle.adb_model.proofs.Finds.{none_finds, one_found, find_same, find_kept, find_map}
use Rattle.adb_model.proofs.OneChanged.{one_if, sum_passed, one_changed}
use Rattle.adb_model.proofs.FreshIds.{with_id_from}
use Rattle.adb_model.proofs.ShrinkAbortKeeps.{is_open}
use Rattle.adb_model.proofs.ShrinkEndKeeps.{id_same, slot_same, live_cases, filling_before, installs}
use Rattle.adb_model.proofs.OpenShrink.{between}
use Rattle.adb_model.proofs.HeldInUse.{only_in_use, only_filling, held_in_use}
use Rattle.adb_model.proofs.ShrinksLeave.{flushes_elsewhere}

-- one change after the other
pub map_both : (f k : Storage → Storage) (us : List Storage) → map (λ u. k (f u)) us ≡ map k (map f us)
map_both f k [] = refl
map_both f k (u ∷ us) = ap (λ (vs : List Storage). k (f u) ∷ vs) (map_both f k us)

pub with_id_installed : (m : State) (g : Shrink) (id : ℕ) → storage_with (installed m g) id ≡ option_map (exchanged g) (storage_with m id)
with_id_installed m g id =
    find_map (exchanged g) (λ (u : Storage). eqb u.id id) m.storages
    ∙ ap (option_map (exchanged g)) (find_same (λ u. eqb (exchanged g u).id id) (λ (u : Storage). eqb u.id id) (λ u. ap (λ (q : ℕ). eqb q id) (id_same g u)) m.storages)

-- what a search by an id finds has it
found_id : (m : State) (id : ℕ) (t : Storage) → storage_with m id ≡ Some t → t.id ≡ id
found_id m id t e = eqb-true t.id id (found (λ (u : Storage). eqb u.id id) m.storages t e).1

pub used_installed : (m : State) (g : Shrink) (copy : Storage) → storage_with m g.new ≡ Some copy → storage_with (installed m g) g.new ≡ Some (record copy { phase = Live })
used_installed m g copy e =
    let now = eq-eqb copy.id g.new (found_id m g.new copy e) in
    with_id_installed m g g.new ∙ ap (option_map (exchanged g)) e
    ∙ ap Some (at_phase g.old Retired copy (λ u. in_phase g.new Live u ≡ record copy { phase = Live }) (λ f. ap (λ b. cond b (record copy { phase = Live }) (record copy { phase = Retired })) now) (λ f. ap (λ b. cond b (record copy { phase = Live }) copy) now))

pub others_installed : (m : State) (g : Shrink) (id : ℕ) → g.old ≢ id → g.new ≢ id → storage_with (installed m g) id ≡ storage_with m id
others_installed m g id not_old not_new = with_id_installed m g id ∙ by (storage_with m id) refl
  where
    by : (o : Option Storage) → storage_with m id ≡ o → option_map (exchanged g) o ≡ o
    by None e = refl
    by (Some t) e =
        let of = found_id m id t e in
        ap Some (ap (in_phase g.new Live) (other_same g.old Retired t (λ f. not_old (sym f ∙ of))) ∙ other_same g.new Live t (λ f. not_new (sym f ∙ of)))

pub length_installed : (m : State) (g : Shrink) → length (installed m g).storages ≡ length m.storages
length_installed m g = length-map m.storages (exchanged g)

module _ (m : State) (h : IsSound m) (slot : ℕ) (g : Shrink) (e : open_shrink m slot ≡ Some g) (old copy : Storage) (is : IsOpenShrink m slot g old copy) where
  abbrev n : State
  n = installed m g

  abbrev retired : Storage
  retired = record old { phase = Retired }

  abbrev used : Storage
  used = record copy { phase = Live }

  old_there : Contains m.storages old × (old.id ≡ g.old)
  old_there = with_id_from m h g.old old is.old_with_id

  copy_there : Contains m.storages copy × (copy.id ≡ g.new)
  copy_there = with_id_from m h g.new copy is.copy_with_id

  the_copy : (u : Storage) → Contains m.storages u → u.id ≡ g.new → u ≡ copy
  the_copy u c f = one_id m h.ids u copy c copy_there.0 (f ∙ sym copy_there.1)

  the_old : (u : Storage) → Contains m.storages u → u.id ≡ g.old → u ≡ old
  the_old u c f = one_id m h.ids u old c old_there.0 (f ∙ sym old_there.1)

  -- ---- what two of them change

  abbrev first : Storage → Storage
  first u = in_phase g.old Retired u

  abbrev second : Storage → Storage
  second u = in_phase g.new Live u

  copy_first : first copy ≡ copy
  copy_first = other_same g.old Retired copy (λ f. is.differ (sym f ∙ copy_there.1))

  old_changed : first old ≡ retired
  old_changed = ap (λ b. cond b retired old) (eq-eqb old.id g.old old_there.1)

  pub old_exchanged : exchanged g old ≡ retired
  old_exchanged = ap second old_changed ∙ other_same g.new Live retired (λ f. is.differ (sym old_there.1 ∙ f))

  copy_used : second copy ≡ used
  copy_used = ap (λ b. cond b used copy) (eq-eqb copy.id g.new copy_there.1)

  copy_changed : exchanged g copy ≡ used
  copy_changed = ap second copy_first ∙ copy_used

  first_differ : AllPairs (λ u v. u.id ≢ v.id) (map first m.storages)
  first_differ = pairs_map (λ u v. u.id ≢ v.id) first m.storages (λ i j d lt within f.
      h.ids.differ i j d lt within (sym (phases.id_same g.old Retired (get_or m.storages i d)) ∙ f ∙ phases.id_same g.old Retired (get_or m.storages j d)))

  summed : (f : Storage → ℕ) → sum_by f n.storages + f old + f copy ≡ sum_by f m.storages + f retired + f used
  summed f = omega (
    arith,
    ap (λ (us : List Storage). sum_by f us) (map_both first second m.storages),
    one_changed (λ (u : Storage). u.id) copy second (λ u ne. other_same g.new Live u (λ x. ne (x ∙ sym copy_there.1))) f (map first m.storages) first_differ
        (subst (Contains (map first m.storages)) copy_first (into_map first m.storages copy copy_there.0)),
    one_changed (λ (u : Storage). u.id) old first (λ u ne. other_same g.old Retired u (λ x. ne (x ∙ sym old_there.1))) f m.storages h.ids.differ old_there.0,
    ap f old_changed,
    ap f copy_used,
  )

  counted : (p : Storage → Bool) → count_by p n.storages + cond (p old) 1 0 + cond (p copy) 1 0 ≡ count_by p m.storages + cond (p retired) 1 0 + cond (p used) 1 0
  counted p = summed (λ u. cond (p u) 1 0)

  filling_left : (counts_of m).filling ≡ (counts_of n).filling + 1
  filling_left = omega (arith, counted is_filling, ap one_if is.fills, ap one_if is.filled)

  -- ---- what is found

  -- what asks for another slot finds what it did
  other_slots : (p : Storage → Bool) (s : ℕ) → ((u : Storage) → IsTrue (p u) → u.slot ≡ s) → IsFalse (eqb slot s) → find p n.storages ≡ find p m.storages
  other_slots p s asks other = find_kept (exchanged g) p m.storages (λ u c. by u c (cases_eq u.id g.new) (cases_eq u.id g.old))
    where
      apart : (u : Storage) → u.slot ≡ slot → u.slot ≡ s → ⊥
      apart u a b = eqb-false slot s other (sym a ∙ b)

      of_slot : (u : Storage) → Contains m.storages u → (u.id ≡ g.new) ⊎ (u.id ≡ g.old) → u.slot ≡ slot
      of_slot u c (inl f) = ap (λ (v : Storage). v.slot) (the_copy u c f) ∙ is.copy_slot
      of_slot u c (inr f) = ap (λ (v : Storage). v.slot) (the_old u c f) ∙ is.old_slot

      changed : (u : Storage) → u.slot ≡ slot → (p (exchanged g u) ≡ p u) × (IsTrue (p u) → exchanged g u ≡ u)
      changed u at = (
        false_from_ne_true _ (λ x. apart u at (sym (slot_same g u) ∙ asks (exchanged g u) x)) ∙ sym (false_from_ne_true _ (λ x. apart u at (asks u x))),
        λ x. absurd (apart u at (asks u x)),
      )

      by : (u : Storage) → Contains m.storages u → (u.id ≡ g.new) ⊎ (u.id ≢ g.new) → (u.id ≡ g.old) ⊎ (u.id ≢ g.old) → (p (exchanged g u) ≡ p u) × (IsTrue (p u) → exchanged g u ≡ u)
      by u c (inl f) o = changed u (of_slot u c (inl f))
      by u c (inr ne) (inl f) = changed u (of_slot u c (inr f))
      by u c (inr ne) (inr nf) =
          let same : exchanged g u ≡ u = ap second (other_same g.old Retired u nf) ∙ other_same g.new Live u ne in
          (ap p same, λ x. same)

  -- nothing of the slot is being filled any more
  none_fills : (p : Storage → Bool) (s : ℕ) → ((u : Storage) → IsTrue (p u) → IsTrue (is_filling u) × (u.slot ≡ s)) → IsTrue (eqb slot s) → find p n.storages ≡ None
  none_fills p s asks here = none_finds p n.storages (λ v c x.
      let w = from_map (exchanged g) m.storages v c in
      let asked = asks v x in
      let was = filling_before g w.0 (ap is_filling w.2 ∙ asked.0) in
      let at : w.0.slot ≡ slot = sym (slot_same g w.0) ∙ ap (λ (u : Storage). u.slot) w.2 ∙ asked.1 ∙ sym (eqb-true slot s here) in
      was.1 (ap (λ (u : Storage). u.id) (only_filling m h slot copy w.0 is.in_slot w.1 was.0 at) ∙ copy_there.1))

  filling_gone : (s : ℕ) → filling_storage n s ≡ cond (eqb slot s) None (filling_storage m s)
  filling_gone s = by (eqb slot s) refl
    where
      asked : (u : Storage) → IsTrue (is_filling u && eqb u.slot s) → IsTrue (is_filling u) × (u.slot ≡ s)
      asked u x = let parts = and_parts (is_filling u) (eqb u.slot s) x in (parts.0, eqb-true u.slot s parts.1)

      by : (b : Bool) → eqb slot s ≡ b → filling_storage n s ≡ cond b None (filling_storage m s)
      by true f = none_fills (λ u. is_filling u && eqb u.slot s) s asked f
      by false f = other_slots (λ u. is_filling u && eqb u.slot s) s (λ u x. (asked u x).1) f

  flushes_same : (s : ℕ) → open_flush n s ≡ open_flush m s
  flushes_same s = by (eqb slot s) refl
    where
      asked : (u : Storage) → IsTrue ((is_filling u && eqb u.slot s) && not (is_copy n u.id)) → IsTrue (is_filling u) × (u.slot ≡ s)
      asked u x = let parts = and_parts (is_filling u) (eqb u.slot s) (and_parts _ _ x).0 in (parts.0, eqb-true u.slot s parts.1)

      by : (b : Bool) → eqb slot s ≡ b → open_flush n s ≡ open_flush m s
      by true f = none_fills (λ u. (is_filling u && eqb u.slot s) && not (is_copy n u.id)) s asked f ∙ sym (ap (open_flush m) (sym (eqb-true slot s f)) ∙ is.no_flush)
      by false f = other_slots (λ u. (is_filling u && eqb u.slot s) && not (is_copy n u.id)) s (λ u x. (asked u x).1) f ∙ flushes_elsewhere m slot g e h s f

  -- ---- where the old storage is in use

  module _ (current : IsTrue (is_current m g)) where
    old_live : IsTrue (is_live old)
    old_live = sym is.current ∙ current

    live_now : (s : ℕ) → live_storage n s ≡ cond (eqb slot s) (Some used) (live_storage m s)
    live_now s = by (eqb slot s) refl
      where
        only : (v : Storage) → Contains n.storages v → IsTrue (is_live v && eqb v.slot s) → slot ≡ s → v ≡ used
        only v c x at =
            let w = from_map (exchanged g) m.storages v c in
            let parts = and_parts (is_live v) (eqb v.slot s) x in
            let of_slot : w.0.slot ≡ slot = sym (slot_same g w.0) ∙ ap (λ (u : Storage). u.slot) w.2 ∙ eqb-true v.slot s parts.1 ∙ sym at in
            elim (live_cases g w.0 (ap is_live w.2 ∙ parts.0)) [
              | inl f ↦ sym w.2 ∙ ap (exchanged g) (the_copy w.0 w.1 f) ∙ copy_changed
              | inr p ↦ absurd (p.1 (ap (λ (u : Storage). u.id) (only_in_use m h slot old w.0 (is.in_use current) w.1 p.0 of_slot) ∙ old_there.1))
            ]

        by : (b : Bool) → eqb slot s ≡ b → live_storage n s ≡ cond b (Some used) (live_storage m s)
        by true f =
            let at = eqb-true slot s f in
            one_found (λ u. is_live u && eqb u.slot s) n.storages used (subst (Contains n.storages) copy_changed (into_map (exchanged g) m.storages copy copy_there.0))
            (eq-eqb copy.slot s (is.copy_slot ∙ at)) (λ v c x. only v c x at)
        by false f = other_slots (λ u. is_live u && eqb u.slot s) s (λ u x. eqb-true u.slot s (and_parts (is_live u) (eqb u.slot s) x).1) f

    held_now : (s : ℕ) (k : List ℕ) → is_held n s k ≡ cond (eqb slot s) (has_row k copy.rows) (is_held m s k)
    held_now s k =
        held_in_use n (installs m h g (is_open m slot g e).0 current) s k
        ∙ ap (λ o. option_map_or (λ (t : Storage). has_row k t.rows) o false) (live_now s) ∙ by (eqb slot s)
      where
        by : (b : Bool) → option_map_or (λ (t : Storage). has_row k t.rows) (cond b (Some used) (live_storage m s)) false ≡ cond b (has_row k copy.rows) (is_held m s k)
        by true = refl
        by false = sym (held_in_use m h s k)

    live_counted : (counts_of n).live ≡ (counts_of m).live
    live_counted = omega (arith, counted is_live, ap one_if old_live, ap one_if (filling_not_live copy is.fills))

    retired_counted : (counts_of n).retired ≡ (counts_of m).retired + 1
    retired_counted = omega (
      arith,
      counted is_retired,
      ap (λ b. one_if (not (b || is_filling old))) old_live,
      ap (λ b. one_if (not b)) (or_right (is_live copy) (is_filling copy) is.fills),
    )

    rows_counted : (counts_of n).rows + length old.rows ≡ (counts_of m).rows + length copy.rows
    rows_counted = omega (
      arith,
      sum_passed is_live (λ u. length u.rows) n.storages,
      sum_passed is_live (λ u. length u.rows) m.storages,
      summed (λ u. cond (is_live u) (length u.rows) 0),
      ap (λ b. cond b (length old.rows) 0) old_live,
      ap (λ b. cond b (length copy.rows) 0) (filling_not_live copy is.fills),
    )

-- ---- the same of the storages that the shrink's ids lead to

module _ (m : State) (h : IsSound m) (slot : ℕ) (g : Shrink) (e : open_shrink m slot ≡ Some g) where
  abbrev stands : (old : Storage) × (copy : Storage) × IsOpenShrink m slot g old copy
  stands = between m h slot g e

  is_copy_of : (copy : Storage) → storage_with m g.new ≡ Some copy → stands.1 ≡ copy
  is_copy_of copy f = same_Some stands.1 copy (sym stands.2.copy_with_id ∙ f)

  is_old_of : (old : Storage) → storage_with m g.old ≡ Some old → stands.0 ≡ old
  is_old_of old f = same_Some stands.0 old (sym stands.2.old_with_id ∙ f)

  pub retired_installed : (old : Storage) → storage_with m g.old ≡ Some old → storage_with (installed m g) g.old ≡ Some (record old { phase = Retired })
  retired_installed old f =
      with_id_installed m g g.old ∙ ap (option_map (exchanged g)) stands.2.old_with_id
      ∙ ap Some (old_exchanged m h slot g e stands.0 stands.1 stands.2) ∙ ap (λ (u : Storage). Some (record u { phase = Retired })) (is_old_of old f)

  pub filling_installed : (s : ℕ) → filling_storage (installed m g) s ≡ cond (eqb slot s) None (filling_storage m s)
  filling_installed s = filling_gone m h slot g e stands.0 stands.1 stands.2 s

  pub flush_installed : (s : ℕ) → open_flush (installed m g) s ≡ open_flush m s
  flush_installed s = flushes_same m h slot g e stands.0 stands.1 stands.2 s

  pub filling_count : (counts_of m).filling ≡ (counts_of (installed m g)).filling + 1
  filling_count = filling_left m h slot g e stands.0 stands.1 stands.2

  module _ (current : IsTrue (is_current m g)) where
    pub live_installed : (copy : Storage) → storage_with m g.new ≡ Some copy → (s : ℕ) → live_storage (installed m g) s ≡ cond (eqb slot s) (Some (record copy { phase = Live })) (live_storage m s)
    live_installed copy f s =
        live_now m h slot g e stands.0 stands.1 stands.2 current s
        ∙ ap (λ (u : Storage). cond (eqb slot s) (Some (record u { phase = Live })) (live_storage m s)) (is_copy_of copy f)

    pub held_installed : (copy : Storage) → storage_with m g.new ≡ Some copy → (s : ℕ) (k : List ℕ) → is_held (installed m g) s k ≡ cond (eqb slot s) (has_row k copy.rows) (is_held m s k)
    held_installed copy f s k =
        held_now m h slot g e stands.0 stands.1 stands.2 current s k
        ∙ ap (λ (u : Storage). cond (eqb slot s) (has_row k u.rows) (is_held m s k)) (is_copy_of copy f)

    pub live_count : (counts_of (installed m g)).live ≡ (counts_of m).live
    live_count = live_counted m h slot g e stands.0 stands.1 stands.2 current

    pub retired_count : (counts_of (installed m g)).retired ≡ (counts_of m).retired + 1
    retired_count = retired_counted m h slot g e stands.0 stands.1 stands.2 current

    pub row_count : (old copy : Storage) → storage_with m g.old ≡ Some old → storage_with m g.new ≡ Some copy → (counts_of (installed m g)).rows + length old.rows ≡ (counts_of m).rows + length copy.rows
    row_count old copy f k =
        omega (
          arith,
          rows_counted m h slot g e stands.0 stands.1 stands.2 current,
          ap (λ (u : Storage). length u.rows) (is_old_of old f),
          ap (λ (u : Storage). length u.rows) (is_copy_of copy k),
        )
