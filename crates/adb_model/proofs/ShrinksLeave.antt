-- An open shrink is over: which are open then, what is pinned, and which storages are copies.
use Rattle.std.proofs.Common.{◌≡◌, ◌≢◌, ℕ, ◌+◌, eqb, Bool, true, false, cond, not, ◌&&◌, IsFalse, Contains, Some, None, refl, sym, ap, ◌∙◌, inl, inr, ◌⊎◌, arith}
use Rattle.std.proofs.lemmas.Bool.{cases_eq, eqb-true, eqb-false, ne_eqb, not-true, not_from_false, and_right}
use Rattle.adb_model.specs.State.{Storage, Shrink, State}
use Rattle.adb_model.specs.Storages.{is_filling, is_copy, open_flush, open_shrink, pin_count}
use Rattle.adb_model.specs.Stats.{counts_of}
use Rattle.adb_model.specs.Shrink.{without_shrink}
use Rattle.adb_model.specs.Sound.{IsSound}
use Rattle.adb_model.proofs.Members.{from_filter}
use Rattle.adb_model.proofs.Ids.{new_slot}
use Rattle.adb_model.proofs.Finds.{none_finds, find_left}
use Rattle.adb_model.proofs.OneChanged.{length_sum, one_left}
use Rattle.adb_model.proofs.ShrinkBegins.{find_same_at}
use Rattle.adb_model.proofs.ShrinkAbortKeeps.{is_open, copies_same}

module _ (m : State) (slot : ℕ) (g : Shrink) (e : open_shrink m slot ≡ Some g) where
  abbrev n : State
  n = without_shrink m g.slot

  of : g.slot ≡ slot
  of = (is_open m slot g e).1

  pub shrink_closed : (s : ℕ) → open_shrink n s ≡ cond (eqb slot s) None (open_shrink m s)
  shrink_closed s = by (eqb slot s) refl
    where
      by : (b : Bool) → eqb slot s ≡ b → open_shrink n s ≡ cond b None (open_shrink m s)
      by true f = none_finds (λ (k : Shrink). eqb k.slot s) n.shrinks (λ k c x.
          eqb-false k.slot g.slot (not-true (eqb k.slot g.slot) (from_filter (λ (k : Shrink). not (eqb k.slot g.slot)) m.shrinks k c).1)
          (eqb-true k.slot s x ∙ sym (eqb-true slot s f) ∙ sym of))
      by false f = find_left (λ (k : Shrink). eqb k.slot s) (λ k. not (eqb k.slot g.slot)) m.shrinks (λ k c x.
          not_from_false _ (ne_eqb k.slot g.slot (λ same. eqb-false slot s f (sym of ∙ sym same ∙ eqb-true k.slot s x))))

  module _ (h : IsSound m) where
    pub pins_left : (id : ℕ) → pin_count m id ≡ pin_count n id + cond (eqb g.old id) 1 0
    pins_left id = omega (arith, one_left (λ (k : Shrink). k.slot) g (λ k. cond (eqb k.old id) 1 0) m.shrinks h.ids.one_shrink (is_open m slot g e).0)

    pub pins_counted : (counts_of m).pins ≡ (counts_of n).pins + 1
    pins_counted = omega (arith, length_sum m.shrinks, length_sum n.shrinks, one_left (λ (k : Shrink). k.slot) g (λ k. 1) m.shrinks h.ids.one_shrink (is_open m slot g e).0)

    -- in another slot the same storages are copies
    pub flushes_elsewhere : (s : ℕ) → IsFalse (eqb slot s) → open_flush n s ≡ open_flush m s
    flushes_elsewhere s f = find_same_at (λ u. (is_filling u && eqb u.slot s) && not (is_copy n u.id)) (λ u. (is_filling u && eqb u.slot s) && not (is_copy m u.id)) m.storages
        (λ u c. by u c (cases_eq u.id g.new))
      where
        both : (a b c : Bool) → (a ≡ false) → (a && b) ≡ (a && c)
        both a b c z = ap (λ x. x && b) z ∙ sym (ap (λ x. x && c) z)

        by : (u : Storage) → Contains m.storages u → (u.id ≡ g.new) ⊎ (u.id ≢ g.new) → ((is_filling u && eqb u.slot s) && not (is_copy n u.id)) ≡ ((is_filling u && eqb u.slot s) && not (is_copy m u.id))
        by u c (inl same) =
            let at : u.slot ≡ slot = new_slot m h.ids g (is_open m slot g e).0 u c same ∙ of in
            both (is_filling u && eqb u.slot s) (not (is_copy n u.id)) (not (is_copy m u.id)) (and_right (is_filling u) _ (ap (λ (x : ℕ). eqb x s) at ∙ f))
        by u c (inr ne) = ap (λ b. (is_filling u && eqb u.slot s) && not b) (sym (copies_same m h g (is_open m slot g e).0 u ne))
