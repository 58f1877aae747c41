-- What the change of one cell leaves of counts, and of the fit of cells and storages.
use Rattle.std.proofs.Common.{◌≡◌, ℕ, ◌+◌, ◌<◌, List, length, set, Bool, true, false, cond, Some, None, sum_by, count_by, sym, ap, ◌∙◌, subst, inl, inr, arith, length-set, get_or-set_same, get_or-set_other}
use Rattle.std.specs.Option.{option_and_then}
use Rattle.std.proofs.lemmas.Bool.{cases_Bool, cases_eq, true≢false}
use Rattle.std.proofs.lemmas.List.Sums.{sum_by-set}
use Rattle.cell_table.specs.declared.phase.Phase.{Phase}
use Rattle.cell_table.specs.declared.phase.Phase.TheVariants.{Free}
use Rattle.cell_table.specs.Phases.{has_id, is_free, value_of}
use Rattle.cell_table.specs.Cells.{cell_at}
use Rattle.vec_scan.specs.Seal.{row_there}
use Rattle.adb_model.specs.State.{Storage, State}
use Rattle.adb_model.specs.Storages.{storage_with, live_storage, pin_count}
use Rattle.adb_model.specs.Sound.{last_account}
use Rattle.book_parts.specs.Parts.{Shared}
use Rattle.book_parts.specs.Cells.{CellsFit, IsCellOf, row_in}
use Rattle.book_parts.specs.Storages.{IsPlacedAt}
use Rattle.book_parts.proofs.Found.{none_some}

abbrev pub one_if : Bool → ℕ
one_if b = cond b 1 0

module _ (cells : List (Phase Shared)) (i : ℕ) (was now : Phase Shared) (lt : i < length cells) (is : cell_at cells i ≡ was) where
  abbrev changed : List (Phase Shared)
  changed = set cells i now

  pub sum_changed : (f : Phase Shared → ℕ) → sum_by f changed + f was ≡ sum_by f cells + f now
  sum_changed f = rw (← is) (sum_by-set f cells i now Free lt)

  pub count_changed : (test : Phase Shared → Bool) → count_by test changed + one_if (test was) ≡ count_by test cells + one_if (test now)
  count_changed test = sum_changed (λ c. one_if (test c))

  pub cell_here : cell_at changed i ≡ now
  cell_here = get_or-set_same cells i now Free lt

  pub cell_other : (k : ℕ) → (k ≡ i → ⊥) → cell_at changed k ≡ cell_at cells k
  cell_other k apart = get_or-set_other cells i k now Free apart

  -- a cell has an id still, unless the changed one lost it
  pub id_kept : (q k : ℕ) → (has_id q was ≡ true → has_id q now ≡ true) → has_id q (cell_at cells k) ≡ true → has_id q (cell_at changed k) ≡ true
  id_kept q k stays h = elim (cases_eq k i) [
    | inl e ↦ ap (λ c. has_id q (cell_at changed c)) e ∙ ap (has_id q) cell_here ∙ stays (ap (has_id q) (sym is) ∙ ap (λ c. has_id q (cell_at cells c)) (sym e) ∙ h)
    | inr ne ↦ ap (has_id q) (cell_other k ne) ∙ h
  ]

  -- the changed cell fits the storages as they are then, and the other cells and storages stay
  module _ (m n : State) (f : CellsFit m cells)
      (fresh : (q : ℕ) → has_id q now ≡ true → has_id q was ≡ false → storage_with m q ≡ None)
      (gone : (q : ℕ) → has_id q was ≡ true → has_id q now ≡ false → storage_with n q ≡ None)
      (fits : (q : ℕ) → has_id q now ≡ true → (t : Storage) × (storage_with n q ≡ Some t) × IsCellOf t (pin_count n q) now)
      (stay : (q : ℕ) → has_id q was ≡ false → has_id q now ≡ false → storage_with n q ≡ storage_with m q)
      (pinned : (q : ℕ) → has_id q was ≡ false → has_id q now ≡ false → pin_count n q ≡ pin_count m q) where
    other : (k q : ℕ) → (k ≡ i → ⊥) → has_id q (cell_at changed k) ≡ true → has_id q (cell_at cells k) ≡ true
    other k q ne h = ap (has_id q) (sym (cell_other k ne)) ∙ h

    mine : (k q : ℕ) → k ≡ i → has_id q (cell_at changed k) ≡ true → has_id q now ≡ true
    mine k q e h = ap (has_id q) (sym cell_here) ∙ ap (λ c. has_id q (cell_at changed c)) (sym e) ∙ h

    clash : (k q : ℕ) → (k ≡ i → ⊥) → has_id q now ≡ true → has_id q (cell_at cells k) ≡ true → ⊥
    clash k q ne t h = elim (cases_Bool (has_id q was)) [
      | inl had ↦ ne (f.apart k i q h (ap (has_id q) is ∙ had))
      | inr new ↦ none_some (sym (fresh q t new) ∙ (f.each k q h).1)
    ]

    one : (a b q : ℕ) → has_id q (cell_at changed a) ≡ true → has_id q (cell_at changed b) ≡ true → a ≡ b
    one a b q h g = elim (cases_eq a i) [
      | inl x ↦ elim (cases_eq b i) [ inl y ↦ x ∙ sym y | inr y ↦ absurd (clash b q y (mine a q x h) (other b q y g)) ]
      | inr x ↦ elim (cases_eq b i) [ inl y ↦ absurd (clash a q x (mine b q y g) (other a q x h)) | inr y ↦ f.apart a b q (other a q x h) (other b q y g) ]
    ]

    storage_of : (k q : ℕ) → has_id q (cell_at changed k) ≡ true → (t : Storage) × (storage_with n q ≡ Some t) × IsCellOf t (pin_count n q) (cell_at changed k)
    storage_of k q h = elim (cases_eq k i) [
      | inl e ↦
          let o = fits q (mine k q e h) in
          (o.0, o.1, subst (IsCellOf o.0 (pin_count n q)) (sym (ap (cell_at changed) e ∙ cell_here)) o.2)
      | inr ne ↦
          let had = other k q ne h in
          let o = f.each k q had in
          let same : (storage_with n q ≡ storage_with m q) × (pin_count n q ≡ pin_count m q) = elim (cases_Bool (has_id q was)) [
            | inl t ↦ absurd (ne (f.apart k i q had (ap (has_id q) is ∙ t)))
            | inr u ↦ elim (cases_Bool (has_id q now)) [ inl t ↦ absurd (clash k q ne t had) | inr v ↦ (stay q u v, pinned q u v) ]
          ] in
          (o.0, same.0 ∙ o.1, subst (IsCellOf o.0 (pin_count n q)) (sym (cell_other k ne)) (subst (λ c. IsCellOf o.0 c (cell_at cells k)) (sym same.1) o.2))
    ]

    cell_of : (q : ℕ) (t : Storage) → storage_with n q ≡ Some t → (k : ℕ) × (has_id q (cell_at changed k) ≡ true)
    cell_of q t e = elim (cases_Bool (has_id q now)) [
      | inl h ↦ (i, ap (has_id q) cell_here ∙ h)
      | inr u ↦ elim (cases_Bool (has_id q was)) [
        | inl had ↦ absurd (none_some (sym (gone q had u) ∙ e))
        | inr v ↦
            let o = f.every q t (sym (stay q v u) ∙ e) in
            (o.0, ap (has_id q) (cell_other o.0 (λ same. true≢false (sym o.1 ∙ ap (λ c. has_id q (cell_at cells c)) same ∙ ap (has_id q) is ∙ v))) ∙ o.1)
      ]
    ]

    pub cells_change : length n.storages + one_if (is_free now) ≡ length m.storages + one_if (is_free was) → CellsFit n changed
    cells_change counted = record {
      all = length-set cells i now ∙ f.all;
      free = omega (arith, counted, count_changed is_free, f.free);
      apart = one;
      each = storage_of;
      every = cell_of;
    }

-- a pair stays at its place where the cell is the same
pub placed_kept : (m n : State) (cells others : List (Phase Shared)) (s : ℕ) (k : List ℕ) (cell offset : ℕ)
    → live_storage n s ≡ live_storage m s → last_account n s k ≡ last_account m s k → cell_at others cell ≡ cell_at cells cell
    → IsPlacedAt m cells s k cell offset → IsPlacedAt n others s k cell offset
placed_kept m n cells others s k cell offset live last same a = record {
  storage = a.storage;
  account = a.account;
  live = live ∙ a.live;
  there = ap (has_id a.storage.id) same ∙ a.there;
  row = ap (λ c. row_in c offset) same ∙ a.row;
  last = last ∙ a.last;
}

-- and no pair is placed in a cell that has no image
pub placed_apart : (m : State) (cells : List (Phase Shared)) (s : ℕ) (k : List ℕ) (cell offset i : ℕ) (was : Phase Shared)
    → cell_at cells i ≡ was → value_of was ≡ None → IsPlacedAt m cells s k cell offset → cell ≡ i → ⊥
placed_apart m cells s k cell offset i was is none a e =
    let row : row_in was offset ≡ Some (record { key = k; account = a.account }) = ap (λ c. row_in c offset) (sym is) ∙ ap (λ c. row_in (cell_at cells c) offset) (sym e) ∙ a.row in
    none_some (sym (ap (option_and_then (λ (image : Shared). row_there image.value.rows offset)) none) ∙ row)
