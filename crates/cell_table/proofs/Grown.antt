-- What one more free cell leaves of a table.
use Rattle.std.proofs.Common.{◌≡◌, ℕ, zero, suc, ◌+◌, ◌-◌, ◌<◌, ◌≤◌, List, [], ◌∷◌, ◌++◌, length, get_or, Bool, true, false, Option, Some, sum_by, count_by, refl, sym, ap, subst, ◌∙◌, inl, inr, arith, length-append}
use Rattle.std.specs.Prelude.{◌↔◌, ◌==◌}
use Rattle.std.proofs.Common.{Result, Ok, Err, OnOk, OnErr, is_err}
use Rattle.std.proofs.lemmas.Bool.{false≢true, true≢false}
use Rattle.cell_table.specs.declared.table.CellFault.{CellFault}
use Rattle.cell_table.specs.declared.table.CellFault.TheVariants.{Full, NoCell, NoMemory}
use Rattle.std.proofs.Math.Seq.{get_or-append_seam}
use Rattle.std.proofs.lemmas.List.Sums.{sum_by-append}
use Rattle.cell_table.specs.declared.phase.Phase.{Phase}
use Rattle.cell_table.specs.declared.phase.Phase.TheVariants.{Free, Filling, Live, Retired}
use Rattle.cell_table.specs.declared.table.Counts.{Counts}
use Rattle.cell_table.specs.Phases.{has_id, id_of, cell_id, bytes_of, pins_of, is_free, is_filling, is_live, is_retired, is_idle}
use Rattle.cell_table.specs.Cells.{Table, cell_at, used, counts_of, IsCause}
use Rattle.cell_table.specs.Inside.{all_cells, ArePlaces, IsSound, Grows, IsLack}
use Rattle.cell_table.proofs.Padded.{cell_at-behind, length-all, free-all, grown-all}
use Rattle.cell_table.proofs.Changes.{one_if, eq_when}
use Rattle.cell_table.proofs.Sound.{counts_path, sum_seen}

module _ {T : Type 0} (cells : List (Phase T)) where
  abbrev grown : List (Phase T)
  grown = cells ++ Free ∷ []

  sum_by-grown : (f : Phase T → ℕ) → f Free ≡ 0 → sum_by f cells ≡ sum_by f grown
  sum_by-grown f none = omega (arith, sum_by-append f cells (Free ∷ []), none)

  grown_places : (test : Phase T → Bool) (places : List ℕ) → test Free ≡ false → ArePlaces test cells places → ArePlaces test grown places
  grown_places test places not all = record {
    each = λ k d lt. let held = all.each k d lt in (omega (arith, held.0, length-append cells (Free ∷ [])), ap test (cell_at-behind cells 1 (get_or places k d)) ∙ held.1);
    apart = all.apart;
    every = all.every ∙ sum_by-grown (λ c. one_if (test c)) (ap one_if not);
  }

  grown_free : ArePlaces is_free cells [] → ArePlaces is_free grown (length cells ∷ [])
  grown_free all = record {
    each = place;
    apart = λ k l d lt in_range. absurd (omega arith);
    every = omega (arith, all.every, sum_by-append (λ (c : Phase T). one_if (is_free c)) cells (Free ∷ []));
  }
    where
      place : (k : ℕ) (d : ℕ) → k < 1 → (get_or (length cells ∷ []) k d < length grown) × (is_free (cell_at grown (get_or (length cells ∷ []) k d)) ≡ true)
      place zero d lt = (omega (arith, length-append cells (Free ∷ [])), ap is_free (get_or-append_seam cells Free [] Free))
      place (suc k) d lt = absurd (omega arith)

  counts_grown : counts_of cells ≡ counts_of grown
  counts_grown = counts_path (counts_of cells) (counts_of grown)
      (sum_by-grown (λ c. one_if (is_filling c)) refl) (sum_by-grown (λ c. one_if (is_live c)) refl) (sum_by-grown (λ c. one_if (is_retired c)) refl) (sum_by-grown (λ c. one_if (is_idle c)) refl) (sum_by-grown pins_of refl)

  module _ (most : ℕ) (free : List ℕ) (new_cells : List (Phase T)) (new_free : List ℕ) where
    pub all_cells-grows : Grows most cells free new_cells new_free → all_cells most new_cells ≡ all_cells most cells
    all_cells-grows (inl (same, same_free)) = ap (all_cells most) same
    all_cells-grows (inr (none, lt, more, place)) = ap (all_cells most) more ∙ grown-all most cells lt

    pub IsSound-grows : (idle : List ℕ) (find : ℕ → Option ℕ) (bytes limit : ℕ) (counts : Counts) → Grows most cells free new_cells new_free → IsSound cells free idle find bytes limit counts → IsSound new_cells new_free idle find bytes limit counts
    IsSound-grows idle find bytes limit counts (inl (same, same_free)) sound = rw (same, same_free) sound
    IsSound-grows idle find bytes limit counts (inr (none, lt, more, place)) sound = rw (more, place) (record {
      free_places = grown_free (subst (ArePlaces is_free cells) none sound.free_places);
      idle_places = grown_places is_idle idle refl sound.idle_places;
      ids = λ id k. subst (λ c. (find id ≡ Some k) ↔ (has_id id c ≡ true)) (sym (cell_at-behind cells 1 k)) (sound.ids id k);
      total = sound.total ∙ sum_by-grown bytes_of refl;
      within = sound.within;
      tally = sound.tally ∙ counts_grown;
    })

pub some_when : (n : ℕ) → (n == 0) ≡ false → 0 < n
some_when n e = grind arith

-- a fact stands after any error
pub on_err_any : {X E P : Type 0} (r : Result X E) → P → OnErr r P
on_err_any (Ok x) p = tt
on_err_any (Err e) p = p

pub on_err_is : {X E P : Type 0} (r : Result X E) → is_err r ≡ true → OnErr r P → P
on_err_is (Ok x) is p = absurd (false≢true is)
on_err_is (Err e) is p = p

pub on_ok_is : {X E P : Type 0} (r : Result X E) → is_err r ≡ false → OnOk r P → P
on_ok_is (Ok x) is p = p
on_ok_is (Err e) is p = absurd (false≢true (sym is))

module _ {T : Type 0} where
  pub free_is : (p : Phase T) → is_free p ≡ true → p ≡ Free
  free_is Free is = refl
  free_is (Filling id b) is = absurd (false≢true is)
  free_is (Live id b pins value) is = absurd (false≢true is)
  free_is (Retired id b pins value) is = absurd (false≢true is)

  pub cell_id-in_use : (p : Phase T) → is_free p ≡ false → cell_id p ≡ Some (id_of p)
  cell_id-in_use Free is = absurd (true≢false is)
  cell_id-in_use (Filling id b) is = refl
  cell_id-in_use (Live id b pins value) is = refl
  cell_id-in_use (Retired id b pins value) is = refl

  pub has_id-in_use : (p : Phase T) → is_free p ≡ false → (id : ℕ) → id ≡ id_of p → has_id id p ≡ true
  has_id-in_use Free is id same = absurd (true≢false is)
  has_id-in_use (Filling own b) is id same = eq_when own id (sym same)
  has_id-in_use (Live own b pins value) is id same = eq_when own id (sym same)
  has_id-in_use (Retired own b pins value) is id same = eq_when own id (sym same)

  -- the table that contracts see, after it may have grown
  module _ (table : Table T) (most limit : ℕ) (cells : List (Phase T)) (view : record { cells = all_cells most cells; limit = limit } ≡ table) (few : length cells ≤ most) where
    pub length_seen : length table.cells ≡ most
    length_seen = sym (ap (λ (t : Table T). length t.cells) view) ∙ length-all most cells few

    pub free_seen : count_by is_free table.cells ≡ count_by is_free cells + (most - length cells)
    free_seen = sym (ap (λ (t : Table T). count_by is_free t.cells) view) ∙ free-all most cells (λ c. one_if (is_free c)) refl few

    pub free_now : (free : List ℕ) → ArePlaces is_free cells free → count_by is_free table.cells ≡ length free + (most - length cells)
    free_now free places = omega (arith, free_seen, places.every)

    pub view-grows : (free new_free : List ℕ) (new_cells : List (Phase T)) → Grows most cells free new_cells new_free → record { cells = all_cells most new_cells; limit = limit } ≡ table
    view-grows free new_free new_cells grows = (λ j. record { cells = all_cells-grows cells most free new_cells new_free grows j; limit = limit }) ∙ view

    pub full_cause : (bytes : ℕ) → bytes ≡ used cells → (wanted : ℕ) (fault : CellFault) → (fault ≡ Full bytes wanted limit) × (limit < bytes + wanted) → IsCause table wanted fault
    full_cause bytes total wanted fault (is, above) =
        let all = total ∙ sym (sum_seen table most limit cells view bytes_of refl) in
        let same = ap (λ (t : Table T). t.limit) view in
        rw is (all, refl, same, above)

    -- why no free cell is at hand is why the call is refused
    pub lack_cause : (free : List ℕ) → ArePlaces is_free cells free → (bytes : ℕ) → used table.cells + bytes ≤ table.limit → (fault : CellFault) → IsLack most cells free fault → IsCause table bytes fault
    lack_cause free places bytes fits (Full used_bytes wanted of) lack = absurd lack
    lack_cause free places bytes fits (NoCell of) (all, none, full) =
        let empty = ap length none in
        (all ∙ sym length_seen, omega (arith, free_seen, places.every, empty, full), fits)
    lack_cause free places bytes fits NoMemory (none, lt) =
        let empty = ap length none in
        (omega (arith, free_seen, places.every, empty, lt), fits)
