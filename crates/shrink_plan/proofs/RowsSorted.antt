-- Rows that are sorted one after another.
use Rattle.std.proofs.Common.{◌≡◌, ℕ, ◌+◌, ◌≤◌, List, [], ◌∷◌, ◌++◌, length, map, filter, take, Bool, true, false, cond, not, Option, Some, is_some, refl, sym, ap, ◌∙◌, inl, inr, arith}
use Rattle.std.specs.List.{slice_get}
use Rattle.std.proofs.lemmas.Bool.{cases_Bool}
use Rattle.std.proofs.lemmas.List.{map-append, append-nil, length-map, take_all, take_more}
use Rattle.std.proofs.lemmas.List.Elements.{filter-append}
use Rattle.std.proofs.lemmas.List.Sums.{sum_by_push}
use Rattle.std.proofs.lemmas.Option.{get_or_from_slice_get, slice_get_within}
use Rattle.slot_list.specs.declared.Version.{Version}
use Rattle.slot_list.specs.Versions.{at}
use Rattle.accounts_index.specs.Index.{Index, kept}
use Rattle.adb_model.specs.Account.{size}
use Rattle.adb_model.specs.State.{Row}
use Rattle.adb_model.specs.Storages.{bytes_of}
use Rattle.vec_scan.specs.Image.{Placed}
use Rattle.vec_scan.specs.Seal.{offsets_of}
use Rattle.book_parts.specs.Shrinks.{is_found_there, is_dead}
use Rattle.shrink_plan.specs.Sources.{is_found_at}
use Rattle.shrink_plan.specs.declared.sorting.SortedRows.{SortedRows}

abbrev row_of : Placed → Row
row_of placed = placed.row

-- the bytes of the rows that pass
abbrev pub bytes_in : (Placed → Bool) → List Placed → ℕ
bytes_in test rows = bytes_of (map row_of (filter test rows))

-- so far these rows are sorted
pub record Sorts (index : Index) (slot cell : ℕ) (done : List Placed) (rows : SortedRows) : Type 0 where
  pub copied : rows.copied.items ≡ offsets_of (filter (is_found_there index slot cell) done)
  pub dead : rows.dead.items ≡ offsets_of (filter (is_dead index slot) done)
  pub bytes : rows.bytes ≡ bytes_in (is_found_there index slot cell) done

offsets_more : (test : Placed → Bool) (done : List Placed) (p : Placed)
    → offsets_of (filter test (done ++ p ∷ [])) ≡ cond (test p) (offsets_of (filter test done) ++ p.offset ∷ []) (offsets_of (filter test done))
offsets_more test done p =
    ap offsets_of (filter-append test done (p ∷ [])) ∙ map-append (λ (q : Placed). q.offset) (filter test done) (filter test (p ∷ [])) ∙ by (test p)
  where
    offsets : List ℕ
    offsets = offsets_of (filter test done)

    by : (b : Bool) → offsets_of (filter test done) ++ offsets_of (cond b (p ∷ []) []) ≡ cond b (offsets_of (filter test done) ++ p.offset ∷ []) (offsets_of (filter test done))
    by true = refl
    by false = append-nil offsets

pub bytes_more : (test : Placed → Bool) (done : List Placed) (p : Placed) → bytes_in test (done ++ p ∷ []) ≡ bytes_in test done + cond (test p) (size p.row.account) 0
bytes_more test done p = elim (cases_Bool (test p)) [
  | inl t ↦
      ap (λ (ps : List Placed). bytes_of (map row_of ps)) (filter-append test done (p ∷ []))
      ∙ ap (λ b. bytes_of (map row_of (filter test done ++ cond b (p ∷ []) []))) t
      ∙ ap bytes_of (map-append row_of (filter test done) (p ∷ []))
      ∙ sum_by_push (λ (r : Row). size r.account) (map row_of (filter test done)) p.row
      ∙ ap (λ b. bytes_in test done + cond b (size p.row.account) 0) (sym t)
  | inr f ↦
      ap (λ (ps : List Placed). bytes_of (map row_of ps)) (filter-append test done (p ∷ []))
      ∙ ap (λ b. bytes_of (map row_of (filter test done ++ cond b (p ∷ []) []))) f
      ∙ ap (λ (ps : List Placed). bytes_of (map row_of ps)) (append-nil (filter test done))
      ∙ omega arith
      ∙ ap (λ b. bytes_in test done + cond b (size p.row.account) 0) (sym f)
]

pub sorts_more : (index : Index) (slot cell : ℕ) (done : List Placed) (p : Placed) (version : Option Version) (old new : SortedRows) → version ≡ at slot (kept index p.row.key).versions
    → Sorts index slot cell done old
    → new.copied.items ≡ cond (is_found_at cell p.offset version) (old.copied.items ++ p.offset ∷ []) old.copied.items
    → new.dead.items ≡ cond (not (is_some version)) (old.dead.items ++ p.offset ∷ []) old.dead.items
    → new.bytes ≡ old.bytes + cond (is_found_at cell p.offset version) (size p.row.account) 0
    → Sorts index slot cell (done ++ p ∷ []) new
sorts_more index slot cell done p version old new is so_far copied dead bytes = record {
  copied =
      copied ∙ ap (λ v. cond (is_found_at cell p.offset v) (old.copied.items ++ p.offset ∷ []) old.copied.items) is
      ∙ ap (λ os. cond (is_found_there index slot cell p) (os ++ p.offset ∷ []) os) so_far.copied
      ∙ sym (offsets_more (is_found_there index slot cell) done p);
  dead =
      dead ∙ ap (λ v. cond (not (is_some v)) (old.dead.items ++ p.offset ∷ []) old.dead.items) is
      ∙ ap (λ os. cond (is_dead index slot p) (os ++ p.offset ∷ []) os) so_far.dead
      ∙ sym (offsets_more (is_dead index slot) done p);
  bytes =
      bytes ∙ ap (λ v. old.bytes + cond (is_found_at cell p.offset v) (size p.row.account) 0) is
      ∙ ap (λ n. n + cond (is_found_there index slot cell p) (size p.row.account) 0) so_far.bytes
      ∙ sym (bytes_more (is_found_there index slot cell) done p);
}

-- the rows with the next one
pub next_row : (rows : List Placed) (n : ℕ) (p : Placed) → slice_get rows n ≡ Some p → take (n + 1) rows ≡ take n rows ++ p ∷ []
next_row rows n p is =
    take_more rows n p (slice_get_within rows n p is) ∙ ap (λ (q : Placed). take n rows ++ q ∷ []) (get_or_from_slice_get rows n p p is)

-- as many rows as there are offsets are all
pub all_rows : (rows : List Placed) (offsets : List ℕ) (n : ℕ) → offsets ≡ offsets_of rows → length offsets ≤ n → take n rows ≡ rows
all_rows rows offsets n are le = take_all n rows (omega (arith, le, ap length are, length-map rows (λ (p : Placed). p.offset)))

-- no rows are sorted yet
pub sorts_none : (index : Index) (slot cell : ℕ) (rows : SortedRows) → rows.copied.items ≡ [] → rows.dead.items ≡ [] → rows.bytes ≡ 0 → Sorts index slot cell [] rows
sorts_none index slot cell rows copied dead bytes = record { copied = copied; dead = dead; bytes = bytes }
