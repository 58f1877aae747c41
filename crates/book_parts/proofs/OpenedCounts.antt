-- What an opened state counts, and that one image more has room.
use Rattle.std.proofs.Common.{◌≡◌, ℕ, ◌+◌, ◌<◌, List, [], ◌∷◌, ◌++◌, length, get_or, map, filter, count_by, sum_by, Bool, cond, All, refl, ap, ◌∙◌, arith}
use Rattle.std.specs.List.{enumerate_from}
use Rattle.std.proofs.lemmas.List.{length-map, length-append}
use Rattle.std.proofs.lemmas.List.Elements.{All-append, All-cons, All-nil, All-contains, Contains-get_or, filter-append}
use Rattle.std.proofs.lemmas.List.Quantifiers.{all_pairs_push}
use Rattle.std.proofs.lemmas.List.Sums.{sum_by-cons}
use Rattle.std.specs.Str.{bytes_eq}
use Rattle.cell_table.specs.Cells as cells
use Rattle.cell_table.specs.Cells.{Table, Begins}
use Rattle.adb_model.specs.Lists.{distinct}
use Rattle.adb_model.specs.State.{Row, Storage, State}
use Rattle.adb_model.specs.Presence.{is_live}
use Rattle.adb_model.specs.Storages.{is_filling, is_retired, used, pin_count}
use Rattle.adb_model.specs.Stats.{counts_of}
use Rattle.adb_model.specs.Opened.{Image, pairs_of, storage_of, opened}
use Rattle.adb_model.specs.Laws.{MayOpen}
use Rattle.book_parts.specs.Parts.{Parts, Shared}
use Rattle.book_parts.specs.Reflects.{Reflects}
use Rattle.book_parts.specs.Opening.{distinct_keys}
use Rattle.book_parts.proofs.FlushSteps.{some_free}
use Rattle.book_parts.proofs.OpenedLists.{sum_last}
use Rattle.book_parts.proofs.OpenedStates.{as_pair, storages_are, named_are, count_storages}

-- what else the two states have, and their counts
pub record CountsOneMore (m n : State) (new : Storage) (keys : ℕ) : Type 0 where
  pub pinned : (id : ℕ) → pin_count n id ≡ pin_count m id
  pub unpinned : pin_count n new.id ≡ 0
  pub storages : length n.storages ≡ length m.storages + 1
  pub filling : (counts_of n).filling ≡ (counts_of m).filling
  pub live : (counts_of n).live ≡ (counts_of m).live + 1
  pub retired : (counts_of n).retired ≡ (counts_of m).retired
  pub named : (counts_of n).named ≡ (counts_of m).named + keys
  pub rows : (counts_of n).rows ≡ (counts_of m).rows + length new.rows
  pub bytes : (counts_of n).bytes ≡ (counts_of m).bytes + new.bytes
  pub pins : (counts_of n).pins ≡ (counts_of m).pins

module _ (budget slot : ℕ) (images : List Image) (more : List ℕ) (x : Image) where
  abbrev m : State
  m = opened budget slot images more

  abbrev n : State
  n = opened budget slot (images ++ x ∷ []) more

  abbrev new : Storage
  new = storage_of (length images + 1, x)

  same_storages : n.storages ≡ m.storages ++ new ∷ []
  same_storages = storages_are budget slot images more x

  counted : (p : Storage → Bool) → count_by p n.storages ≡ count_by p m.storages + cond (p new) 1 0
  counted p = ap (count_by p) same_storages ∙ sum_last (λ t. cond (p t) 1 0) m.storages new

  row_count : (counts_of n).rows ≡ (counts_of m).rows + length x.rows
  row_count =
      ap (λ ts. sum_by (λ (t : Storage). length t.rows) (filter is_live ts)) same_storages
      ∙ ap (sum_by (λ (t : Storage). length t.rows)) (filter-append is_live m.storages (new ∷ []))
      ∙ sum_last (λ (t : Storage). length t.rows) (filter is_live m.storages) new

  pub counts_one_more : CountsOneMore m n new (distinct_keys x.rows)
  counts_one_more = record {
    pinned = λ id. refl;
    unpinned = refl;
    storages = ap length same_storages ∙ length-append m.storages (new ∷ []);
    filling = omega (arith, counted is_filling);
    live = counted is_live;
    retired = omega (arith, counted is_retired);
    named =
        let keys = distinct bytes_eq (map (λ (r : Row). r.key) x.rows) in
        ap length (named_are budget slot images more x)
        ∙ omega (arith, length-append m.named (pairs_of x), length-map keys (as_pair x.slot));
    rows = row_count;
    bytes = ap (sum_by (λ (t : Storage). t.bytes)) same_storages ∙ sum_last (λ (t : Storage). t.bytes) m.storages new;
    pins = refl;
  }

-- ---- room

bytes_from : (k : ℕ) (images : List Image) → sum_by (λ (t : Storage). t.bytes) (map storage_of (enumerate_from k images)) ≡ sum_by (λ i. i.bytes) images
bytes_from k [] = refl
bytes_from k (i ∷ images) =
    let rest = bytes_from (k + 1) images in
    let first = sum_by-cons (λ (t : Storage). t.bytes) (storage_of (k, i)) (map storage_of (enumerate_from (k + 1) images)) in
    let whole = sum_by-cons (λ (j : Image). j.bytes) i images in
    omega (arith, rest, first, whole)

-- where a cell can be begun, the images with this one can be opened from
pub may_grow : (p : Parts) (budget slot : ℕ) (images : List Image) (more : List ℕ) (x : Image) (table : Table Shared) (id cell : ℕ)
    → MayOpen budget images → Reflects p (opened budget slot images more) → 0 < length x.rows → All (λ i. i.slot < x.slot) images → Begins p.cells table id x.bytes cell
    → MayOpen budget (images ++ x ∷ [])
may_grow p budget slot images more x table id cell may r some above begins =
    let m : State = opened budget slot images more in
    let same : cells.used p.cells.cells ≡ used m = ap (λ c. c.bytes) r.counts in
    let limit = r.limit in
    let fits = begins.fits in
    let sizes = bytes_from 1 images in
    let total = sum_last (λ (i : Image). i.bytes) images x in
    let all = r.cells.free in
    let free = some_free p.cells.cells cell begins.within begins.was_free in
    let counted = count_storages budget slot images more in
    record {
      rise = all_pairs_push (λ i j. i.slot < j.slot) images x may.rise (λ k d lt. All-contains (λ i. i.slot < x.slot) images (get_or images k d) above (Contains-get_or images k d lt));
      some = All-append (λ i. 0 < length i.rows) images (x ∷ []) may.some (All-cons (λ i. 0 < length i.rows) x [] some (All-nil (λ i. 0 < length i.rows)));
      fits = omega (arith, total, sizes, same, fits, limit);
      cells = omega (arith, length-append images (x ∷ []), all, free, counted);
    }
