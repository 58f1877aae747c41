-- Parts into which one storage after another is opened.
use Rattle.std.proofs.Common.{◌≡◌, ℕ, ◌+◌, ◌<◌, ◌≤◌, List, [], ◌∷◌, ◌++◌, length, map, take, Bool, true, false, cond, eqb, ◌&&◌, ◌||◌, All, count_by, sum_by, Some, refl, sym, ap, subst, ◌∙◌, inl, inr, arith, length-append}
use Rattle.std.proofs.lemmas.Bool.{cases_Bool, ne_eqb}
use Rattle.std.proofs.lemmas.List.{map-append, length-map, get_or-map}
use Rattle.std.proofs.lemmas.List.Elements.{All-map, All-append, All-cons, All-head}
use Rattle.std.proofs.lemmas.List.Sums.{sum_by-append, sum_by-cons}
use Rattle.std.proofs.Math.Seq.{take-append-add}
use Rattle.accounts_index.specs.Index.{Index, kept}
use Rattle.adb_model.specs.Laws.{MayOpen}
use Rattle.adb_model.specs.Lists.{among}
use Rattle.adb_model.specs.Opened as machine
use Rattle.adb_model.specs.Opened.{opened, opened_roots}
use Rattle.adb_model.specs.Presence.{has_row}
use Rattle.adb_model.specs.RowBytes.{RowsTake, ImagesHaveBytes}
use Rattle.cell_table.specs.Phases.{has_id, is_free}
use Rattle.cell_table.specs.Cells.{Table, Begins, IsUnused, cell_at}
use Rattle.cell_table.specs.declared.phase.Phase.TheVariants as phases
use Rattle.storage_map.specs.Slots.{Slots, live_at}
use Rattle.vec_scan.specs.Image.{Image}
use Rattle.vec_scan.specs.Seal.{rows_in}
use Rattle.vec_scan.specs.Shown.{stored}
use Rattle.book_parts.specs.Parts.{Parts, Shared, new_parts}
use Rattle.book_parts.specs.Reflects.{Reflects}
use Rattle.book_parts.specs.Opening.{MayFollow, ImageOpens, distinct_keys, sizes_of}
use Rattle.open_plan.specs.Parts.{HasNothing}
use Rattle.open_plan.specs.Causes.{IsCauseOf, IsWhyNotRebuilt}
use Rattle.open_plan.specs.declared.fault.RebuildFault.{RebuildFault}
use Rattle.open_plan.specs.declared.fault.RebuildFault.TheVariants.{Full, NoCell, NoMemory}
use Rattle.open_plan.proofs.Facts.{all_front, all_rest}
use Rattle.open_plan.proofs.Filled.{Taken, cells_filled, taken_none, taken_more}

-- the bytes of images
abbrev bytes_in : List Image → ℕ
bytes_in images = sum_by (λ n. n) (sizes_of images)

-- the parts that these images are opened into
abbrev pub parts_after : ℕ → List ℕ → List Image → Index → Table Shared → Slots → Parts
parts_after slot more front index table slots =
    record (new_parts table (length front + 1)) { index = index; map = slots; roots = opened_roots slot (map stored front) more; cleaned = slot }

-- what holds after each image
pub record Opens (budget slot : ℕ) (more : List ℕ) (front : List Image) (index : Index) (table : Table Shared) (slots : Slots) : Type 0 where
  pub reflects : Reflects (parts_after slot more front index table slots) (opened budget slot (map stored front) more)
  pub may : MayOpen budget (map stored front)
  pub bytes : ImagesHaveBytes (map stored front)
  pub limit : table.limit ≡ budget
  pub taken : Taken table.cells (length front) (bytes_in front)
  pub nothing : (s : ℕ) → All (λ i. i.slot < s) front → HasNothing s index slots

pub opens_none : (slot : ℕ) (more : List ℕ) (table : Table Shared) → length table.cells ≡ 1048576 → All (λ cell. cell ≡ phases.Free) table.cells
    → Reflects (parts_after slot more [] [] table []) (opened table.limit slot [] more) → Opens table.limit slot more [] [] table []
opens_none slot more table many all reflects = record {
  reflects = reflects;
  may = record {
    rise = λ i j d lt within. absurd (omega (arith, within));
    some = λ i d lt. absurd (omega (arith, lt));
    fits = omega arith;
    cells = omega arith;
  };
  bytes = λ i d lt. absurd (omega (arith, lt));
  limit = refl;
  taken = taken_none table.cells many all;
  nothing = λ s below. record { unheld = λ k. refl; unused = refl };
}

module _ (budget slot : ℕ) (more : List ℕ) (front : List Image) (index : Index) (table : Table Shared) (slots : Slots) (so_far : Opens budget slot more front index table slots)
    (image : Image) (follows : MayFollow slot (map stored front) image) where
  id_is : image.id ≡ length front + 1
  id_is = follows.id ∙ ap (λ n. n + 1) (length-map front stored)

  -- no cell has the id of the next image
  pub id_unused : IsUnused image.id table.cells
  id_unused cell = elim (cases_Bool (has_id image.id (cell_at table.cells cell))) [
    | inl has ↦ absurd (omega (arith, so_far.taken.ids cell image.id has, id_is))
    | inr none ↦ none
  ]

  -- its slot is above those of all before
  above : All (λ i. i.slot < image.slot) front
  above k d lt =
      let in_map = follows.above k (stored d) (omega (arith, lt, length-map front stored)) in
      subst (λ (i : machine.Image). i.slot < image.slot) (get_or-map stored front k d (stored d) lt) in_map

  pub slot_unused : HasNothing image.slot index slots
  slot_unused = so_far.nothing image.slot above

  sizes_next : (rest : List Image) → sizes_of (front ++ image ∷ rest) ≡ sizes_of front ++ length image.bytes ∷ sizes_of rest
  sizes_next rest = map-append (λ (i : Image). length i.bytes) front (image ∷ rest)

  bytes_are : sum_by (λ i. i.bytes) (map stored front) ≡ bytes_in front
  bytes_are = sums front
    where
      sums : (images : List Image) → sum_by (λ i. i.bytes) (map stored images) ≡ bytes_in images
      sums [] = refl
      sums (i ∷ images) =
          sum_by-cons (λ (j : machine.Image). j.bytes) (stored i) (map stored images) ∙ ap (λ n. length i.bytes + n) (sums images)
          ∙ sym (sum_by-cons (λ (n : ℕ). n) (length i.bytes) (sizes_of images))

  -- why the next image is refused, all are
  pub why_not : (rest : List Image) (fault : RebuildFault) → IsCauseOf table (length image.bytes) fault → IsWhyNotRebuilt budget (sizes_of (front ++ image ∷ rest)) fault
  why_not rest NoMemory cause = tt
  why_not rest (Full used_bytes wanted limit) cause = record {
    front = sizes_of front;
    rest = sizes_of rest;
    parts = sizes_next rest ∙ ap (λ (n : ℕ). sizes_of front ++ n ∷ sizes_of rest) (sym cause.1);
    cells = omega (arith, so_far.taken.free, length-map front (λ (i : Image). length i.bytes));
    used_is = cause.0 ∙ so_far.taken.used;
    within = omega (arith, cause.0, so_far.taken.used, so_far.may.fits, bytes_are);
    above = omega (arith, cause.2, cause.3, so_far.limit);
    limit_is = cause.2 ∙ so_far.limit;
  }
  why_not rest (NoCell limit) cause =
      let full : length front ≡ 1048576 = omega (arith, so_far.taken.free, cause.1) in
      let many : length (sizes_of front) ≡ 1048576 = length-map front (λ (i : Image). length i.bytes) ∙ full in
      let one_more : 1048577 ≡ length (sizes_of front) + 1 = omega (arith, many) in
      let first : take 1048577 (sizes_of (front ++ image ∷ rest)) ≡ sizes_of front ++ length image.bytes ∷ [] =
      ap (take 1048577) (sizes_next rest)
      ∙ ap (λ n. take n (sizes_of front ++ length image.bytes ∷ sizes_of rest)) one_more
      ∙ take-append-add (sizes_of front) (length image.bytes ∷ sizes_of rest) 1 in record {
        many = omega (arith, full, length-map (front ++ image ∷ rest) (λ (i : Image). length i.bytes), length-append front (image ∷ rest));
        within =
            omega (arith, ap (sum_by (λ (n : ℕ). n)) first, sum_by-append (λ (n : ℕ). n) (sizes_of front) (length image.bytes ∷ []), cause.2, so_far.taken.used, so_far.limit);
        limit_is = cause.0 ∙ so_far.taken.all;
      }

  module _ (shared : Shared) (same : shared.value ≡ image) (cell : ℕ) (index' : Index) (table' : Table Shared) (slots' : Slots) (opens : ImageOpens cell shared index index' table table' slots slots') where
    -- what has a lower slot is as before
    nothing_next : (s : ℕ) → All (λ i. i.slot < s) (front ++ image ∷ []) → HasNothing s index' slots'
    nothing_next s below =
        let before : All (λ i. i.slot < s) front = all_front (λ (i : Image). i.slot < s) front (image ∷ []) below in
        let own : image.slot < s = All-head (λ (i : Image). i.slot < s) image [] (all_rest (λ (i : Image). i.slot < s) front (image ∷ []) below) in
        let was = so_far.nothing s before in
        let other : eqb shared.value.slot s ≡ false = ne_eqb shared.value.slot s (λ e. omega (arith, e, own, ap (λ (i : Image). i.slot) same)) in record {
          unheld = λ k.
              opens.index.held k s ∙ ap (λ b. (b && has_row k (rows_in shared.value)) || among s (kept index k).held) other ∙ was.unheld k;
          unused = opens.slots.lives s ∙ ap (λ b. cond b (Some (record { cell = cell; alive = distinct_keys (rows_in shared.value); total = length shared.value.rows })) (live_at slots s)) other ∙ was.unused;
        }

    pub opens_more : RowsTake (rows_in image) (length image.bytes)
        → Reflects (record (parts_after slot more front index table slots) { index = index'; cells = table'; map = slots'; roots = opened_roots slot (map stored front ++ stored shared.value ∷ []) more; next_id = length (map stored front) + 2 })
        (opened budget slot (map stored front ++ stored shared.value ∷ []) more)
        → MayOpen budget (map stored front ++ stored shared.value ∷ []) → Opens budget slot more (front ++ image ∷ []) index' table' slots'
    opens_more takes reflects may =
        let one_more : map stored front ++ stored shared.value ∷ [] ≡ map stored (front ++ image ∷ []) =
        ap (λ (i : Image). map stored front ++ stored i ∷ []) same ∙ sym (map-append stored front (image ∷ [])) in
        let longer : length (front ++ image ∷ []) ≡ length front + 1 = length-append front (image ∷ []) in
        let next : length (map stored front) + 2 ≡ length (front ++ image ∷ []) + 1 = omega (arith, longer, length-map front stored) in
        let sum : bytes_in (front ++ image ∷ []) ≡ bytes_in front + length image.bytes =
        ap (sum_by (λ (n : ℕ). n)) (sizes_next []) ∙ sum_by-append (λ (n : ℕ). n) (sizes_of front) (length image.bytes ∷ []) ∙ omega arith in
        let begun = subst (λ (i : Image). Begins table opens.filling i.id (length i.bytes) cell) same opens.begun in
        let begun_next = subst (λ (n : ℕ). Begins table opens.filling n (length image.bytes) cell) id_is begun in
        let taken = taken_more table opens.filling table' (length front) (length image.bytes) (bytes_in front) cell shared begun_next opens.cells so_far.taken in record {
          reflects =
              subst (λ (n : ℕ). Reflects (record (parts_after slot more (front ++ image ∷ []) index' table' slots') { next_id = n }) (opened budget slot (map stored (front ++ image ∷ [])) more)) next
              (subst (λ (images : List machine.Image). Reflects (record (parts_after slot more front index' table' slots') { roots = opened_roots slot images more; next_id = length (map stored front) + 2 }) (opened budget slot images more)) one_more reflects);
          may = subst (MayOpen budget) one_more may;
          bytes = subst ImagesHaveBytes (sym (map-append stored front (image ∷ [])))
              (All-append (λ (i : machine.Image). RowsTake i.rows i.bytes) (map stored front) (stored image ∷ []) so_far.bytes
              (All-cons (λ (i : machine.Image). RowsTake i.rows i.bytes) (stored image) [] takes (λ k d lt. absurd (omega (arith, lt)))));
          limit = ap (λ (t : Table Shared). t.limit) (cells_filled table opens.filling table' (length front) (length image.bytes) (bytes_in front) cell shared begun_next opens.cells) ∙ so_far.limit;
          taken = subst (λ (n : ℕ). Taken table'.cells n (bytes_in (front ++ image ∷ []))) (sym longer) (subst (λ (n : ℕ). Taken table'.cells (length front + 1) n) (sym sum) taken);
          nothing = nothing_next;
        }
