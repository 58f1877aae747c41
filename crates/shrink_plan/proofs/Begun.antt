-- How a shrink has begun, by what its steps tell.
use Rattle.std.proofs.Common.{◌≡◌, ℕ, List, length, true, Option, Some, refl, sym, ap, subst, ◌∙◌, IsSome}
use Rattle.std.specs.Prelude.{IsSomeAnd}
use Rattle.accounts_index.specs.Index.{Index}
use Rattle.adb_model.specs.State.{Row}
use Rattle.adb_model.specs.Storages.{bytes_of}
use Rattle.append_vec.specs.Filled.{KeysDiffer}
use Rattle.vec_scan.specs.Image.{Image}
use Rattle.cell_table.specs.declared.phase.Phase.{Phase}
use Rattle.cell_table.specs.declared.phase.Phase.TheVariants.{Free, Filling, Live, Retired}
use Rattle.cell_table.specs.Phases.{is_live, value_of, pinned}
use Rattle.cell_table.specs.Cells.{Table, Begins}
use Rattle.storage_map.specs.declared.entry.Live as entry
use Rattle.storage_map.specs.Slots.{Slots, live_at, begun_with, Becomes}
use Rattle.book_parts.specs.Parts.{Shared}
use Rattle.book_parts.specs.Shrinks.{Copy, IsInUse, ShrinkBegins, copied_rows, dead_rows, copy_of, with_phase}
use Rattle.shrink_plan.specs.declared.sorting.SortedRows.{SortedRows}
use Rattle.shrink_plan.specs.Places.{StandAt, rows_at, AreRows}
use Rattle.shrink_plan.specs.Sources.{OfStorage}
use Rattle.shrink_plan.proofs.Standing.{as_many, rows_are, are_rows}

-- a live cell has a value
pub some_value : (phase : Phase Shared) → is_live phase ≡ true → IsSome (value_of phase)
some_value Free e = absurd (cc e)
some_value (Filling id bytes) e = absurd (cc e)
some_value (Live id bytes n value) e = refl
some_value (Retired id bytes n value) e = absurd (cc e)

-- the rows of the image of the slot's storage in use are sorted
pub record AreSorted (index : Index) (slot cell : ℕ) (image : Image) (rows : SortedRows) : Type 0 where
  pub copied : StandAt image rows.copied.items (copied_rows index slot cell image)
  pub dead : StandAt image rows.dead.items (dead_rows index slot image)
  pub bytes : rows.bytes ≡ bytes_of (copied_rows index slot cell image)

-- what a job has of them
abbrev pub job_of : ℕ → ℕ → Image → SortedRows → Copy
job_of slot id image rows = record {
  slot = slot;
  old = image.id;
  id = id;
  bytes = rows.bytes;
  rows = rows_at image rows.copied.items;
  dead = rows_at image rows.dead.items;
}

same_job : (slot id : ℕ) (index : Index) (cell : ℕ) (image : Image) (rows : SortedRows) → AreSorted index slot cell image rows → job_of slot id image rows ≡ copy_of index slot cell image id
same_job slot id index cell image rows are =
    ap (λ (rs : List Row). record (job_of slot id image rows) { rows = rs }) (rows_are image rows.copied.items _ are.copied)
    ∙ ap (λ (rs : List Row). record (job_of slot id image rows) { rows = copied_rows index slot cell image; dead = rs }) (rows_are image rows.dead.items _ are.dead)
    ∙ ap (λ (n : ℕ). record (copy_of index slot cell image id) { bytes = n }) are.bytes

pub has_begun : (slot id cell : ℕ) (index : Index) (live : entry.Live) (image : Shared) (shared : Image) (rows : SortedRows) (job : Copy) (old mid new : Table Shared) (slots slots' : Slots)
    → IsInUse slot live image old slots → AreSorted index slot live.cell image.value rows
    → shared ≡ image.value → job ≡ job_of slot id shared rows
    → Begins old mid id rows.bytes cell → new ≡ with_phase pinned live.cell mid → Becomes slots slots' slot (live_at slots slot) (Some (begun_with cell (length rows.copied.items)))
    → OfStorage slot old slots (λ l i. (c : ℕ) × (job ≡ copy_of index slot l.cell i.value id) × ShrinkBegins slot id l.cell c (copied_rows index slot l.cell i.value) old new slots slots')
has_begun slot id cell index live image shared rows job old mid new slots slots' in_use are same made began pin becomes = (
  live,
  image,
  in_use,
  (
    cell,
    made ∙ ap (λ (im : Image). job_of slot id im rows) same ∙ same_job slot id index live.cell image.value rows are,
    record {
      filling = mid;
      begun = subst (λ (n : ℕ). Begins old mid id n cell) are.bytes began;
      pinned = pin;
      slots = subst (λ (n : ℕ). Becomes slots slots' slot (live_at slots slot) (Some (begun_with cell n)))
          (as_many image.value rows.copied.items (copied_rows index slot live.cell image.value) are.copied) becomes;
    },
  ),
)

-- in an equal image the places are of rows, too
pub are_there : (image shared : Image) (places : List ℕ) (rows : List Row) → image ≡ shared → StandAt image places rows → AreRows shared places
are_there image shared places rows same stand = subst (λ (im : Image). AreRows im places) same (are_rows image places rows stand)

-- and their keys differ
pub rows_differ : (image shared : Image) (places : List ℕ) (rows : List Row) → image ≡ shared → StandAt image places rows → KeysDiffer rows → KeysDiffer (rows_at shared places)
rows_differ image shared places rows same stand differ =
    subst (λ (im : Image). KeysDiffer (rows_at im places)) same (subst KeysDiffer (sym (rows_are image places rows stand)) differ)

-- rows of an equal image are sorted alike
pub sorted_alike : (index : Index) (slot cell : ℕ) (seen image : Image) (rows : SortedRows) → seen ≡ image → AreSorted index slot cell seen rows → AreSorted index slot cell image rows
sorted_alike index slot cell seen image rows same are = subst (λ (im : Image). AreSorted index slot cell im rows) same are

-- what is so of the entry in use
pub of_entry : (o : Option entry.Live) (P : entry.Live → Type 0) (live : entry.Live) → o ≡ Some live → IsSomeAnd o P → P live
of_entry o P live e some = subst (λ (x : Option entry.Live). IsSomeAnd x P) e some
