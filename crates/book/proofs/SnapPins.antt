-- The cells of images, pinned once more or less, one after another.
use Rattle.std.proofs.Common.{◌≡◌, ◌≢◌, ℕ, ◌+◌, ◌<◌, ◌≤◌, List, [], ◌∷◌, ◌++◌, length, get_or, set, take, true, AllPairs, Option, Some, refl, sym, ap, ◌∙◌, subst, inl, inr, arith, get_or-set_same, get_or-set_other}
use Rattle.std.proofs.lemmas.Bool.{true≢false, cases_lt, cases_eq, eqb-true}
use Rattle.std.proofs.lemmas.List.{take_more, get_or-map, get_or_past, get_or_default, length-map}
use Rattle.std.proofs.lemmas.List.Sums.{sum_by-set}
use Rattle.vec_scan.specs.Image.{Image}
use Rattle.cell_table.specs.declared.phase.Phase.{Phase}
use Rattle.cell_table.specs.declared.phase.Phase.TheVariants.{Free, Filling, Live, Retired}
use Rattle.cell_table.specs.Phases.{has_id, is_live, pins_of, pinned, unpinned}
use Rattle.cell_table.specs.Cells.{Table, cell_at, pins}
use Rattle.book_parts.specs.Parts.{Shared}
use Rattle.book_parts.specs.Shrinks.{with_phase}
use Rattle.book_parts.specs.Snaps.{ids_of, MayPin, PinsEach, UnpinsEach}
use Rattle.vec_scan.specs.Shown.{images_of}

-- ---- cells of which one changes

-- a cell in use is one of the list
within : (cells : List (Phase Shared)) (id i : ℕ) → has_id id (cell_at cells i) ≡ true → i < length cells
within cells id i e = elim (cases_lt i (length cells)) [
  | inl lt ↦ lt
  | inr past ↦ absurd (true≢false (sym e ∙ ap (has_id id) (get_or_past cells i Free (omega arith))))
]

-- a cell has one id
one_id : (a b : ℕ) (phase : Phase Shared) → has_id a phase ≡ true → has_id b phase ≡ true → a ≡ b
one_id a b Free e f = absurd (true≢false (sym e))
one_id a b (Filling id bytes) e f = sym (eqb-true id a e) ∙ eqb-true id b f
one_id a b (Live id bytes pins image) e f = sym (eqb-true id a e) ∙ eqb-true id b f
one_id a b (Retired id bytes pins image) e f = sym (eqb-true id a e) ∙ eqb-true id b f

-- what is read of the cell is as before
same_look : {X : Type 0} (f : Phase Shared → X) (cells : List (Phase Shared)) (i : ℕ) (now : Phase Shared) → i < length cells → f now ≡ f (cell_at cells i) → (k : ℕ) → f (cell_at (set cells i now) k) ≡ f (cell_at cells k)
same_look f cells i now lt same k = elim (cases_eq k i) [
  | inl here ↦ ap (λ n. f (cell_at (set cells i now) n)) here ∙ ap f (get_or-set_same cells i now Free lt) ∙ same ∙ ap (λ n. f (cell_at cells n)) (sym here)
  | inr apart ↦ ap f (get_or-set_other cells i k now Free apart)
]

pinned_id : (id : ℕ) (phase : Phase Shared) → has_id id (pinned phase) ≡ has_id id phase
pinned_id id Free = refl
pinned_id id (Filling n bytes) = refl
pinned_id id (Live n bytes pins image) = refl
pinned_id id (Retired n bytes pins image) = refl

pinned_live : (phase : Phase Shared) → is_live (pinned phase) ≡ is_live phase
pinned_live Free = refl
pinned_live (Filling n bytes) = refl
pinned_live (Live n bytes pins image) = refl
pinned_live (Retired n bytes pins image) = refl

pinned_count : (phase : Phase Shared) → is_live phase ≡ true → pins_of (pinned phase) ≡ pins_of phase + 1
pinned_count Free live = absurd (true≢false (sym live))
pinned_count (Filling n bytes) live = absurd (true≢false (sym live))
pinned_count (Live n bytes pins image) live = refl
pinned_count (Retired n bytes pins image) live = absurd (true≢false (sym live))

-- ---- one more is pinned

pub pins_more : (done : List ℕ) (id : ℕ) (old now : Table Shared) (cell : ℕ) → PinsEach done old now → has_id id (cell_at now.cells cell) ≡ true → is_live (cell_at now.cells cell) ≡ true
    → PinsEach (done ++ id ∷ []) old (with_phase pinned cell now)
pins_more [] id old now cell e has live =
    (cell, ap (λ (t : Table Shared). has_id id (cell_at t.cells cell)) (sym e) ∙ has, ap (λ (t : Table Shared). is_live (cell_at t.cells cell)) (sym e) ∙ live, ap (with_phase pinned cell) e)
pins_more (x ∷ done) id old now cell each has live = (each.0, each.1, each.2, pins_more done id (with_phase pinned each.0 old) now cell each.3 has live)

pub still_may_pin : (images : List Image) (id : ℕ) (now : Table Shared) (cell : ℕ) → has_id id (cell_at now.cells cell) ≡ true → MayPin images now → MayPin images (with_phase pinned cell now)
still_may_pin images id now cell has may k d lt =
    let m = may k d lt in
    let was = cell_at now.cells cell in
    let in_list = within now.cells id cell has in
    let n = (get_or images k d).id in
    (m.0, same_look (has_id n) now.cells cell (pinned was) in_list (pinned_id n was) m.0 ∙ m.1, same_look is_live now.cells cell (pinned was) in_list (pinned_live was) m.0 ∙ m.2)

pub one_pin : (id : ℕ) (now : Table Shared) (cell : ℕ) → has_id id (cell_at now.cells cell) ≡ true → is_live (cell_at now.cells cell) ≡ true → pins (with_phase pinned cell now).cells ≡ pins now.cells + 1
one_pin id now cell has live = omega (arith, sum_by-set pins_of now.cells cell (pinned (cell_at now.cells cell)) Free (within now.cells id cell has), pinned_count (cell_at now.cells cell) live)

-- ---- one more is unpinned

pub unpins_more : (done : List ℕ) (id : ℕ) (old now : Table Shared) (cell : ℕ) → UnpinsEach done old now → has_id id (cell_at now.cells cell) ≡ true → 0 < pins_of (cell_at now.cells cell)
    → UnpinsEach (done ++ id ∷ []) old (with_phase unpinned cell now)
unpins_more [] id old now cell e has some = (
  cell,
  ap (λ (t : Table Shared). has_id id (cell_at t.cells cell)) (sym e) ∙ has,
  subst (λ (t : Table Shared). 0 < pins_of (cell_at t.cells cell)) e some,
  ap (with_phase unpinned cell) e,
)
unpins_more (x ∷ done) id old now cell each has some = (each.0, each.1, each.2, unpins_more done id (with_phase unpinned each.0 old) now cell each.3 has some)

-- those from one on are pinned
abbrev pub PinnedFrom : ℕ → List Image → Table Shared → Type 0
PinnedFrom n images now = (k : ℕ) (d : Image) → n ≤ k → k < length images → (cell : ℕ) × (has_id (get_or images k d).id (cell_at now.cells cell) ≡ true) × (0 < pins_of (cell_at now.cells cell))

pub still_pinned : (images : List Image) (n : ℕ) (now : Table Shared) (cell : ℕ) (d : Image) → AllPairs (λ i j. i.id ≢ j.id) images → n < length images
    → has_id (get_or images n d).id (cell_at now.cells cell) ≡ true → PinnedFrom n images now → PinnedFrom (n + 1) images (with_phase unpinned cell now)
still_pinned images n now cell d differ lt has may k e above within_list =
    let m = may k e (omega (arith, above)) within_list in
    let apart : m.0 ≢ cell = λ same.
    differ n k e (omega (arith, above)) within_list
    (one_id (get_or images n e).id (get_or images k e).id (cell_at now.cells cell)
    (ap (λ (i : Image). has_id i.id (cell_at now.cells cell)) (get_or_default images n e d lt) ∙ has)
    (ap (λ c. has_id (get_or images k e).id (cell_at now.cells c)) (sym same) ∙ m.1)) in
    let other = get_or-set_other now.cells cell m.0 (unpinned (cell_at now.cells cell)) Free apart in
    (m.0, ap (has_id (get_or images k e).id) other ∙ m.1, subst (λ (c : Phase Shared). 0 < pins_of c) (sym other) m.2)

-- ---- the next id

pub next_id : (images : List Image) (n : ℕ) (d : Image) → n < length images → take (n + 1) (ids_of images) ≡ take n (ids_of images) ++ (get_or images n d).id ∷ []
next_id images n d lt =
    let long = length-map images (λ (i : Image). i.id) in
    take_more (ids_of images) n d.id (omega (arith, lt, long)) ∙ ap (λ (id : ℕ). take n (ids_of images) ++ id ∷ []) (get_or-map (λ (i : Image). i.id) images n d d.id lt)

-- the image of what is shared at a place
pub image_there : (storages : List Shared) (n : ℕ) (s : Shared) → n < length storages → s ≡ get_or storages n s → get_or (images_of storages) n s.value ≡ s.value
image_there storages n s lt is = get_or-map (λ (t : Shared). t.value) storages n s s.value lt ∙ ap (λ (t : Shared). t.value) (sym is)

pub as_many : (storages : List Shared) → length (images_of storages) ≡ length storages
as_many storages = length-map storages (λ (t : Shared). t.value)

module _ (storages : List Shared) (n : ℕ) (s : Shared) (id : ℕ) (lt : n < length storages) (is : s ≡ get_or storages n s) (has_it : id ≡ s.value.id) where
  pub id_there : (get_or (images_of storages) n s.value).id ≡ id
  id_there = ap (λ (i : Image). i.id) (image_there storages n s lt is) ∙ sym has_it

  -- the live cell of the image at a place
  pub live_there : (now : Table Shared) → MayPin (images_of storages) now → (cell : ℕ) × (has_id id (cell_at now.cells cell) ≡ true) × (is_live (cell_at now.cells cell) ≡ true)
  live_there now may =
      let m = may n s.value (omega (arith, lt, as_many storages)) in
      (m.0, subst (λ (k : ℕ). has_id k (cell_at now.cells m.0) ≡ true) id_there m.1, m.2)

  -- and its cell with a pin
  pub pin_there : (now : Table Shared) → PinnedFrom n (images_of storages) now → (cell : ℕ) × (has_id id (cell_at now.cells cell) ≡ true) × (0 < pins_of (cell_at now.cells cell))
  pin_there now left =
      let m = left n s.value (omega arith) (omega (arith, lt, as_many storages)) in
      (m.0, subst (λ (k : ℕ). has_id k (cell_at now.cells m.0) ≡ true) id_there m.1, m.2)

-- the cell that was found is the one
pub found_cell : (o : Option ℕ) (a b : ℕ) → o ≡ Some a → o ≡ Some b → a ≡ b
found_cell o a b e f = let same : Some a ≡ Some b = sym e ∙ f in cc
