-- The rows of an image are held no longer, one after another.
use Rattle.std.proofs.Common.{◌≡◌, ℕ, ◌+◌, ◌≤◌, List, [], ◌∷◌, ◌++◌, length, take, Bool, true, false, eqb, not, ◌&&◌, ◌||◌, Some, option_map, refl, sym, ap, ◌∙◌, inl, inr, arith}
use Rattle.std.specs.List.{slice_get}
use Rattle.std.specs.Str.{bytes_eq}
use Rattle.std.proofs.lemmas.Bool.{cases_Bool, eqb-true}
use Rattle.std.proofs.lemmas.List.{length-map, take_all, take_more}
use Rattle.std.proofs.lemmas.Option.{get_or_from_slice_get, slice_get-map, slice_get_within}
use Rattle.slot_list.specs.Versions.{without_slot}
use Rattle.accounts_index.specs.Index.{Index, Kept, kept, IsWith}
use Rattle.vec_scan.specs.Image.{Image, Placed}
use Rattle.vec_scan.specs.Seal.{rows_in, offsets_of}
use Rattle.adb_model.specs.Lists.{among}
use Rattle.adb_model.specs.State.{Row}
use Rattle.adb_model.specs.Presence.{has_row}
use Rattle.book_parts.specs.Reclaims.{Unholds}
use Rattle.clean_plan.proofs.Dropping.{same_bytes}

-- ---- the rows so far

abbrev row_of : Placed → Row
row_of placed = placed.row

-- the rows with the next one
pub next_row : (image : Image) (n : ℕ) (p : Placed) → slice_get image.rows n ≡ Some p → take (n + 1) (rows_in image) ≡ take n (rows_in image) ++ p.row ∷ []
next_row image n p is =
    let rows = rows_in image in
    let there : slice_get rows n ≡ Some p.row = slice_get-map row_of image.rows n ∙ ap (option_map row_of) is in
    take_more rows n p.row (slice_get_within rows n p.row there)
    ∙ ap (λ (row : Row). take n rows ++ row ∷ []) (get_or_from_slice_get rows n p.row p.row there)

-- as many rows as there are offsets are all
pub all_rows : (image : Image) (offsets : List ℕ) (n : ℕ) → offsets ≡ offsets_of image.rows → length offsets ≤ n → take n (rows_in image) ≡ rows_in image
all_rows image offsets n are le =
    take_all n (rows_in image) (omega (arith, le, ap length are, length-map image.rows (λ (p : Placed). p.offset), length-map image.rows row_of))

swapped : (a b c : Bool) → (a || (b || c)) ≡ (b || (a || c))
swapped true true c = refl
swapped true false c = refl
swapped false true c = refl
swapped false false c = refl

-- a row of the key is among one row more
has_more : (done : List Row) (row : Row) (k : List ℕ) → has_row k (done ++ row ∷ []) ≡ (bytes_eq row.key k || has_row k done)
has_more [] row k = refl
has_more (x ∷ done) row k = ap (λ b. bytes_eq x.key k || b) (has_more done row k) ∙ swapped (bytes_eq x.key k) (bytes_eq row.key k) (has_row k done)

-- ---- what is held in the index

and_none : (b : Bool) → (b && false) ≡ false
and_none true = refl
and_none false = refl

not_twice : (a b : Bool) → (not a && b) ≡ (not a && (a || b))
not_twice true b = refl
not_twice false b = refl

other_stays : (slot s x : ℕ) (b : Bool) → eqb x slot ≡ false → (eqb x s || (not (eqb slot s) && b)) ≡ (not (eqb slot s) && (eqb x s || b))
other_stays slot s x b apart = elim (cases_Bool (eqb slot s)) [
  | inl here ↦
      let differs : eqb x s ≡ false = ap (eqb x) (sym (eqb-true slot s here)) ∙ apart in
      rw (here, differs) refl
  | inr there ↦ rw there refl
]

among_without : (slot s : ℕ) (slots : List ℕ) → among s (without_slot slot slots) ≡ (not (eqb slot s) && among s slots)
among_without slot s [] = sym (and_none (not (eqb slot s)))
among_without slot s (x ∷ slots) = elim (cases_Bool (eqb x slot)) [
  | inl gone ↦
      let same = eqb-true x slot gone in
      rw gone (among_without slot s slots ∙ not_twice (eqb slot s) (among s slots) ∙ ap (λ n. not (eqb slot s) && (eqb n s || among s slots)) (sym same))
  | inr other ↦ rw other (ap (λ b. eqb x s || b) (among_without slot s slots) ∙ other_stays slot s x (among s slots) other)
]

pub unholds_none : (slot : ℕ) (index : Index) → Unholds slot [] index index
unholds_none slot index = record {
  versions = λ k. refl;
  held = λ k s. none (eqb slot s) (among s (kept index k).held);
  expected = λ k. refl;
}
  where
    none : (here held : Bool) → held ≡ (not (here && false) && held)
    none true held = refl
    none false held = refl

module _ (slot : ℕ) (done : List Row) (row : Row) (old mid new : Index) (before : Unholds slot done old mid) (edit : IsWith mid new row.key (record (kept mid row.key) { held = without_slot slot (kept mid row.key).held })) where
  -- of the key, and of another key
  kept_here : (k : List ℕ) → bytes_eq row.key k ≡ true → kept new k ≡ record (kept mid k) { held = without_slot slot (kept mid k).held }
  kept_here k same = rw same at (edit k) ∙ ap (λ q. record (kept mid q) { held = without_slot slot (kept mid q).held }) (same_bytes row.key k same)

  kept_there : (k : List ℕ) → bytes_eq row.key k ≡ false → kept new k ≡ kept mid k
  kept_there k differs = rw differs at (edit k)

  once : (a h c : Bool) → (not a && (not (a && h) && c)) ≡ (not (a && true) && c)
  once true h c = refl
  once false h c = refl

  held_more : (k : List ℕ) (s : ℕ) → among s (kept new k).held ≡ (not (eqb slot s && has_row k (done ++ row ∷ [])) && among s (kept old k).held)
  held_more k s = elim (cases_Bool (bytes_eq row.key k)) [
    | inl same ↦
        ap (λ (x : Kept). among s x.held) (kept_here k same) ∙ among_without slot s (kept mid k).held
        ∙ ap (λ b. not (eqb slot s) && b) (before.held k s) ∙ once (eqb slot s) (has_row k done) (among s (kept old k).held)
        ∙ ap (λ b. not (eqb slot s && b) && among s (kept old k).held) (sym (has_more done row k ∙ ap (λ b. b || has_row k done) same))
    | inr differs ↦
        ap (λ (x : Kept). among s x.held) (kept_there k differs) ∙ before.held k s
        ∙ ap (λ b. not (eqb slot s && b) && among s (kept old k).held) (sym (has_more done row k ∙ ap (λ b. b || has_row k done) differs))
  ]

  -- one row more
  pub unholds_more : Unholds slot (done ++ row ∷ []) old new
  unholds_more = record {
    versions = λ k. elim (cases_Bool (bytes_eq row.key k)) [
      | inl same ↦ ap (λ (x : Kept). x.versions) (kept_here k same) ∙ before.versions k
      | inr differs ↦ ap (λ (x : Kept). x.versions) (kept_there k differs) ∙ before.versions k
    ];
    held = held_more;
    expected = λ k. elim (cases_Bool (bytes_eq row.key k)) [
      | inl same ↦ ap (λ (x : Kept). x.expected) (kept_here k same) ∙ before.expected k
      | inr differs ↦ ap (λ (x : Kept). x.expected) (kept_there k differs) ∙ before.expected k
    ];
  }
