-- What a filled image has of each key, and at each place.
use Rattle.std.proofs.Common.{◌≡◌, ℕ, zero, suc, ◌≤◌, List, [], ◌∷◌, length, map, filter, Contains, Bool, true, cond, Option, Some, refl, sym, ap, ◌∙◌, inl, inr, arith}
use Rattle.std.specs.Prelude.{slice_get}
use Rattle.std.specs.Option.{option_map}
use Rattle.std.specs.Str.{bytes_eq}
use Rattle.std.specs.Cmp.Lexicographic.{bytes_decides}
use Rattle.std.proofs.lemmas.Bool.{cases_Bool}
use Rattle.std.proofs.lemmas.List.{length-map}
use Rattle.std.proofs.lemmas.List.Elements.{All-contains, All-contains_itself, All-filter, filter_passes}
use Rattle.std.proofs.lemmas.List.Sorted.{Contains-permutation, IsPermutation-sym, sum_by-IsPermutation}
use Rattle.std.proofs.lemmas.List.Sums.{length-filter}
use Rattle.std.proofs.lemmas.Option.{slice_get-map}
use Rattle.adb_model.specs.State.{Row}
use Rattle.adb_model.specs.Laws.{SameRows}
use Rattle.vec_scan.specs.Image.{Image}
use Rattle.vec_scan.specs.Seal.{rows_in, row_there}
use Rattle.append_vec.specs.Filled.{Fills, KeysDiffer}

abbrev has : List ℕ → Row → Bool
has k r = bytes_eq r.key k

abbrev one_if : Bool → ℕ
one_if b = cond b 1 0

from_filter : (p : Row → Bool) (xs : List Row) (x : Row) → Contains (filter p xs) x → Contains xs x × (p x ≡ true)
from_filter p xs x there =
    All-contains (λ y. Contains xs y × (p y ≡ true)) (filter p xs) x (λ n d lt. (All-filter p (Contains xs) xs (All-contains_itself xs) n d lt, filter_passes p xs n d lt)) there

into_filter : (p : Row → Bool) (xs : List Row) (x : Row) → Contains xs x → p x ≡ true → Contains (filter p xs) x
into_filter p [] x there passes = absurd (omega (arith, there.1))
into_filter p (y ∷ xs) x (zero, lt, is) passes = rw (ap p is ∙ passes) (0, omega arith, is)
into_filter p (y ∷ xs) x (suc n, lt, is) passes =
    let later = into_filter p xs x (n, omega arith, is) passes in
    elim (cases_Bool (p y)) [ inl too ↦ rw too (suc later.0, omega (arith, later.1), later.2) | inr other ↦ rw other later ]

-- behind a row of the key stands no other
none_later : (k : List ℕ) (r : Row) (rows : List Row) → KeysDiffer (r ∷ rows) → has k r ≡ true → filter (has k) rows ≡ []
none_later k r [] differ is = refl
none_later k r (s ∷ rows) differ is = elim (cases_Bool (has k s)) [
  | inl too ↦ absurd (differ 0 1 r (omega arith) (omega arith) ((bytes_decides r.key k).0 is ∙ sym ((bytes_decides s.key k).0 too)))
  | inr other ↦ rw other (none_later k r rows (λ i j d lt inside. later i j d lt inside) is)
]
  where
    later : KeysDiffer (r ∷ rows)
    later zero zero d lt inside = absurd (omega arith)
    later zero (suc j) d lt inside = differ zero (suc (suc j)) d (omega arith) (omega arith)
    later (suc i) zero d lt inside = absurd (omega arith)
    later (suc i) (suc j) d lt inside = differ (suc (suc i)) (suc (suc j)) d (omega arith) (omega arith)

one_at_most : (k : List ℕ) (rows : List Row) → KeysDiffer rows → length (filter (has k) rows) ≤ 1
one_at_most k [] differ = omega arith
one_at_most k (r ∷ rows) differ = elim (cases_Bool (has k r)) [
  | inl is ↦ rw (is, none_later k r rows differ is) (omega arith)
  | inr other ↦ rw other (one_at_most k rows (λ i j d lt inside. differ (suc i) (suc j) d (omega arith) (omega arith)))
]

-- lists of one element at the most, with the same elements
same_short : (xs ys : List Row) → length ys ≤ 1 → length xs ≡ length ys → ((x : Row) → Contains xs x → Contains ys x) → xs ≡ ys
same_short [] [] few long from = refl
same_short [] (y ∷ ys) few long from = absurd (omega arith)
same_short (x ∷ xs) [] few long from = absurd (omega arith)
same_short (x ∷ []) (y ∷ []) few long from = only (from x (0, omega arith, refl))
  where
    only : Contains (y ∷ []) x → x ∷ [] ≡ y ∷ []
    only (zero, lt, is) = λ i. sym is i ∷ []
    only (suc n, lt, is) = absurd (omega arith)
same_short (x ∷ []) (y ∷ z ∷ ys) few long from = absurd (omega arith)
same_short (x ∷ w ∷ xs) (y ∷ ys) few long from = absurd (omega arith)

module _ (slot id : ℕ) (rows : List Row) (image : Image) (places : List ℕ) where
  pub same_rows : Fills slot id rows image places → KeysDiffer rows → SameRows (rows_in image) rows
  same_rows fills differ k =
      let others = rows_in image in
      let long : length (filter (has k) others) ≡ length (filter (has k) rows) =
      length-filter (has k) others ∙ sum_by-IsPermutation (λ r. one_if (has k r)) rows others fills.each_once ∙ sym (length-filter (has k) rows)
      in
      same_short (filter (has k) others) (filter (has k) rows) (one_at_most k rows differ) long
      (λ x there. let held = from_filter (has k) others x there in into_filter (has k) rows x (Contains-permutation others rows x (IsPermutation-sym rows others fills.each_once) held.0) held.1)

  pub as_many : Fills slot id rows image places → length places ≡ length rows
  as_many fills = sym (length-map places (row_there image.rows)) ∙ ap length fills.at_places ∙ length-map rows Some

  pub at_its_place : (i place : ℕ) (row : Row) → Fills slot id rows image places → slice_get places i ≡ Some place → slice_get rows i ≡ Some row → row_there image.rows place ≡ Some row
  at_its_place i place row fills at_place at_row =
      let left : slice_get (map (row_there image.rows) places) i ≡ Some (row_there image.rows place) = slice_get-map (row_there image.rows) places i ∙ ap (option_map (row_there image.rows)) at_place in
      let right : slice_get (map (λ r. Some r) rows) i ≡ Some (Some row) = slice_get-map (λ r. Some r) rows i ∙ ap (option_map (λ (r : Row). Some r)) at_row in
      some_same (sym left ∙ ap (λ (os : List (Option Row)). slice_get os i) fills.at_places ∙ right)
    where
      some_same : {a b : Option Row} → Some a ≡ Some b → a ≡ b
      some_same e = cc
