-- A search among rising names.
use Rattle.std.proofs.Common.{◌≡◌, ℕ, zero, suc, ◌+◌, ◌<◌, List, [], ◌∷◌, length, get_or, false, Result, Ok, Err, Less, refl, sym, ap, ◌∙◌, arith, inl, inr, string_bytes}
use Rattle.std.specs.Prelude.{is_ok}
use Rattle.std.specs.Cmp.Lexicographic.{slice_cmp, nat_list_cmp_total}
use Rattle.std.specs.List.{AllByRecursion}
use Rattle.std.specs.List.Sorted.{IsBinarySearchResult, IsSearchInRange, IsSortedBy, IsStrictlySortedBy}
use Rattle.std.specs.Ordering.{is_eq, is_lt, nat_cmp}
use Rattle.std.specs.Str.{bytes_eq}
use Rattle.std.specs.declared.string.String.{String}
use Rattle.std.proofs.lemmas.Bool.{cases_lt}
use Rattle.std.proofs.lemmas.List.Folds.{list_any_at, list_any_none}
use Rattle.std.proofs.lemmas.List.Sorted.{searchable_from_sorted}
use Rattle.std.proofs.lemmas.Map.Text.{is_eq-slice_cmp}
use Rattle.dir_io.specs.Files.{IsRising, is_among, texts}
use Rattle.field_codec.proofs.Listed.{any_through}

-- what is above is not below
not_above : (x y : List ℕ) → slice_cmp nat_cmp x y ≡ Less → is_lt (slice_cmp nat_cmp y x) ≡ false
not_above x y e = rw (nat_list_cmp_total.antisymm y x, e) refl

module _ {A : Type 0} where
  -- a name is below those after it
  below : (k : List ℕ) (names : List (String A)) (j : ℕ) (d : String A) → AllByRecursion (λ y. slice_cmp nat_cmp k y ≡ Less) (texts names) → j < length names → slice_cmp nat_cmp k (string_bytes (get_or names j d)) ≡ Less
  below k [] j d h lt = absurd (omega (arith, lt))
  below k (n ∷ names) zero d h lt = h.0
  below k (n ∷ names) (suc j) d h lt = below k names j d h.1 (omega (arith, lt))

  rises : (names : List (String A)) → IsRising (texts names) → (i : ℕ) (d : String A) → suc i < length names → slice_cmp nat_cmp (string_bytes (get_or names i d)) (string_bytes (get_or names (suc i) d)) ≡ Less
  unfolding IsStrictlySortedBy
  rises [] up i d lt = absurd (omega (arith, lt))
  rises (n ∷ names) up zero d lt = below (string_bytes n) names 0 d up.0 (omega (arith, lt))
  rises (n ∷ names) up (suc i) d lt = rises names up.1 i d (omega (arith, lt))

  sorted : (names : List (String A)) → IsRising (texts names) → IsSortedBy (λ (a b : String A). is_lt (slice_cmp nat_cmp (string_bytes a) (string_bytes b))) names
  sorted names up k d low high =
      let on : k + 1 ≡ suc k = omega arith in
      rw on (not_above (string_bytes (get_or names k d)) (string_bytes (get_or names (suc k) d)) (rises names up k d (omega (arith, high))))

  -- what a search says of the names: whether the path is one of them
  pub searched : (names : List (String A)) (path : List ℕ) (r : Result ℕ ℕ) → IsRising (texts names) → IsSearchInRange r (length names) → IsBinarySearchResult (λ y. slice_cmp nat_cmp (string_bytes y) path) names r
      → is_ok r ≡ is_among (texts names) path
  searched [] path (Ok i) up in_range at = absurd (omega (arith, in_range))
  searched (n ∷ names) path (Ok i) up in_range at =
      sym (any_through (λ k. bytes_eq k path) string_bytes (n ∷ names)
      ∙ list_any_at (λ k. bytes_eq (string_bytes k) path) (n ∷ names) i n in_range (sym (is_eq-slice_cmp (string_bytes (get_or (n ∷ names) i n)) path) ∙ ap is_eq (at n)))
  searched names path (Err i) up in_range parted =
      let p = parted (searchable_from_sorted nat_list_cmp_total string_bytes names path (sorted names up)) in
      sym (any_through (λ k. bytes_eq k path) string_bytes names
      ∙ list_any_none (λ k. bytes_eq (string_bytes k) path) names (λ k d lt. sym (is_eq-slice_cmp (string_bytes (get_or names k d)) path) ∙ elim (cases_lt k i) [
        | inl lower ↦ ap is_eq (p.0 k d (omega arith) lower)
        | inr upper ↦ ap is_eq (p.1 k d upper lt)
      ]))
