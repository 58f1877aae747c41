-- Rows made of keys that differ: each key has its own row and no other.
use Rattle.std.proofs.Common.{◌≡◌, ◌≢◌, ℕ, Bool, true, false, cond, IsTrue, List, [], ◌∷◌, find, filter, filter_map, AllPairs, Contains, Option, Some, None, option_to_list, refl, sym, ap, ◌∙◌, subst, inl, inr, ◌⊎◌}
use Rattle.std.specs.List.{cons_option}
use Rattle.std.specs.Str.{bytes_eq}
use Rattle.std.proofs.lemmas.Bool.{true≢false, or_cases, or_left, or_right}
use Rattle.std.proofs.lemmas.List.Elements.{All-contains}
use Rattle.adb_model.specs.Lists.{last}
use Rattle.adb_model.specs.State.{Row}
use Rattle.adb_model.specs.Presence.{has_row}
use Rattle.adb_model.proofs.Members.{contains_here, contains_next, contains_cases, contains_none}
use Rattle.adb_model.proofs.Pairs.{pairs_head, pairs_tail}
use Rattle.adb_model.proofs.Distinct.{bytes_eq-true, eq-bytes_eq, ne-bytes_eq}

pub last_of_option : {X : Type 0} (o : Option X) → last (option_to_list o) ≡ o
last_of_option None = refl
last_of_option (Some x) = refl

module _ (f : List ℕ → Option Row) (keyed : (k : List ℕ) (r : Row) → f k ≡ Some r → r.key ≡ k) where
  abbrev pub rows_of : List (List ℕ) → List Row
  rows_of keys = filter_map f keys

  pub row_key : (keys : List (List ℕ)) (k : List ℕ) → IsTrue (has_row k (rows_of keys)) → Contains keys k
  row_key [] k t = absurd (true≢false (sym t))
  row_key (x ∷ xs) k t = by (f x) refl t (row_key xs k)
    where
      by : (o : Option Row) → f x ≡ o → IsTrue (has_row k (cons_option o (rows_of xs))) → (IsTrue (has_row k (rows_of xs)) → Contains xs k) → Contains (x ∷ xs) k
      by None e t ih = contains_next x k xs (ih t)
      by (Some r) e t ih = elim (or_cases (bytes_eq r.key k) (has_row k (rows_of xs)) t) [
        | inl here ↦ subst (Contains (x ∷ xs)) (sym (keyed x r e) ∙ bytes_eq-true r.key k here) (contains_here x xs)
        | inr there ↦ contains_next x k xs (ih there)
      ]

  pub key_row : (keys : List (List ℕ)) (k : List ℕ) (r : Row) → Contains keys k → f k ≡ Some r → IsTrue (has_row k (rows_of keys))
  key_row [] k r c e = absurd (contains_none k c)
  key_row (x ∷ xs) k r c e = by (f x) refl (contains_cases x k xs c) (λ d. key_row xs k r d e)
    where
      by : (o : Option Row) → f x ≡ o → (x ≡ k) ⊎ Contains xs k → (Contains xs k → IsTrue (has_row k (rows_of xs))) → IsTrue (has_row k (cons_option o (rows_of xs)))
      by None g (inl same) ih = let h : None ≡ Some r = sym g ∙ ap f same ∙ e in absurd cc
      by None g (inr d) ih = ih d
      by (Some q) g (inl same) ih = or_left _ _ (eq-bytes_eq q.key k (keyed x q g ∙ same))
      by (Some q) g (inr d) ih = or_right _ _ (ih d)

  none_of_key : (keys : List (List ℕ)) (k : List ℕ) → (Contains keys k → ⊥) → filter (λ r. bytes_eq r.key k) (rows_of keys) ≡ []
  none_of_key [] k none = refl
  none_of_key (x ∷ xs) k none = by (f x) refl (none_of_key xs k (λ c. none (contains_next x k xs c)))
    where
      by : (o : Option Row) → f x ≡ o → filter (λ r. bytes_eq r.key k) (rows_of xs) ≡ [] → filter (λ r. bytes_eq r.key k) (cons_option o (rows_of xs)) ≡ []
      by None e ih = ih
      by (Some r) e ih =
          ap (λ b. cond b (r ∷ filter (λ r. bytes_eq r.key k) (rows_of xs)) (filter (λ r. bytes_eq r.key k) (rows_of xs)))
          (ne-bytes_eq r.key k (λ same. none (subst (Contains (x ∷ xs)) (sym (keyed x r e) ∙ same) (contains_here x xs)))) ∙ ih

  only_of_key : (keys : List (List ℕ)) (k : List ℕ) → AllPairs (λ x y. x ≢ y) keys → Contains keys k → filter (λ r. bytes_eq r.key k) (rows_of keys) ≡ option_to_list (f k)
  only_of_key [] k differ c = absurd (contains_none k c)
  only_of_key (x ∷ xs) k differ c = by (f x) refl (contains_cases x k xs c) (only_of_key xs k (pairs_tail (λ x y. x ≢ y) x xs differ))
    where
      others : x ≡ k → Contains xs k → ⊥
      others same c = All-contains (λ y. x ≢ y) xs k (pairs_head (λ x y. x ≢ y) x xs differ) c same

      by : (o : Option Row) → f x ≡ o → (x ≡ k) ⊎ Contains xs k → (Contains xs k → filter (λ r. bytes_eq r.key k) (rows_of xs) ≡ option_to_list (f k)) → filter (λ r. bytes_eq r.key k) (cons_option o (rows_of xs)) ≡ option_to_list (f k)
      by None e (inl same) ih = none_of_key xs k (others same) ∙ ap option_to_list (sym e ∙ ap f same)
      by None e (inr d) ih = ih d
      by (Some r) e (inl same) ih =
          ap (λ b. cond b (r ∷ filter (λ r. bytes_eq r.key k) (rows_of xs)) (filter (λ r. bytes_eq r.key k) (rows_of xs))) (eq-bytes_eq r.key k (keyed x r e ∙ same))
          ∙ ap (λ (l : List Row). r ∷ l) (none_of_key xs k (others same)) ∙ ap option_to_list (sym e ∙ ap f same)
      by (Some r) e (inr d) ih =
          ap (λ b. cond b (r ∷ filter (λ r. bytes_eq r.key k) (rows_of xs)) (filter (λ r. bytes_eq r.key k) (rows_of xs)))
          (ne-bytes_eq r.key k (λ same. others (sym (keyed x r e) ∙ same) d)) ∙ ih d

  -- the last row of a key is its own
  pub last_of_key : (keys : List (List ℕ)) (k : List ℕ) → AllPairs (λ x y. x ≢ y) keys → Contains keys k → last (filter (λ r. bytes_eq r.key k) (rows_of keys)) ≡ f k
  last_of_key keys k differ c = ap last (only_of_key keys k differ c) ∙ last_of_option (f k)

  no_row_of_key : (keys : List (List ℕ)) (k : List ℕ) → f k ≡ None → find (λ r. bytes_eq r.key k) (rows_of keys) ≡ None
  no_row_of_key [] k none = refl
  no_row_of_key (x ∷ xs) k none = by (f x) refl (no_row_of_key xs k none)
    where
      by : (o : Option Row) → f x ≡ o → find (λ r. bytes_eq r.key k) (rows_of xs) ≡ None → find (λ r. bytes_eq r.key k) (cons_option o (rows_of xs)) ≡ None
      by None e ih = ih
      by (Some r) e ih =
          ap (λ b. cond b (Some r) (find (λ r. bytes_eq r.key k) (rows_of xs)))
          (ne-bytes_eq r.key k (λ same. let no : Some r ≡ None = sym e ∙ ap f (sym (keyed x r e) ∙ same) ∙ none in absurd cc)) ∙ ih

  row_of_key : (keys : List (List ℕ)) (k : List ℕ) (r : Row) → f k ≡ Some r → Contains keys k → find (λ r. bytes_eq r.key k) (rows_of keys) ≡ Some r
  row_of_key [] k r some c = absurd (contains_none k c)
  row_of_key (x ∷ xs) k r some c = by (f x) refl (contains_cases x k xs c) (row_of_key xs k r some)
    where
      at : (q : Row) → f x ≡ Some q → (b : Bool) → bytes_eq q.key k ≡ b → (x ≡ k) ⊎ Contains xs k → (Contains xs k → find (λ r. bytes_eq r.key k) (rows_of xs) ≡ Some r) → cond b (Some q) (find (λ r. bytes_eq r.key k) (rows_of xs)) ≡ Some r
      at q e true t d ih = sym e ∙ ap f (sym (keyed x q e) ∙ bytes_eq-true q.key k t) ∙ some
      at q e false t (inl same) ih = absurd (true≢false (sym (eq-bytes_eq q.key k (keyed x q e ∙ same)) ∙ t))
      at q e false t (inr d) ih = ih d

      by : (o : Option Row) → f x ≡ o → (x ≡ k) ⊎ Contains xs k → (Contains xs k → find (λ r. bytes_eq r.key k) (rows_of xs) ≡ Some r) → find (λ r. bytes_eq r.key k) (cons_option o (rows_of xs)) ≡ Some r
      by None e (inl same) ih = let no : None ≡ Some r = sym e ∙ ap f same ∙ some in absurd cc
      by None e (inr d) ih = ih d
      by (Some q) e d ih = at q e (bytes_eq q.key k) refl d ih

  -- the first row of a key is its own
  pub first_of_key : (keys : List (List ℕ)) (k : List ℕ) → ((r : Row) → f k ≡ Some r → Contains keys k) → find (λ r. bytes_eq r.key k) (rows_of keys) ≡ f k
  first_of_key keys k there = by (f k) refl
    where
      by : (o : Option Row) → f k ≡ o → find (λ r. bytes_eq r.key k) (rows_of keys) ≡ o
      by None e = no_row_of_key keys k e
      by (Some r) e = row_of_key keys k r e (there r e)
