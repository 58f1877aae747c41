-- What a filter that maps gives.
use Rattle.std.proofs.Common.{◌≡◌, suc, IsTrue, List, [], ◌∷◌, length, get_or, filter_map, AllPairs, Contains, Option, Some, None, refl, sym, ap, ◌∙◌, subst₂, inl, inr, ◌⊎◌, arith}
use Rattle.std.specs.List.{cons_option}
use Rattle.std.specs.Option.{is_some}
use Rattle.std.proofs.lemmas.Bool.{true≢false}
use Rattle.std.proofs.lemmas.List.Elements.{All-contains, Contains-get_or}
use Rattle.std.proofs.lemmas.List.Kept.{AllPairs-cons}
use Rattle.adb_model.proofs.Members.{contains_here, contains_none, contains_next, contains_cases}
use Rattle.adb_model.proofs.Pairs.{pairs_none, pairs_head, pairs_tail}

module _ {X Y : Type 0} (f : X → Option Y) where
  pub from_filter_map : (xs : List X) (y : Y) → Contains (filter_map f xs) y → (x : X) × Contains xs x × (f x ≡ Some y)
  from_filter_map [] y c = absurd (contains_none y c)
  from_filter_map (x ∷ xs) y c = by (f x) refl c (from_filter_map xs y)
    where
      by : (o : Option Y) → f x ≡ o → Contains (cons_option o (filter_map f xs)) y → (Contains (filter_map f xs) y → (z : X) × Contains xs z × (f z ≡ Some y)) → (z : X) × Contains (x ∷ xs) z × (f z ≡ Some y)
      by None e c ih = let r = ih c in (r.0, contains_next x r.0 xs r.1, r.2)
      by (Some w) e c ih = elim (contains_cases w y (filter_map f xs) c) [ inl same ↦ (x, contains_here x xs, e ∙ ap Some same) | inr d ↦ (let r = ih d in (r.0, contains_next x r.0 xs r.1, r.2)) ]

  pub into_filter_map : (xs : List X) (x : X) (y : Y) → Contains xs x → f x ≡ Some y → Contains (filter_map f xs) y
  into_filter_map [] x y c e = absurd (contains_none x c)
  into_filter_map (z ∷ zs) x y c e = by (f z) refl (contains_cases z x zs c) (λ d. into_filter_map zs x y d e)
    where
      by : (o : Option Y) → f z ≡ o → (z ≡ x) ⊎ Contains zs x → (Contains zs x → Contains (filter_map f zs) y) → Contains (cons_option o (filter_map f zs)) y
      by None g (inl same) ih = let none : None ≡ Some y = sym g ∙ ap f same ∙ e in absurd cc
      by None g (inr d) ih = ih d
      by (Some w) g (inl same) ih = let here : Some w ≡ Some y = sym g ∙ ap f same ∙ e in let is : w ≡ y = cc in (0, omega arith, is)
      by (Some w) g (inr d) ih = contains_next w y (filter_map f zs) (ih d)

  -- where each is told by what it is made of, the order stays
  pub filter_map_pairs : (R : X → X → Type 0) (g : Y → X) → ((x : X) (y : Y) → f x ≡ Some y → g y ≡ x) → (xs : List X) → AllPairs R xs → AllPairs (λ a b. R (g a) (g b)) (filter_map f xs)
  filter_map_pairs R g is [] pairs = pairs_none (λ a b. R (g a) (g b))
  filter_map_pairs R g is (x ∷ xs) pairs = by (f x) refl (filter_map_pairs R g is xs (pairs_tail R x xs pairs))
    where
      by : (o : Option Y) → f x ≡ o → AllPairs (λ a b. R (g a) (g b)) (filter_map f xs) → AllPairs (λ a b. R (g a) (g b)) (cons_option o (filter_map f xs))
      by None e ih = ih
      by (Some y) e ih = AllPairs-cons (λ a b. R (g a) (g b)) y (filter_map f xs)
          (λ k d lt.
          let z = get_or (filter_map f xs) k d in
          let from = from_filter_map xs z (Contains-get_or (filter_map f xs) k d lt) in
          subst₂ R (sym (is x y e)) (sym (is from.0 z from.2)) (All-contains (R x) xs from.0 (pairs_head R x xs pairs) from.1)) ih

module _ {X Y : Type 0} where
  pub filter_map_same : (f g : X → Option Y) → ((x : X) → f x ≡ g x) → (xs : List X) → filter_map f xs ≡ filter_map g xs
  filter_map_same f g same [] = refl
  filter_map_same f g same (x ∷ xs) = λ i. cons_option (same x i) (filter_map_same f g same xs i)

  -- where each has something, nothing is left out
  pub filter_map_length : (f : X → Option Y) (xs : List X) → ((x : X) → Contains xs x → IsTrue (is_some (f x))) → length (filter_map f xs) ≡ length xs
  filter_map_length f [] all = refl
  filter_map_length f (x ∷ xs) all = by (f x) (all x (contains_here x xs)) (filter_map_length f xs (λ y c. all y (contains_next x y xs c)))
    where
      by : (o : Option Y) → IsTrue (is_some o) → length (filter_map f xs) ≡ length xs → length (cons_option o (filter_map f xs)) ≡ suc (length xs)
      by None t ih = absurd (true≢false (sym t))
      by (Some y) t ih = ap suc ih
