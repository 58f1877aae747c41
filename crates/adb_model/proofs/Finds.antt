-- What a search finds in a list that changes.
use Rattle.std.proofs.Common.{◌≡◌, Bool, true, false, cond, IsTrue, IsFalse, List, [], ◌∷◌, ◌++◌, map, filter, find, Contains, Option, Some, None, refl, sym, ap, ◌∙◌}
use Rattle.std.specs.List.{list_any}
use Rattle.std.specs.Option.{option_or, option_map}
use Rattle.std.proofs.lemmas.Bool.{true≢false, or_parts}
use Rattle.std.proofs.lemmas.List.Folds.{find-append}
use Rattle.adb_model.proofs.Members.{any_at, member, found, finds, none_from, into_filter, contains_here, contains_next}
use Rattle.adb_model.proofs.Filters.{same_truth, any_unfilter}

or_none : {X : Type 0} (o : Option X) → option_or o None ≡ o
or_none None = refl
or_none (Some x) = refl

module _ {X : Type 0} where
  pub none_found : (p : X → Bool) (xs : List X) → IsFalse (list_any p xs) → find p xs ≡ None
  none_found p [] f = refl
  none_found p (x ∷ xs) f = let parts = or_parts (p x) (list_any p xs) f in ap (λ b. cond b (Some x) (find p xs)) parts.0 ∙ none_found p xs parts.1

  pub none_finds : (p : X → Bool) (xs : List X) → ((x : X) → Contains xs x → IsTrue (p x) → ⊥) → find p xs ≡ None
  none_finds p xs none = none_found p xs (none_from p xs none)

  -- the only one that passes is found
  pub one_found : (p : X → Bool) (xs : List X) (x : X) → Contains xs x → IsTrue (p x) → ((y : X) → Contains xs y → IsTrue (p y) → y ≡ x) → find p xs ≡ Some x
  one_found p xs x c t one =
      let f = finds p xs (any_at p xs x c t) in
      let g = found p xs f.0 f.1 in
      f.1 ∙ ap Some (one f.0 g.0 g.1)

  pub find_same : (p q : X → Bool) → ((x : X) → p x ≡ q x) → (xs : List X) → find p xs ≡ find q xs
  find_same p q same [] = refl
  find_same p q same (x ∷ xs) = λ i. cond (same x i) (Some x) (find_same p q same xs i)

  -- ---- one more element

  pub find_push_other : (p : X → Bool) (xs : List X) (x : X) → IsFalse (p x) → find p (xs ++ x ∷ []) ≡ find p xs
  find_push_other p xs x f = find-append p xs (x ∷ []) ∙ ap (λ b. option_or (find p xs) (cond b (Some x) None)) f ∙ or_none (find p xs)

  pub find_push_new : (p : X → Bool) (xs : List X) (x : X) → find p xs ≡ None → IsTrue (p x) → find p (xs ++ x ∷ []) ≡ Some x
  find_push_new p xs x none t = find-append p xs (x ∷ []) ∙ ap (λ o. option_or o (cond (p x) (Some x) None)) none ∙ ap (λ b. cond b (Some x) None) t

  -- ---- elements leave, or change

  -- what passes stays
  pub find_left : (p keep : X → Bool) (xs : List X) → ((x : X) → Contains xs x → IsTrue (p x) → IsTrue (keep x)) → find p (filter keep xs) ≡ find p xs
  find_left p keep [] stays = refl
  find_left p keep (x ∷ xs) stays = by (keep x) (p x) refl refl (find_left p keep xs (λ y c. stays y (contains_next x y xs c)))
    where
      by : (b c : Bool) → keep x ≡ b → p x ≡ c → find p (filter keep xs) ≡ find p xs → find p (cond b (x ∷ filter keep xs) (filter keep xs)) ≡ cond c (Some x) (find p xs)
      by true true e f ih = ap (λ d. cond d (Some x) (find p (filter keep xs))) f
      by true false e f ih = ap (λ d. cond d (Some x) (find p (filter keep xs))) f ∙ ih
      by false true e f ih = absurd (true≢false (sym (stays x (contains_here x xs) f) ∙ e))
      by false false e f ih = ih

  pub any_left : (p keep : X → Bool) (xs : List X) → ((x : X) → Contains xs x → IsTrue (p x) → IsTrue (keep x)) → list_any p (filter keep xs) ≡ list_any p xs
  any_left p keep xs stays =
      same_truth _ _ (any_unfilter p keep xs)
      (λ t. let a = member p xs t in any_at p (filter keep xs) a.0 (into_filter keep xs a.0 a.1 (stays a.0 a.1 a.2)) a.2)

  -- what passes before or after is as it was
  pub find_kept : (f : X → X) (p : X → Bool) (xs : List X) → ((x : X) → Contains xs x → (p (f x) ≡ p x) × (IsTrue (p x) → f x ≡ x)) → find p (map f xs) ≡ find p xs
  find_kept f p [] same = refl
  find_kept f p (x ∷ xs) same = by (p x) refl (same x (contains_here x xs)) (find_kept f p xs (λ y c. same y (contains_next x y xs c)))
    where
      by : (b : Bool) → p x ≡ b → (p (f x) ≡ p x) × (IsTrue (p x) → f x ≡ x) → find p (map f xs) ≡ find p xs → cond (p (f x)) (Some (f x)) (find p (map f xs)) ≡ cond b (Some x) (find p xs)
      by true e is ih = ap (λ c. cond c (Some (f x)) (find p (map f xs))) (is.0 ∙ e) ∙ ap Some (is.1 e)
      by false e is ih = ap (λ c. cond c (Some (f x)) (find p (map f xs))) (is.0 ∙ e) ∙ ih

pub find_map : {X Y : Type 0} (f : X → Y) (p : Y → Bool) (xs : List X) → find p (map f xs) ≡ option_map f (find (λ x. p (f x)) xs)
find_map f p [] = refl
find_map f p (x ∷ xs) = by (p (f x)) (find_map f p xs)
  where
    by : (b : Bool) → find p (map f xs) ≡ option_map f (find (λ x. p (f x)) xs) → cond b (Some (f x)) (find p (map f xs)) ≡ option_map f (cond b (Some x) (find (λ x. p (f x)) xs))
    by true ih = refl
    by false ih = ih
