-- Lists with one more element at the end, lists of which no element passes a test, and lists of different keys.
use Rattle.std.proofs.Common.{◌≡◌, ℕ, ◌+◌, List, [], ◌∷◌, ◌++◌, length, map, filter, flat_map, find, count_by, sum_by, Bool, true, false, cond, not, ◌&&◌, ◌||◌, All, Option, Some, None, refl, sym, ap, ◌∙◌, append-nil, arith}
use Rattle.std.specs.List.{list_any, enumerate_from}
use Rattle.std.specs.Option.{option_map, option_or, unwrap_or}
use Rattle.std.specs.Str.{bytes_eq}
use Rattle.std.proofs.lemmas.List.Elements.{All-head, All-tail}
use Rattle.std.proofs.lemmas.List.Folds.{find-append}
use Rattle.std.proofs.lemmas.List.Sums.{sum_by-append, sum_by-cons}
use Rattle.std.proofs.lemmas.Grind.{flat_map-append}
use Rattle.std.proofs.lemmas.Map.Views.{any-filter_same}
use Rattle.std.proofs.lemmas.Slice.Eq.{bytes_eq-Decides}
use Rattle.adb_model.specs.Lists.{last, distinct}
use Rattle.book_parts.proofs.CellChanges.{one_if}

-- ---- no element passes

module _ {X : Type 0} (p : X → Bool) where
  abbrev Fails : X → Type 0
  Fails x = p x ≡ false

  pub find_none : (xs : List X) → All (λ x. p x ≡ false) xs → find p xs ≡ None
  find_none [] all = refl
  find_none (x ∷ xs) all = ap (λ b. cond b (Some x) (find p xs)) (All-head Fails x xs all) ∙ find_none xs (All-tail Fails x xs all)

  pub filter_none : (xs : List X) → All (λ x. p x ≡ false) xs → filter p xs ≡ []
  filter_none [] all = refl
  filter_none (x ∷ xs) all = ap (λ b. cond b (x ∷ filter p xs) (filter p xs)) (All-head Fails x xs all) ∙ filter_none xs (All-tail Fails x xs all)

  pub count_none : (xs : List X) → All (λ x. p x ≡ false) xs → count_by p xs ≡ 0
  count_none [] all = refl
  count_none (x ∷ xs) all =
      let rest = count_none xs (All-tail Fails x xs all) in
      let first = ap one_if (All-head Fails x xs all) in
      sum_by-cons (λ y. cond (p y) 1 0) x xs ∙ omega (arith, rest, first)

-- ---- one more element

module _ {X : Type 0} where
  or_none : (o : Option X) → option_or o None ≡ o
  or_none None = refl
  or_none (Some x) = refl

  pub find_last : (p : X → Bool) (xs : List X) (x : X) → (p x ≡ true → find p xs ≡ None) → find p (xs ++ x ∷ []) ≡ cond (p x) (Some x) (find p xs)
  find_last p xs x none = find-append p xs (x ∷ []) ∙ by (p x) refl
    where
      by : (b : Bool) → p x ≡ b → option_or (find p xs) (cond b (Some x) None) ≡ cond b (Some x) (find p xs)
      by true t = ap (λ o. option_or o (Some x)) (none t)
      by false f = or_none (find p xs)

  pub sum_last : (f : X → ℕ) (xs : List X) (x : X) → sum_by f (xs ++ x ∷ []) ≡ sum_by f xs + f x
  sum_last f xs x = let last = sum_by-cons f x [] in omega (arith, sum_by-append f xs (x ∷ []), last)

  pub flat_last : {Y : Type 0} (f : X → List Y) (xs : List X) (x : X) → flat_map f (xs ++ x ∷ []) ≡ flat_map f xs ++ f x
  flat_last f xs x = flat_map-append f xs (x ∷ []) ∙ ap (λ ys. flat_map f xs ++ ys) (append-nil (f x))

  pub enumerate_last : (n : ℕ) (xs : List X) (x : X) (at : ℕ) → n + length xs ≡ at → enumerate_from n (xs ++ x ∷ []) ≡ enumerate_from n xs ++ (at, x) ∷ []
  enumerate_last n [] x at e =
      let same : n ≡ at = omega (arith, e) in
      ap (λ (i : ℕ). (i, x) ∷ []) same
  enumerate_last n (y ∷ xs) x at e = ap (λ (ys : List (ℕ × X)). (n, y) ∷ ys) (enumerate_last (n + 1) xs x at (omega (arith, e)))

  pub any_both : (b : Bool) (p : X → Bool) (xs : List X) → list_any (λ x. b && p x) xs ≡ (b && list_any p xs)
  any_both true p xs = refl
  any_both false p [] = refl
  any_both false p (x ∷ xs) = any_both false p xs

  pub count_all : (b : Bool) (xs : List X) → count_by (λ x. b) xs ≡ cond b (length xs) 0
  count_all true [] = refl
  count_all false [] = refl
  count_all true (x ∷ xs) = let rest = count_all true xs in sum_by-cons (λ (y : X). 1) x xs ∙ omega (arith, rest)
  count_all false (x ∷ xs) = let rest = count_all false xs in sum_by-cons (λ (y : X). 0) x xs ∙ omega (arith, rest)

pub count_mapped : {X Y : Type 0} (f : X → Y) (p : Y → Bool) (xs : List X) → count_by p (map f xs) ≡ count_by (λ x. p (f x)) xs
count_mapped f p [] = refl
count_mapped {X} {Y} f p (x ∷ xs) =
    let rest = count_mapped f p xs in
    let mapped = sum_by-cons (λ y. one_if (p y)) (f x) (map f xs) in
    let whole = sum_by-cons (λ y. one_if (p (f y))) x xs in
    mapped ∙ ap (λ c. one_if (p (f x)) + c) rest ∙ sym whole

-- ---- mapped lists

default_map : {X Y : Type 0} (f : X → Y) (x : X) (o : Option X) → unwrap_or (option_map f o) (f x) ≡ f (unwrap_or o x)
default_map f x None = refl
default_map f x (Some y) = refl

pub last_map : {X Y : Type 0} (f : X → Y) (xs : List X) → last (map f xs) ≡ option_map f (last xs)
last_map f [] = refl
last_map f (x ∷ xs) = ap (λ o. Some (unwrap_or o (f x))) (last_map f xs) ∙ ap Some (default_map f x (last xs))

pub filter_map_swap : {X Y : Type 0} (f : X → Y) (p : Y → Bool) (xs : List X) → filter p (map f xs) ≡ map f (filter (λ x. p (f x)) xs)
filter_map_swap f p [] = refl
filter_map_swap {X} {Y} f p (x ∷ xs) = by (p (f x)) (filter_map_swap f p xs)
  where
    by : (b : Bool) → filter p (map f xs) ≡ map f (filter (λ x. p (f x)) xs)
        → cond b (f x ∷ filter p (map f xs)) (filter p (map f xs)) ≡ map f (cond b (x ∷ filter (λ x. p (f x)) xs) (filter (λ x. p (f x)) xs))
    by true rest = ap (λ (ys : List Y). f x ∷ ys) rest
    by false rest = rest

-- ---- different keys

-- a key is among different keys exactly where it is among all
pub any_distinct : (k : List ℕ) (ks : List (List ℕ)) → list_any (λ q. bytes_eq q k) (distinct bytes_eq ks) ≡ list_any (λ q. bytes_eq q k) ks
any_distinct k [] = refl
any_distinct k (q ∷ ks) = by (bytes_eq q k) refl (any_distinct k ks)
  where
    same : (a b : List ℕ) → bytes_eq a b ≡ true → a ≡ b
    same a b e = (bytes_eq-Decides a b).0 e

    others : bytes_eq q k ≡ false → (y : List ℕ) → bytes_eq y k ≡ true → not (bytes_eq q y) ≡ true
    others f y t = ap not (ap (bytes_eq q) (same y k t) ∙ f)

    by : (b : Bool) → bytes_eq q k ≡ b → list_any (λ y. bytes_eq y k) (distinct bytes_eq ks) ≡ list_any (λ y. bytes_eq y k) ks
        → (b || list_any (λ y. bytes_eq y k) (filter (λ y. not (bytes_eq q y)) (distinct bytes_eq ks))) ≡ (b || list_any (λ y. bytes_eq y k) ks)
    by true t rest = refl
    by false f rest = any-filter_same (λ y. bytes_eq y k) (λ y. not (bytes_eq q y)) true (others f) (distinct bytes_eq ks) ∙ rest
