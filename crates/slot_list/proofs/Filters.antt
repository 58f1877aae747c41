-- Filters, look-ups and maps of a list at a place up to which a test holds, or fails.
use Rattle.std.proofs.Common.{◌≡◌, ℕ, zero, suc, ◌+◌, ◌<◌, ◌≤◌, List, [], ◌∷◌, length, take, drop, set, get_or, map, Bool, true, false, Some, None, refl, ap, arith, All}
use Rattle.std.specs.List.{filter, find, remove, AllWithin, HoldsAt}

module _ {X : Type 0} (p : X → Bool) where
  pub filter_all : (xs : List X) → All (λ x. p x ≡ true) xs → filter p xs ≡ xs
  filter_all [] all = refl
  filter_all (x ∷ xs) all = rw (all 0 x (omega arith)) (ap (λ l. x ∷ l) (filter_all xs (λ k d lt. all (suc k) d (omega arith))))

  pub filter_none : (xs : List X) → All (λ x. p x ≡ false) xs → filter p xs ≡ []
  filter_none [] none = refl
  filter_none (x ∷ xs) none = rw (none 0 x (omega arith)) (filter_none xs (λ k d lt. none (suc k) d (omega arith)))

  -- the test holds up to the place, and fails from there on
  pub filter_front : (xs : List X) (i : ℕ) → AllWithin (λ x. p x ≡ true) xs 0 i → AllWithin (λ x. p x ≡ false) xs i (length xs) → i ≤ length xs → filter p xs ≡ take i xs
  filter_front xs zero before after le = filter_none xs (λ k d lt. after k d (omega arith) lt)
  filter_front [] (suc i) before after le = absurd (omega arith)
  filter_front (x ∷ xs) (suc i) before after le =
      rw (before 0 x (omega arith) (omega arith))
      (ap (λ l. x ∷ l) (filter_front xs i (λ k d lo hi. before (suc k) d (omega arith) (omega arith)) (λ k d lo hi. after (suc k) d (omega arith) (omega arith)) (omega arith)))

  -- it fails up to the place, and holds from there on
  pub filter_back : (xs : List X) (i : ℕ) → AllWithin (λ x. p x ≡ false) xs 0 i → AllWithin (λ x. p x ≡ true) xs i (length xs) → i ≤ length xs → filter p xs ≡ drop i xs
  filter_back xs zero before after le = filter_all xs (λ k d lt. after k d (omega arith) lt)
  filter_back [] (suc i) before after le = absurd (omega arith)
  filter_back (x ∷ xs) (suc i) before after le =
      rw (before 0 x (omega arith) (omega arith))
      (filter_back xs i (λ k d lo hi. before (suc k) d (omega arith) (omega arith)) (λ k d lo hi. after (suc k) d (omega arith) (omega arith)) (omega arith))

  -- it fails at the place alone
  pub filter_but : (xs : List X) (i : ℕ) → i < length xs → AllWithin (λ x. p x ≡ true) xs 0 i → HoldsAt (λ x. p x ≡ false) xs i → AllWithin (λ x. p x ≡ true) xs (i + 1) (length xs) → filter p xs ≡ remove xs i
  filter_but [] i lt before here after = absurd (omega arith)
  filter_but (x ∷ xs) zero lt before here after = rw (here x) (filter_all xs (λ k d lt. after (suc k) d (omega arith) (omega arith)))
  filter_but (x ∷ xs) (suc i) lt before here after =
      rw (before 0 x (omega arith) (omega arith))
      (ap (λ l. x ∷ l) (filter_but xs i (omega arith) (λ k d lo hi. before (suc k) d (omega arith) (omega arith)) here (λ k d lo hi. after (suc k) d (omega arith) (omega arith))))

  pub find_none : (xs : List X) → All (λ x. p x ≡ false) xs → find p xs ≡ None
  find_none [] none = refl
  find_none (x ∷ xs) none = rw (none 0 x (omega arith)) (find_none xs (λ k d lt. none (suc k) d (omega arith)))

  -- the test holds at the place for the first time
  pub find_there : (xs : List X) (i : ℕ) (d : X) → i < length xs → AllWithin (λ x. p x ≡ false) xs 0 i → HoldsAt (λ x. p x ≡ true) xs i → find p xs ≡ Some (get_or xs i d)
  find_there [] i d lt before here = absurd (omega arith)
  find_there (x ∷ xs) zero d lt before here = rw (here x) refl
  find_there (x ∷ xs) (suc i) d lt before here =
      rw (before 0 x (omega arith) (omega arith)) (find_there xs i d (omega arith) (λ k d lo hi. before (suc k) d (omega arith) (omega arith)) here)

-- f changes the element at the place alone
pub map_at : {X : Type 0} (f : X → X) (xs : List X) (i : ℕ) (d : X) → i < length xs → AllWithin (λ x. f x ≡ x) xs 0 i → AllWithin (λ x. f x ≡ x) xs (i + 1) (length xs) → map f xs ≡ set xs i (f (get_or xs i d))
map_at f [] i d lt before after = absurd (omega arith)
map_at f (x ∷ xs) zero d lt before after = ap (λ l. f x ∷ l) (same xs (λ k d lt. after (suc k) d (omega arith) (omega arith)))
  where
    same : (ys : List _) → All (λ y. f y ≡ y) ys → map f ys ≡ ys
    same [] all = refl
    same (y ∷ ys) all = rw (all 0 y (omega arith)) (ap (λ l. y ∷ l) (same ys (λ k d lt. all (suc k) d (omega arith))))
map_at f (x ∷ xs) (suc i) d lt before after =
    rw (before 0 x (omega arith) (omega arith)) (ap (λ l. x ∷ l) (map_at f xs i d (omega arith) (λ k d lo hi. before (suc k) d (omega arith) (omega arith)) (λ k d lo hi. after (suc k) d (omega arith) (omega arith))))
