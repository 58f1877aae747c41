-- The last of a list that passes a test, by its place and by recursion.
use Rattle.std.proofs.Common.{◌≡◌, ℕ, zero, suc, ◌<◌, List, [], ◌∷◌, length, map, Bool, true, false, cond, ◌||◌, refl, sym, ap, ◌∙◌, inl, inr, arith}
use Rattle.std.specs.List.{list_any, remove, AllWithin, HoldsAt}
use Rattle.std.proofs.lemmas.Bool.{cases_Bool, true≢false, or_right}
use Rattle.std.proofs.lemmas.List.Folds.{list_any_none}
use Rattle.adb_model.specs.Lists.{without_last}
use Rattle.book.specs.declared.leasing.Lease.{Lease}
use Rattle.book.specs.Leasing.{IsLastPlace, leases_of}

module _ {X : Type 0} (test : X → Bool) where
  pub none_pass : (xs : List X) → AllWithin (λ x. test x ≡ false) xs 0 (length xs) → list_any test xs ≡ false
  none_pass xs none = list_any_none test xs (λ k d lt. none k d (omega arith) lt)

  -- where none passes, all stay
  pub without_none : (xs : List X) → list_any test xs ≡ false → without_last test xs ≡ xs
  without_none [] e = refl
  without_none (x ∷ xs) e = elim (cases_Bool (test x)) [
    | inl t ↦ absurd (true≢false (sym (ap (λ (b : Bool). b || list_any test xs) t) ∙ e))
    | inr f ↦ let tail : list_any test xs ≡ false = sym (ap (λ (b : Bool). b || list_any test xs) f) ∙ e in rw (tail, f) refl
  ]

  pub passes_at : (xs : List X) (i : ℕ) → i < length xs → HoldsAt (λ x. test x ≡ true) xs i → list_any test xs ≡ true
  passes_at [] i lt at = absurd (omega arith)
  passes_at (x ∷ xs) zero lt at = ap (λ (b : Bool). b || list_any test xs) (at x)
  passes_at (x ∷ xs) (suc i) lt at = or_right (test x) (list_any test xs) (passes_at xs i (omega arith) (λ d. at d))

  -- the one at the last place is taken out
  pub without_at : (xs : List X) (i : ℕ) → IsLastPlace test xs i → without_last test xs ≡ remove xs i
  without_at [] i last = absurd (omega (arith, last.in_range))
  without_at (x ∷ xs) zero last =
      let none : list_any test xs ≡ false = none_pass xs (λ k d low high. last.none_after (suc k) d (omega arith) (omega arith)) in
      rw (none, last.passes x) refl
  without_at (x ∷ xs) (suc i) last =
      let some : list_any test xs ≡ true = passes_at xs i (omega (arith, last.in_range)) (λ d. last.passes d) in
      rw some (ap (λ (l : List X). x ∷ l) (without_at xs i (record {
        in_range = omega (arith, last.in_range);
        passes = λ d. last.passes d;
        none_after = λ k d low high. last.none_after (suc k) d (omega arith) (omega arith);
      })))

module _ {X Y : Type 0} (f : X → Y) (test : Y → Bool) where
  pub any_map : (xs : List X) → list_any test (map f xs) ≡ list_any (λ x. test (f x)) xs
  any_map [] = refl
  any_map (x ∷ xs) = ap (λ (b : Bool). test (f x) || b) (any_map xs)

  pub without_map : (xs : List X) → without_last test (map f xs) ≡ map f (without_last (λ x. test (f x)) xs)
  without_map [] = refl
  without_map (x ∷ xs) = by (list_any test (map f xs)) (list_any (λ x. test (f x)) xs) (any_map xs) (without_map xs)
    where
      last : (b : Bool) → cond b (map f xs) (f x ∷ map f xs) ≡ map f (cond b xs (x ∷ xs))
      last true = refl
      last false = refl

      by : (a b : Bool) → a ≡ b → without_last test (map f xs) ≡ map f (without_last (λ x. test (f x)) xs)
          → cond a (f x ∷ without_last test (map f xs)) (cond (test (f x)) (map f xs) (f x ∷ map f xs))
          ≡ map f (cond b (x ∷ without_last (λ x. test (f x)) xs) (cond (test (f x)) xs (x ∷ xs)))
      by a true e rest = rw e (ap (λ (l : List Y). f x ∷ l) rest)
      by a false e rest = rw e (last (test (f x)))

-- the leases' greatest roots, also as the machine's
pub roots_of : (ls : List Lease) → map (λ l. l.max_root) ls ≡ map (λ l. l.max_root) (leases_of ls)
roots_of [] = refl
roots_of (l ∷ ls) = ap (λ (ns : List ℕ). l.max_root ∷ ns) (roots_of ls)
