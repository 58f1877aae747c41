-- Numbers among ranges, and the entries that bear them.
use Rattle.std.proofs.Common.{◌≡◌, ◌+◌, ◌<◌, ℕ, List, [], ◌∷◌, ◌++◌, Bool, true, false, refl, sym, ap, ◌∙◌, arith, nat_le, ◌&&◌, ◌||◌, le-leb, leb-true, lt-ltb, le-ltb, lt_of_not-le, if◌then◌else◌}
use Rattle.std.proofs.lemmas.List.Folds.{list_any-append}
use mathlib.Core.Logic.{dite}
use native.Mathlib.Decide.{dec_le}
use Rattle.turn_lock.specs.Numbers.{is_within, is_among, borne_by}
use Rattle.turn_lock.specs.Rule.{total, Every, in_range}
use Rattle.turn_lock.proofs.Sums.{in_within, below_yes, below_no}

within_yes : (x : ℕ) (r : ℕ × ℕ) → 0 < in_range x r → is_within x r ≡ true
within_yes x r h = let w = in_within x r.0 r.1 h in rw (le-leb r.0 x w.0, lt-ltb x (r.0 + r.1) w.1) refl

and_false : (b : Bool) → (b && false) ≡ false
and_false true = refl
and_false false = refl

within_no : (x : ℕ) (r : ℕ × ℕ) → in_range x r ≡ 0 → is_within x r ≡ false
within_no x r h = dite (dec_le (r.0 + r.1) x)
    (λ past. rw (le-ltb x (r.0 + r.1) past) (and_false (nat_le r.0 x)))
    (λ within. dite (dec_le r.0 x)
    (λ from. let y = below_yes x (r.0 + r.1) (lt_of_not-le within) in let n = below_no x r.0 from in absurd (omega arith))
    (λ before. let lt : x < r.0 = lt_of_not-le before in rw (not_le lt) refl))
  where
    not_le : x < r.0 → nat_le r.0 x ≡ false
    not_le lt = by_test (nat_le r.0 x) refl
      where
        by_test : (b : Bool) → nat_le r.0 x ≡ b → nat_le r.0 x ≡ false
        by_test false is = is
        by_test true is = let le = leb-true r.0 x is in absurd (omega arith)

or_true : (b : Bool) → (b || true) ≡ true
or_true true = refl
or_true false = refl

pub among_yes : (x : ℕ) (rs : List (ℕ × ℕ)) → 0 < total (in_range x) rs → is_among x rs ≡ true
among_yes x [] h = absurd (omega arith)
among_yes x (r ∷ rs) h = dite (dec_le 1 (in_range x r))
    (λ here. rw (within_yes x r here) refl)
    (λ not_here. let z : in_range x r ≡ 0 = omega arith in rw (among_yes x rs (omega arith)) (or_true (is_within x r)))

pub among_no : (x : ℕ) (rs : List (ℕ × ℕ)) → total (in_range x) rs ≡ 0 → is_among x rs ≡ false
among_no x [] h = refl
among_no x (r ∷ rs) h = rw (within_no x r (omega arith), among_no x rs (omega arith)) refl

-- the other way: a number that is among the ranges is counted
pub among_counts : (x : ℕ) (rs : List (ℕ × ℕ)) → is_among x rs ≡ true → 0 < total (in_range x) rs
among_counts x rs is = dite (dec_le 1 (total (in_range x) rs))
    (λ h. h)
    (λ h. let c : true ≡ false = sym is ∙ among_no x rs (omega arith) in absurd (cc c))

-- a range without the number may be left out
pub among_without : (x : ℕ) (rs : List (ℕ × ℕ)) (r : ℕ × ℕ) (qs : List (ℕ × ℕ)) → in_range x r ≡ 0 → is_among x (rs ++ r ∷ qs) ≡ is_among x (rs ++ qs)
among_without x rs r qs none =
    list_any-append (is_within x) rs (r ∷ qs) ∙ (ap (λ (b : Bool). is_among x rs || (b || is_among x qs)) (within_no x r none) ∙ sym (list_any-append (is_within x) rs qs))

module _ {E : Type 0} (bears : E → ℕ) where
  pub none_borne : (rs : List (ℕ × ℕ)) (xs : List E) → Every (λ e. total (in_range (bears e)) rs ≡ 0) xs → borne_by bears rs xs ≡ []
  none_borne rs [] p = refl
  none_borne rs (x ∷ xs) p = rw (among_no (bears x) rs p.0) (none_borne rs xs p.1)

  pub all_borne : (rs : List (ℕ × ℕ)) (xs : List E) → Every (λ e. 0 < total (in_range (bears e)) rs) xs → borne_by bears rs xs ≡ xs
  all_borne rs [] p = refl
  all_borne rs (x ∷ xs) p = rw (among_yes (bears x) rs p.0) (ap (λ (z : List E). x ∷ z) (all_borne rs xs p.1))

  -- the same entries bear numbers of the ranges without one that none bears
  pub borne_without : (rs : List (ℕ × ℕ)) (r : ℕ × ℕ) (qs : List (ℕ × ℕ)) (xs : List E) → Every (λ e. in_range (bears e) r ≡ 0) xs → borne_by bears (rs ++ r ∷ qs) xs ≡ borne_by bears (rs ++ qs) xs
  borne_without rs r qs [] p = refl
  borne_without rs r qs (x ∷ xs) p = rw (among_without (bears x) rs r qs p.0) (ap (λ (z : List E). if is_among (bears x) (rs ++ qs) then x ∷ z else z) (borne_without rs r qs xs p.1))
