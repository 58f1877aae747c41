-- Numbers put in rising order, each once.
use Rattle.std.proofs.Common.{◌≡◌, ℕ, ◌<◌, eqb, ltb, cond, Bool, true, false, List, [], ◌∷◌, AllPairs, Contains, nat_cmp, refl, sym, subst, inl, inr, arith}
use Rattle.std.proofs.lemmas.Bool.{ltb-true}
use Rattle.std.proofs.lemmas.List.Elements.{All-contains}
use Rattle.std.specs.List.{dedup, IsAllAdjacentAnswer}
use Rattle.std.specs.Bool.{OnTrue}
use Rattle.std.specs.declared.cmp.Ordering.TheVariants.{Less, Equal, Greater}
use Rattle.std.specs.FinMap.{nat_cmp-IsAntisymmetric}
use Rattle.std.proofs.lemmas.Cmp.{nat_cmp_total}
use Rattle.std.specs.List.Sorted.{IsSorted, IsPermutation, IsStrictlyIncreasing}
use Rattle.std.proofs.lemmas.List.Kept.{AllPairs-from_increasing, Contains-dedup_nat, Contains-from_dedup}
use Rattle.std.proofs.lemmas.List.Sorted.{Contains-permutation, IsPermutation-sym}
use Rattle.std.proofs.lemmas.Map.Keys.{IsStrictlyIncreasing-dedup}
use Rattle.adb_model.specs.Lists.{rising}
use Rattle.adb_model.proofs.Members.{contains_here, contains_next, contains_cases, contains_none}
use Rattle.adb_model.proofs.Pairs.{pairs_head, pairs_tail}
use Rattle.adb_model.proofs.RisingBy as ordered

abbrev Rise : List ℕ → Type 0
Rise ns = AllPairs (λ a b. a < b) ns

less_from : (a b : ℕ) → nat_cmp a b ≡ Less → a < b
less_from a b e = ltb-true a b (by (ltb a b) (eqb a b) e)
  where
    by : (b c : Bool) → cond b Less (cond c Equal Greater) ≡ Less → b ≡ true
    by true c f = refl
    by false true f = absurd cc
    by false false f = absurd cc

pub into_rising : (xs : List ℕ) (z : ℕ) → Contains xs z → Contains (rising nat_cmp xs) z
into_rising xs z c = ordered.into_rising nat_cmp nat_cmp_total nat_cmp-IsAntisymmetric xs z c

pub from_rising : (xs : List ℕ) (z : ℕ) → Contains (rising nat_cmp xs) z → Contains xs z
from_rising xs z c = ordered.from_rising nat_cmp nat_cmp_total xs z c

pub rising_rises : (xs : List ℕ) → AllPairs (λ a b. a < b) (rising nat_cmp xs)
rising_rises xs i j d lt within = less_from _ _ (ordered.rising_rises nat_cmp nat_cmp_total xs i j d lt within)

-- two rising lists with the same members are one
pub one_rise : (xs ys : List ℕ) → Rise xs → Rise ys → ((z : ℕ) → Contains xs z → Contains ys z) → ((z : ℕ) → Contains ys z → Contains xs z) → xs ≡ ys
one_rise [] [] up vp into from = refl
one_rise [] (y ∷ ys) up vp into from = absurd (contains_none y (from y (contains_here y ys)))
one_rise (x ∷ xs) [] up vp into from = absurd (contains_none x (into x (contains_here x xs)))
one_rise (x ∷ xs) (y ∷ ys) up vp into from =
    let below_x = λ (z : ℕ) (c : Contains xs z). All-contains (λ b. x < b) xs z (pairs_head (λ a b. a < b) x xs up) c in
    let below_y = λ (z : ℕ) (c : Contains ys z). All-contains (λ b. y < b) ys z (pairs_head (λ a b. a < b) y ys vp) c in
    let heads : x ≡ y = elim (contains_cases y x ys (into x (contains_here x xs))) [
      | inl e ↦ sym e
      | inr c ↦ elim (contains_cases x y xs (from y (contains_here y ys))) [
        | inl e ↦ e
        | inr d ↦ let gt : y < x = below_y x c in let lt : x < y = below_x y d in absurd (omega arith)
      ]
    ] in
    let tails : xs ≡ ys = one_rise xs ys (pairs_tail (λ a b. a < b) x xs up) (pairs_tail (λ a b. a < b) y ys vp)
    (λ z c. elim (contains_cases y z ys (into z (contains_next x z xs c))) [ inl e ↦ let lt : x < z = below_x z c in absurd (omega arith) | inr d ↦ d ])
    (λ z c. elim (contains_cases x z xs (from z (contains_next y z ys c))) [ inl e ↦ let lt : y < z = below_y z c in absurd (omega arith) | inr d ↦ d ]) in
    cc

-- a rising list with the members of xs is what `rising` makes of them
pub rising_is : (xs ys : List ℕ) → AllPairs (λ a b. a < b) ys → ((z : ℕ) → Contains xs z → Contains ys z) → ((z : ℕ) → Contains ys z → Contains xs z) → ys ≡ rising nat_cmp xs
rising_is xs ys up into from =
    one_rise ys (rising nat_cmp xs) up (rising_rises xs) (λ z c. into_rising xs z (from z c)) (λ z c. into z (from_rising xs z c))

-- sorted and rid of repeats
pub sorted_once : (xs ys zs : List ℕ) → IsPermutation xs ys → IsSorted nat_cmp ys → zs ≡ dedup eqb ys → zs ≡ rising nat_cmp xs
sorted_once xs ys zs moved sorted e =
    let up : AllPairs (λ a b. a < b) zs = subst (AllPairs (λ a b. a < b)) (sym e) (AllPairs-from_increasing (dedup eqb ys) (IsStrictlyIncreasing-dedup ys sorted)) in
    rising_is xs zs up
    (λ z c. subst (λ l. Contains l z) (sym e) (Contains-dedup_nat ys z (Contains-permutation xs ys z moved c)))
    (λ z c. Contains-permutation ys xs z (IsPermutation-sym xs ys moved) (Contains-from_dedup eqb ys z (subst (λ l. Contains l z) e c)))

-- numbers that rise already stay as they are
pub rising_of_increasing : (xs : List ℕ) → IsStrictlyIncreasing xs → xs ≡ rising nat_cmp xs
rising_of_increasing xs up = rising_is xs xs (AllPairs-from_increasing xs up) (λ z c. c) (λ z c. c)

-- each number is below the next where all pairs of neighbours were found so
pub increasing_from_neighbours : (xs : List ℕ) (all : Bool) → IsAllAdjacentAnswer (λ x y below. below ≡ ltb x y) xs all → OnTrue all (IsStrictlyIncreasing xs)
increasing_from_neighbours xs true each = λ k within. ltb-true _ _ (sym (each k 0 within))
increasing_from_neighbours xs false each = tt
