-- What lies above a key, and the walks over it.
use Rattle.std.proofs.Common.{AllPairs, ◌<◌, ◌≡◌, ℕ, zero, suc, ◌+◌, ◌-◌, ◌≤◌, List, [], ◌∷◌, length, take, drop, get_or, map, true, false, Option, Some, option_map, nat_lt, refl, sym, ap, ◌∙◌, inl, inr, arith}
use Rattle.std.specs.List.{AllWithin, filter, find}
use Rattle.std.specs.Ordering.{is_lt}
use Rattle.std.specs.declared.cmp.Ordering.TheVariants.{Less, Greater}
use Rattle.std.proofs.lemmas.Bool.{cases_Bool, cases_lt}
use Rattle.std.proofs.lemmas.List.{length-drop}
use Rattle.std.proofs.Math.Seq.{take-length}
use Rattle.accounts_index.specs.declared.entry.Entry.{Entry}
use Rattle.std.proofs.lemmas.List.Elements.{All-map}
use Rattle.std.proofs.lemmas.List.Kept.{AllPairs-cons}
use Rattle.accounts_index.specs.Index.{key_cmp, IsOrdered, is_above, is_crowded, key_after, crowded_after}
use Rattle.accounts_index.specs.Inside.{seen, kept_of, KeysRise}
use Rattle.accounts_index.specs.Places.{IsAt, IsGap}
use Rattle.accounts_index.proofs.Keys.{less_turned, greater_turned, key_cmp-self}

not_above : (key q : List ℕ) → key_cmp q key ≡ Less → is_above (Some key) q ≡ false
not_above key q e = ap is_lt (less_turned q key e)

above : (key q : List ℕ) → key_cmp q key ≡ Greater → is_above (Some key) q ≡ true
above key q e = ap is_lt (greater_turned q key e)

not_above_itself : (key : List ℕ) → is_above (Some key) key ≡ false
not_above_itself key = ap is_lt (key_cmp-self key)

module _ (es : List Entry) (key : List ℕ) (i : ℕ) where
  pub not_above_upto : IsAt es key i → AllWithin (λ e. is_above (Some key) e.key.0 ≡ false) es 0 (i + 1)
  not_above_upto found k d lo hi = elim (cases_lt k i) [
    | inl below ↦ not_above key (get_or es k d).key.0 (found.lower_before k d lo below)
    | inr not_below ↦ let same : k ≡ i = omega arith in rw same (ap (is_above (Some key)) (found.has_key d) ∙ not_above_itself key)
  ]

  pub not_above_before : IsGap es key i → AllWithin (λ e. is_above (Some key) e.key.0 ≡ false) es 0 i
  not_above_before gap k d lo hi = not_above key (get_or es k d).key.0 (gap.lower_before k d lo hi)

  pub above_from : IsGap es key i → AllWithin (λ e. is_above (Some key) e.key.0 ≡ true) es i (length es)
  above_from gap k d lo hi = above key (get_or es k d).key.0 (gap.higher_from k d lo hi)

-- what is not above lies before a place, and the rest from it on
module _ (after : Option (List ℕ)) where
  abbrev Below : List Entry → ℕ → Type 0
  Below es i = AllWithin (λ e. is_above after e.key.0 ≡ false) es 0 i

  abbrev Above : List Entry → ℕ → Type 0
  Above es i = AllWithin (λ e. is_above after e.key.0 ≡ true) es i (length es)

  pub key_after-drop : (es : List Entry) (i : ℕ) → i ≤ length es → Below es i → Above es i → key_after (seen es) after ≡ option_map (λ e. e.key.0) (find (λ e. nat_lt 0 (length e.lists.value.list.versions)) (drop i es))
  key_after-drop [] zero le below from = refl
  key_after-drop [] (suc i) le below from = absurd (omega arith)
  key_after-drop (x ∷ es) zero le below from = rw (from 0 x (omega arith) (omega arith)) (elim (cases_Bool (nat_lt 0 (length x.lists.value.list.versions))) [
    | inl has ↦ rw has refl
    | inr none ↦ rw none (key_after-drop es zero (omega arith) (λ k d lo hi. absurd (omega arith)) (λ k d lo hi. from (suc k) d (omega arith) (omega arith)))
  ])
  key_after-drop (x ∷ es) (suc i) le below from =
      rw (below 0 x (omega arith) (omega arith)) (key_after-drop es i (omega arith) (λ k d lo hi. below (suc k) d (omega arith) (omega arith)) (λ k d lo hi. from (suc k) d (omega arith) (omega arith)))

  pub crowded_after-drop : (es : List Entry) (i : ℕ) → i ≤ length es → Below es i → Above es i → crowded_after (seen es) after ≡ map (λ e. e.key.0) (filter (λ e. is_crowded e.lists.value.list.versions) (drop i es))
  crowded_after-drop [] zero le below from = refl
  crowded_after-drop [] (suc i) le below from = absurd (omega arith)
  crowded_after-drop (x ∷ es) zero le below from =
      let rest = crowded_after-drop es zero (omega arith) (λ k d lo hi. absurd (omega arith)) (λ k d lo hi. from (suc k) d (omega arith) (omega arith)) in
      rw (from 0 x (omega arith) (omega arith)) (elim (cases_Bool (is_crowded x.lists.value.list.versions)) [
        | inl has ↦ rw has (ap (λ l. x.key.0 ∷ l) rest)
        | inr none ↦ rw none rest
      ])
  crowded_after-drop (x ∷ es) (suc i) le below from =
      rw (below 0 x (omega arith) (omega arith)) (crowded_after-drop es i (omega arith) (λ k d lo hi. below (suc k) d (omega arith) (omega arith)) (λ k d lo hi. from (suc k) d (omega arith) (omega arith)))

pub take_rest : {A : Type 0} (es : List A) (i : ℕ) → take (length es - i) (drop i es) ≡ drop i es
take_rest es i = ap (λ n. take n (drop i es)) (sym (length-drop i es)) ∙ take-length (drop i es)

module _ {X Y : Type 0} (R : Y → Y → Type 0) (f : X → Y) where
  abbrev Before : X → X → Type 0
  Before x y = R (f x) (f y)

  pub pairs_map : (xs : List X) → AllPairs Before xs → AllPairs R (map f xs)
  pairs_map [] pairs = λ i j d lt within. let h : j < 0 = within in absurd (omega (arith, h))
  pairs_map (x ∷ xs) pairs =
      AllPairs-cons R (f x) (map f xs) (All-map (R (f x)) f xs (λ k d lt. pairs 0 (suc k) d (omega arith) (omega (arith, lt))))
      (pairs_map xs (λ i j d lt within. pairs (suc i) (suc j) d (omega (arith, lt)) (omega (arith, within))))

pub seen_rises : (es : List Entry) → KeysRise es → IsOrdered (seen es)
seen_rises es rise = pairs_map (λ a b. key_cmp a.0 b.0 ≡ Less) (λ e. (e.key.0, kept_of e.lists.value)) es rise
