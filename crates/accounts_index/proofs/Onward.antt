-- What comes after a key in several bins, one after the other.
use Rattle.std.proofs.Common.{◌≡◌, ℕ, zero, suc, ◌+◌, ◌/◌, ◌%◌, ◌<◌, List, [], ◌∷◌, ◌++◌, length, take, drop, get_or, map, Bool, false, Option, Some, None, option_map, nat_lt, All, ◌&&◌, refl, sym, ap, ◌∙◌, arith, add-one, append_assoc, drop-cons}
use Rattle.std.specs.List.{filter, find}
use Rattle.std.specs.Option.{option_or}
use Rattle.std.proofs.lemmas.List.Folds.{find-append}
use Rattle.std.proofs.lemmas.List.Elements.{filter-append}
use Rattle.std.specs.declared.vec.Vec.{Vec}
use Rattle.std.proofs.lemmas.Grind.{flat_map-append}
use Rattle.accounts_index.specs.Bins.{joined, bin_of, start_of, bins_in, all_bins, AreBins, AreGroups}
use Rattle.accounts_index.specs.Index.{Index, Kept, is_above, is_crowded, key_after, crowded_after}
use Rattle.std.specs.Ordering.{is_lt}
use Rattle.accounts_index.proofs.Keys.{less_turned, lower_key}
use Rattle.accounts_index.proofs.Grouped.{joined_in, drop-groups}

option_map-or : {A B : Type 0} (f : A → B) (x y : Option A) → option_map f (option_or x y) ≡ option_or (option_map f x) (option_map f y)
option_map-or f None y = refl
option_map-or f (Some x) y = refl

map-append : {A B : Type 0} (f : A → B) (xs ys : List A) → map f (xs ++ ys) ≡ map f xs ++ map f ys
map-append f [] ys = refl
map-append f (x ∷ xs) ys = ap (λ l. f x ∷ l) (map-append f xs ys)

take-append_take : {A : Type 0} (n : ℕ) (xs ys : List A) → take n (take n xs ++ ys) ≡ take n (xs ++ ys)
take-append_take zero xs ys = refl
take-append_take (suc n) [] ys = refl
take-append_take (suc n) (x ∷ xs) ys = ap (λ l. x ∷ l) (take-append_take n xs ys)

module _ (after : Option (List ℕ)) where
  pub key_after-append : (xs ys : Index) → key_after (xs ++ ys) after ≡ option_or (key_after xs after) (key_after ys after)
  key_after-append xs ys =
      let p : List ℕ × Kept → Bool = λ e. is_above after e.0 && nat_lt 0 (length e.1.versions) in
      ap (option_map (λ e. e.0)) (find-append p xs ys) ∙ option_map-or (λ e. e.0) (find p xs) (find p ys)

  pub crowded_after-append : (xs ys : Index) → crowded_after (xs ++ ys) after ≡ crowded_after xs after ++ crowded_after ys after
  crowded_after-append xs ys =
      let p : List ℕ × Kept → Bool = λ e. is_above after e.0 && is_crowded e.1.versions in
      ap (map (λ e. e.0)) (filter-append p xs ys) ∙ map-append (λ e. e.0) (filter p xs) (filter p ys)

  -- keys of which some come first
  module _ (first rest whole : Index) (split : whole ≡ first ++ rest) where
    pub key_after-split : key_after whole after ≡ option_or (key_after first after) (key_after rest after)
    key_after-split = ap (λ index. key_after index after) split ∙ key_after-append first rest

    pub crowded_after-split : (most : ℕ) (found : List (List ℕ)) → take most (take most (found ++ crowded_after first after) ++ crowded_after rest after) ≡ take most (found ++ crowded_after whole after)
    crowded_after-split most found =
        take-append_take most (found ++ crowded_after first after) (crowded_after rest after)
        ∙ ap (take most) (append_assoc found (crowded_after first after) (crowded_after rest after)
        ∙ ap (λ l. found ++ l) (sym (ap (λ index. crowded_after index after) split ∙ crowded_after-append first rest)))

-- the keys of a bin, and of all after it
pub joined-drop : (bins : List Index) (i : ℕ) → i < length bins → (bin : Index) → bin ≡ get_or bins i bin → joined (drop i bins) ≡ bin ++ joined (drop (i + 1) bins)
joined-drop bins i lt bin read =
    ap joined (drop-cons bins i bin lt) ∙ ap (λ b. b ++ joined (drop (suc i) bins)) (sym read)
    ∙ ap (λ n. bin ++ joined (drop n bins)) (sym (add-one i))

-- the keys of a group, and of all after it
pub groups-drop : {B : Type 0} (groups : List (Vec Index B)) (i : ℕ) → i < length groups → (group : Vec Index B) → group ≡ get_or groups i group → joined (all_bins (drop i groups)) ≡ joined group.items ++ joined (all_bins (drop (i + 1) groups))
groups-drop groups i lt group read =
    ap (λ l. joined (all_bins l)) (drop-cons groups i group lt) ∙ ap (λ g. joined (bins_in g.items ++ all_bins (drop (suc i) groups))) (sym read)
    ∙ flat_map-append (λ bin. bin) (bins_in group.items) (all_bins (drop (suc i) groups))
    ∙ ap (λ l. l ++ joined (all_bins (drop (suc i) groups))) (joined_in group.items)
    ∙ ap (λ n. joined group.items ++ joined (all_bins (drop n groups))) (sym (add-one i))

-- no key of an earlier bin is above
not_above_before : (key q : List ℕ) → bin_of q < bin_of key → is_above (Some key) q ≡ false
not_above_before key q lt = ap is_lt (less_turned q key (lower_key q key lt))

none_above : (key : List ℕ) (bin : Index) → All (λ e. bin_of e.0 < bin_of key) bin → (key_after bin (Some key) ≡ None) × (crowded_after bin (Some key) ≡ [])
none_above key [] below = (refl, refl)
none_above key (x ∷ bin) below =
    let rest = none_above key bin (λ k d lt. below (suc k) d (omega arith)) in
    let not_above = not_above_before key x.0 (below 0 x (omega arith)) in
    (rw not_above rest.0, rw not_above rest.1)

-- bins of numbers below the key's bin have none of its next keys
module _ (key : List ℕ) where
  abbrev Earlier : ℕ → List Index → Type 0
  Earlier i bins = (k : ℕ) (d : Index) → k < i → k < length bins → All (λ e. bin_of e.0 < bin_of key) (get_or bins k d)

  key_after-drop : (bins : List Index) (i : ℕ) → Earlier i bins → key_after (joined (drop i bins)) (Some key) ≡ key_after (joined bins) (Some key)
  key_after-drop bins zero earlier = refl
  key_after-drop [] (suc i) earlier = refl
  key_after-drop (bin ∷ bins) (suc i) earlier =
      key_after-drop bins i (λ k d lt in_range. earlier (suc k) d (omega arith) (omega arith))
      ∙ sym (key_after-append (Some key) bin (joined bins) ∙ ap (λ o. option_or o (key_after (joined bins) (Some key))) (none_above key bin (earlier 0 bin (omega arith) (omega arith))).0)

  crowded_after-drop : (bins : List Index) (i : ℕ) → Earlier i bins → crowded_after (joined (drop i bins)) (Some key) ≡ crowded_after (joined bins) (Some key)
  crowded_after-drop bins zero earlier = refl
  crowded_after-drop [] (suc i) earlier = refl
  crowded_after-drop (bin ∷ bins) (suc i) earlier =
      crowded_after-drop bins i (λ k d lt in_range. earlier (suc k) d (omega arith) (omega arith))
      ∙ sym (crowded_after-append (Some key) bin (joined bins) ∙ ap (λ l. l ++ crowded_after (joined bins) (Some key)) (none_above key bin (earlier 0 bin (omega arith) (omega arith))).1)

  earlier_bins : (bins : List Index) → AreBins bins → Earlier (bin_of key) bins
  earlier_bins bins all k d lt in_range j e within = omega (arith, all.numbered k d in_range j e within)

-- the bins from the start on have all keys above
after_start : (bins : List Index) → AreBins bins → (after : Option (List ℕ)) → (key_after (joined (drop (start_of after) bins)) after ≡ key_after (joined bins) after) × (crowded_after (joined (drop (start_of after) bins)) after ≡ crowded_after (joined bins) after)
after_start bins all None = (refl, refl)
after_start bins all (Some key) = let earlier = earlier_bins key bins all in (key_after-drop key bins (bin_of key) earlier, crowded_after-drop key bins (bin_of key) earlier)

-- the rest of the group in which the walk starts, and the later groups
module _ {B : Type 0} (groups : List (Vec Index B)) (all : AreGroups groups) (after : Option (List ℕ)) (start : ℕ) (is : start ≡ start_of after) (within : start < 81920) (group : Vec Index B) (read : group ≡ get_or groups (start / 256) group) (rest : Index) (rest_is : rest ≡ joined (drop (start % 256) (bins_in group.items))) (later : List (Vec Index B)) (later_is : later ≡ drop (start / 256 + 1) groups) where
  from_start : joined (drop (start_of after) (all_bins groups)) ≡ rest ++ joined (all_bins later)
  from_start =
      ap (λ n. joined (drop n (all_bins groups))) (sym is)
      ∙ ap joined (drop-groups groups all start within group read)
      ∙ flat_map-append (λ bin. bin) (drop (start % 256) (bins_in group.items)) (all_bins (drop (suc (start / 256)) groups))
      ∙ ap (λ l. l ++ joined (all_bins (drop (suc (start / 256)) groups))) (sym rest_is)
      ∙ ap (λ l. rest ++ joined (all_bins l)) (ap (λ n. drop n groups) (sym (add-one (start / 256))) ∙ sym later_is)

  pub key_after-start : (found : Option (List ℕ)) → found ≡ key_after rest after → option_or found (key_after (joined (all_bins later)) after) ≡ key_after (joined (all_bins groups)) after
  key_after-start found is_found =
      ap (λ o. option_or o (key_after (joined (all_bins later)) after)) is_found
      ∙ sym (key_after-split after rest (joined (all_bins later)) _ from_start) ∙ (after_start (all_bins groups) all.bins after).0

  pub crowded_after-start : (most : ℕ) (found : List (List ℕ)) → found ≡ take most (crowded_after rest after) → take most (found ++ crowded_after (joined (all_bins later)) after) ≡ take most (crowded_after (joined (all_bins groups)) after)
  crowded_after-start most found is_found =
      ap (λ l. take most (l ++ crowded_after (joined (all_bins later)) after)) is_found
      ∙ crowded_after-split after rest (joined (all_bins later)) _ from_start most [] ∙ ap (take most) (after_start (all_bins groups) all.bins after).1
