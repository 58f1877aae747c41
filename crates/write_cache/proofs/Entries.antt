-- The entries of the maps, and the rows that they stand for.
use Rattle.std.proofs.Common.{◌≡◌, ℕ, suc, ◌+◌, ◌<◌, ◌≤◌, List, [], ◌∷◌, length, map, Bool, true, false, cond, eqb, Option, Some, None, IsSome, is_some, option_map, unwrap_or, refl, sym, ap, subst, ◌∙◌, inl, inr, arith, sum_by, find}
use Rattle.std.specs.Map.{lookup, values_of, keys_of, set_value, remove_entry}
use Rattle.std.specs.BTreeMap as tree
use Rattle.std.specs.List.Sorted.{IsStrictlySortedBy}
use Rattle.std.specs.Str.{bytes_eq}
use Rattle.std.specs.Ordering.{nat_cmp, is_gt}
use Rattle.std.specs.BTreeMap.{is_at}
use Rattle.std.specs.Cmp.{unsigned_tied, nat_eq_equiv, nat_cmp_total}
use Rattle.std.specs.Cmp.Lexicographic.{bytes_decides, nat_list_eq_equiv}
use Rattle.std.specs.declared.sync.Arc.{Arc}
use Rattle.std.proofs.lemmas.Bool.{cases_Bool}
use Rattle.std.proofs.lemmas.Bool.Decides.{nat_tests}
use Rattle.std.proofs.lemmas.Option.{same_Some}
use Rattle.std.proofs.lemmas.Map.Entries.{sum_by-set_value, sum_by-insert_entry, sum_by-remove_entry}
use Rattle.std.proofs.lemmas.List.Sums.{sum_by-cons}
use Rattle.indexmap.specs.IndexMap.{IndexMap, insert_entry}
use Rattle.adb_model.specs.Account.{Account}
use Rattle.adb_model.specs.State.{Row}
use Rattle.adb_model.specs.Cache.{put_row}
use Rattle.adb_model.specs.declared.key.Key.{Key}
use Rattle.write_cache.specs.Inside.{row_of, rows_of, seen, AreFilled}
use Rattle.write_cache.specs.Rows.{rows, total, account_at, IsWith}

-- the keys' own test
abbrev same_key : Key → Key → Bool
same_key a b = bytes_eq a.0 b.0

abbrev RowMap : Type 0 → Type 0 → Type 0
RowMap S Z = IndexMap Key (Arc Account Z) S

abbrev Entries : Type 0 → Type 0 → Type 0
Entries S Z = List (ℕ × RowMap S Z)

-- a slot's test, in the words of a `BTreeMap`
pub at_slot : (q s : ℕ) → is_at (nat_cmp q) s ≡ eqb s q
at_slot q s = unsigned_tied q s ∙ nat_eq_equiv.symm q s

unwrap_cond : (b : Bool) (o p : Option (List Row)) → unwrap_or (cond b o p) [] ≡ cond b (unwrap_or o []) (unwrap_or p [])
unwrap_cond true o p = refl
unwrap_cond false o p = refl

turned : (a b : List ℕ) → bytes_eq a b ≡ bytes_eq b a
turned a b = nat_list_eq_equiv.symm a b

account_cond : (b : Bool) (r : Row) (o : Option Row) → option_map (λ r. r.account) (cond b (Some r) o) ≡ cond b (Some r.account) (option_map (λ r. r.account) o)
account_cond true r o = refl
account_cond false r o = refl

module _ {S Z : Type 0} where
  seen_cond : (b : Bool) (m : RowMap S Z) (o : Option (RowMap S Z)) → option_map rows_of (cond b (Some m) o) ≡ cond b (Some (rows_of m)) (option_map rows_of o)
  seen_cond true m o = refl
  seen_cond false m o = refl

  pub lookup-seen : (es : Entries S Z) (q : ℕ) → lookup (λ s. eqb s q) (seen es) ≡ option_map rows_of (lookup (is_at (nat_cmp q)) es)
  lookup-seen [] q = refl
  lookup-seen (e ∷ es) q =
      ap (cond (eqb e.0 q) (Some (rows_of e.1))) (lookup-seen es q)
      ∙ ap (λ b. cond b (Some (rows_of e.1)) (option_map rows_of (lookup (is_at (nat_cmp q)) es))) (sym (at_slot q e.0))
      ∙ sym (seen_cond (is_at (nat_cmp q) e.0) e.1 (lookup (is_at (nat_cmp q)) es))

  pub rows_some : (es : Entries S Z) (q : ℕ) (m : RowMap S Z) → Some m ≡ lookup (is_at (nat_cmp q)) es → rows (seen es) q ≡ rows_of m
  rows_some es q m e = ap (λ o. unwrap_or o []) (lookup-seen es q ∙ ap (option_map rows_of) (sym e))

  pub rows_none : (es : Entries S Z) (q : ℕ) → None ≡ lookup (is_at (nat_cmp q)) es → rows (seen es) q ≡ []
  rows_none es q e = ap (λ o. unwrap_or o []) (lookup-seen es q ∙ ap (option_map rows_of) (sym e))

  map_cond : (b : Bool) (o p : Option (RowMap S Z)) → option_map rows_of (cond b o p) ≡ cond b (option_map rows_of o) (option_map rows_of p)
  map_cond true o p = refl
  map_cond false o p = refl

  -- one slot's entry is another one, or none
  pub IsWith-updates : (es fs : Entries S Z) (k : ℕ) (w : Option (RowMap S Z)) → ((q : ℕ) → lookup (is_at (nat_cmp q)) fs ≡ cond (is_at (nat_cmp k) q) w (lookup (is_at (nat_cmp q)) es)) → IsWith (seen es) (seen fs) k (unwrap_or (option_map rows_of w) [])
  IsWith-updates es fs k w updates q =
      ap (λ o. unwrap_or o [])
      (lookup-seen fs q ∙ ap (option_map rows_of) (updates q) ∙ map_cond (is_at (nat_cmp k) q) w (lookup (is_at (nat_cmp q)) es)
      ∙ ap (λ b. cond b (option_map rows_of w) (option_map rows_of (lookup (is_at (nat_cmp q)) es))) (unsigned_tied k q)
      ∙ ap (cond (eqb k q) (option_map rows_of w)) (sym (lookup-seen es q)))
      ∙ unwrap_cond (eqb k q) (option_map rows_of w) (lookup (λ s. eqb s q) (seen es))

  pub length-rows_of : (m : RowMap S Z) → length (rows_of m) ≡ length m.entries
  length-rows_of m = mapped m.entries
    where
      mapped : (xs : List (Key × Arc Account Z)) → length (map row_of xs) ≡ length xs
      mapped [] = refl
      mapped (x ∷ xs) = ap suc (mapped xs)

  -- the rows of all slots
  pub total-seen : (es : Entries S Z) → total (seen es) ≡ sum_by (λ m. length m.entries) (values_of es)
  total-seen [] = refl
  total-seen (e ∷ es) =
      sum_by-cons length (rows_of e.1) (values_of (seen es))
      ∙ ap (λ n. n + total (seen es)) (length-rows_of e.1) ∙ ap (λ n. length e.1.entries + n) (total-seen es)
      ∙ sym (sum_by-cons (λ m. length m.entries) e.1 (values_of es))

  -- a slot that is kept has rows
  pub filled_there : (es : Entries S Z) (q : ℕ) (m : RowMap S Z) → AreFilled es → Some m ≡ lookup (is_at (nat_cmp q)) es → 0 < length m.entries
  filled_there [] q m filled there = absurd cc
  filled_there (e ∷ es) q m filled there = elim (cases_Bool (is_at (nat_cmp q) e.0)) [
    | inl here ↦
        let is : Some m ≡ Some e.1 = rw here at there in
        subst (λ (w : RowMap S Z). 0 < length w.entries) (sym (same_Some m e.1 is)) (filled 0 e.1 (omega arith))
    | inr other ↦ filled_there es q m (λ k d lt. filled (suc k) d (omega arith)) (rw other at there)
  ]

  -- a slot's rows are written over with the same
  pub seen-set_value : (es : Entries S Z) (q : ℕ) (m w : RowMap S Z) → Some m ≡ lookup (is_at (nat_cmp q)) es → w.entries ≡ m.entries → seen (set_value (is_at (nat_cmp q)) es w) ≡ seen es
  seen-set_value [] q m w there same = refl
  seen-set_value (e ∷ es) q m w there same = elim (cases_Bool (is_at (nat_cmp q) e.0)) [
    | inl here ↦
        let is : Some m ≡ Some e.1 = rw here at there in
        rw here (ap (λ l. (e.0, map row_of l) ∷ seen es) (same ∙ ap (λ (o : RowMap S Z). o.entries) (same_Some m e.1 is)))
    | inr other ↦ rw other (ap (λ l. (e.0, rows_of e.1) ∷ l) (seen-set_value es q m w (rw other at there) same))
  ]

  -- where no kept slot of a range has the slot, it has no rows
  pub rows_unless : (es : Entries S Z) (q : ℕ) → (IsSome (lookup (is_at (nat_cmp q)) es) → ⊥) → rows (seen es) q ≡ []
  rows_unless es q none = by_look (lookup (is_at (nat_cmp q)) es) refl
    where
      by_look : (o : Option (RowMap S Z)) → lookup (is_at (nat_cmp q)) es ≡ o → rows (seen es) q ≡ []
      by_look None is = rows_none es q (sym is)
      by_look (Some m) is = absurd (none (rw is refl))

  -- ---- how many rows there are

  pub total-written : (es : Entries S Z) (q : ℕ) (m w : RowMap S Z) → Some m ≡ lookup (is_at (nat_cmp q)) es → total (seen (set_value (is_at (nat_cmp q)) es w)) + length m.entries ≡ total (seen es) + length w.entries
  total-written es q m w there =
      let sums = sum_by-set_value (λ (v : RowMap S Z). length v.entries) (is_at (nat_cmp q)) es m w (sym there) in
      omega (arith, total-seen (set_value (is_at (nat_cmp q)) es w), total-seen es, sums)

  pub total-set_value : (es : Entries S Z) (q x : ℕ) (m w : RowMap S Z) → Some m ≡ lookup (is_at (nat_cmp q)) es → length w.entries ≡ length m.entries + x → total (seen (set_value (is_at (nat_cmp q)) es w)) ≡ total (seen es) + x
  total-set_value es q x m w there longer = omega (arith, longer, total-written es q m w there)

  pub total-insert_entry : (es : Entries S Z) (q : ℕ) (m : RowMap S Z) → IsStrictlySortedBy nat_cmp (keys_of es) → None ≡ lookup (is_at (nat_cmp q)) es → total (seen (tree.insert_entry nat_cmp es q m)) ≡ total (seen es) + length m.entries
  total-insert_entry es q m up none =
      let sums = sum_by-insert_entry (λ (v : RowMap S Z). length v.entries) nat_cmp_total es q m up in
      let nothing = ap (λ (o : Option (RowMap S Z)). unwrap_or (option_map (λ v. length v.entries) o) 0) (sym none) in
      omega (arith, total-seen (tree.insert_entry nat_cmp es q m), total-seen es, sums, nothing)

  pub total-remove_entry : (es : Entries S Z) (q : ℕ) → total (seen (remove_entry (is_at (nat_cmp q)) es)) + length (rows (seen es) q) ≡ total (seen es)
  total-remove_entry es q =
      let sums = sum_by-remove_entry (λ (v : RowMap S Z). length v.entries) (is_at (nat_cmp q)) es in
      let had = ap length (ap (λ o. unwrap_or o []) (lookup-seen es q)) in
      omega (arith, total-seen (remove_entry (is_at (nat_cmp q)) es), total-seen es, sums, had, shown (lookup (is_at (nat_cmp q)) es))
    where
      shown : (o : Option (RowMap S Z)) → unwrap_or (option_map (λ v. length v.entries) o) 0 ≡ length (unwrap_or (option_map rows_of o) [])
      shown None = refl
      shown (Some v) = sym (length-rows_of v)

-- ---- numbers in order

pub le_not_above : (a b : ℕ) → a ≤ b → is_gt (nat_cmp a b) ≡ false
le_not_above a b le = grind (arith, nat_tests)

-- ---- the rows of one slot

module _ {Z : Type 0} where
  value_cond : (b : Bool) (a : Arc Account Z) (o : Option (Arc Account Z)) → option_map (λ a. a.value) (cond b (Some a) o) ≡ cond b (Some a.value) (option_map (λ a. a.value) o)
  value_cond true a o = refl
  value_cond false a o = refl

  pub account_at-lookup : (es : List (Key × Arc Account Z)) (k : Key) → account_at (map row_of es) k.0 ≡ option_map (λ a. a.value) (lookup (same_key k) es)
  account_at-lookup [] k = refl
  account_at-lookup (e ∷ es) k =
      account_cond (bytes_eq e.0.0 k.0) (row_of e) (find (λ r. bytes_eq r.key k.0) (map row_of es))
      ∙ ap (cond (bytes_eq e.0.0 k.0) (Some e.1.value)) (account_at-lookup es k)
      ∙ ap (λ b. cond b (Some e.1.value) (option_map (λ a. a.value) (lookup (same_key k) es))) (turned e.0.0 k.0)
      ∙ sym (value_cond (same_key k e.0) e.1 (lookup (same_key k) es))

  pub is_some-account_at : (es : List (Key × Arc Account Z)) (k : Key) → is_some (account_at (map row_of es) k.0) ≡ is_some (lookup (same_key k) es)
  is_some-account_at es k = ap is_some (account_at-lookup es k) ∙ mapped (lookup (same_key k) es)
    where
      mapped : (o : Option (Arc Account Z)) → is_some (option_map (λ a. a.value) o) ≡ is_some o
      mapped None = refl
      mapped (Some a) = refl

  pub rows-insert_entry : (es : List (Key × Arc Account Z)) (k : Key) (a : Arc Account Z) → map row_of (insert_entry same_key es k a) ≡ put_row (map row_of es) k.0 a.value
  rows-insert_entry [] k a = refl
  rows-insert_entry (e ∷ es) k a = elim (cases_Bool (same_key k e.0)) [
    | inl same ↦
        let is : k.0 ≡ e.0.0 = (bytes_decides k.0 e.0.0).0 same in
        rw (same, turned e.0.0 k.0, same, is) refl
    | inr other ↦ rw (other, turned e.0.0 k.0, other) (ap (λ l. row_of e ∷ l) (rows-insert_entry es k a))
  ]
