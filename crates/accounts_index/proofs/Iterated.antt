-- All keys of an index, each with its versions.
use Rattle.std.proofs.Common.{◌≡◌, ◌≢◌, ℕ, zero, suc, List, [], ◌∷◌, ◌++◌, get_or, true, false, cond, Option, Some, unwrap_or, All, AllPairs, Contains, refl, sym, ap, subst, ◌∙◌, ◌⊎◌, inl, inr, arith}
use Rattle.std.specs.List.{flat_map}
use Rattle.std.specs.Map.{lookup}
use Rattle.std.specs.Str.{bytes_eq}
use Rattle.std.specs.declared.vec.Vec.{Vec}
use Rattle.std.specs.declared.cmp.Ordering.TheVariants.{Less}
use Rattle.std.proofs.lemmas.Bool.{cases_Bool}
use Rattle.std.proofs.lemmas.Grind.{flat_map-append}
use Rattle.slot_list.specs.declared.Version.{Version}
use Rattle.accounts_index.specs.Bins.{joined, bins_in, all_bins}
use Rattle.accounts_index.specs.Index.{Index, Kept, kept, nothing, versions_of, key_cmp, IsOrdered}
use Rattle.accounts_index.proofs.Keys.{same_bytes, bytes_eq-self, less_apart}
use Rattle.accounts_index.proofs.Grouped.{joined_in}
use Rattle.accounts_index.proofs.Walks.{pairs_map}

-- the bins that the groups have are all that have keys
pub joined_groups : {B : Type 0} (groups : List (Vec Index B)) → joined (flat_map (λ group. group.items) groups) ≡ joined (all_bins groups)
joined_groups [] = refl
joined_groups (group ∷ groups) =
    flat_map-append (λ bin. bin) group.items (flat_map (λ g. g.items) groups)
    ∙ ap (λ l. joined group.items ++ l) (joined_groups groups)
    ∙ ap (λ l. l ++ joined (all_bins groups)) (sym (joined_in group.items))
    ∙ sym (flat_map-append (λ bin. bin) (bins_in group.items) (all_bins groups))

pub versions_rise : (index : Index) → IsOrdered index → AllPairs (λ a b. key_cmp a.0 b.0 ≡ Less) (versions_of index)
versions_rise index rise = pairs_map (λ a b. key_cmp a.0 b.0 ≡ Less) (λ e. (e.0, e.1.versions)) index rise

abbrev look : Index → List ℕ → Option Kept
look index q = lookup (λ k. bytes_eq k q) index

rest_rises : (x : List ℕ × Kept) (index : Index) → IsOrdered (x ∷ index) → IsOrdered index
rest_rises x index rise i j d lt within = rise (suc i) (suc j) d (omega (arith, lt)) (omega (arith, within))

first_kept : (x : List ℕ × Kept) (index : Index) → kept (x ∷ index) x.0 ≡ x.1
first_kept x index = ap (λ b. unwrap_or (cond b (Some x.1) (look index x.0)) nothing) (bytes_eq-self x.0)

-- what stands with a key is what is kept of it
pub each_kept : (index : Index) → IsOrdered index → All (λ e. (kept index e.0).versions ≡ e.1) (versions_of index)
each_kept [] rise k d lt = absurd (omega (arith, lt))
each_kept (x ∷ index) rise zero d lt = ap (λ (o : Kept). o.versions) (first_kept x index)
each_kept (x ∷ index) rise (suc k) d lt = other (each_kept index (rest_rises x index rise) k d (omega (arith, lt)))
  where
    e : List ℕ × List Version
    e = get_or (versions_of index) k d

    apart : bytes_eq x.0 e.0 ≡ false
    apart = less_apart x.0 e.0 (versions_rise (x ∷ index) rise 0 (suc k) d (omega arith) lt)

    other : (kept index e.0).versions ≡ e.1 → (kept (x ∷ index) e.0).versions ≡ e.1
    other same = ap (λ b. (unwrap_or (cond b (Some x.1) (look index e.0)) nothing).versions) apart ∙ same

-- each key that has versions stands there
pub every_kept : (index : Index) (key : List ℕ) → (kept index key).versions ≢ [] → Contains (versions_of index) (key, (kept index key).versions)
every_kept [] key some = absurd (some refl)
every_kept (x ∷ index) key some = by (cases_Bool (bytes_eq x.0 key)) (every_kept index key)
  where
    by : (bytes_eq x.0 key ≡ true) ⊎ (bytes_eq x.0 key ≡ false) → ((kept index key).versions ≢ [] → Contains (versions_of index) (key, (kept index key).versions)) → Contains (versions_of (x ∷ index)) (key, (kept (x ∷ index) key).versions)
    by (inl same) rest =
        let one = same_bytes x.0 key same in
        let is : x.1 ≡ kept (x ∷ index) key = sym (ap (λ b. unwrap_or (cond b (Some x.1) (look index key)) nothing) same) in
        (0, omega arith, λ j. (one j, (is j).versions))
    by (inr differs) rest =
        let is : kept (x ∷ index) key ≡ kept index key = ap (λ b. unwrap_or (cond b (Some x.1) (look index key)) nothing) differs in
        let there = rest (λ none. some (ap (λ (o : Kept). o.versions) is ∙ none)) in
        subst (λ (o : Kept). Contains (versions_of (x ∷ index)) (key, o.versions)) (sym is) (suc there.0, omega (arith, there.1), there.2)
