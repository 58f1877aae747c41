-- A key's bin in the groups of an index, and what an edit of the bin leaves of the whole index.
use Rattle.std.proofs.Common.{◌≡◌, ◌≢◌, ℕ, ◌/◌, ◌%◌, ◌<◌, ◌≤◌, List, [], length, set, get_or, IsSome, true, refl, sym, ap, subst, ◌∙◌, inl, inr, arith}
use Rattle.std.specs.declared.vec.Vec.{Vec}
use Rattle.std.specs.Vec.{with_item}
use Rattle.std.proofs.lemmas.Bool.{cases_Bool, cases_lt, false≢true}
use Rattle.std.specs.Str.{bytes_eq}
use Rattle.view_sets.specs.Slots.{among}
use Rattle.slot_list.specs.Versions.{VersionsRise, at}
use Rattle.accounts_index.specs.Bins.{bin_of, joined, bins_in, all_bins, AreUsed, AreGroups}
use Rattle.accounts_index.specs.Index.{Kept, Index, kept, nothing, IsWith, IsOrdered, ListsRise}
use Rattle.accounts_index.proofs.Keys.{same_bytes}
use Rattle.accounts_index.proofs.Lists.{lists_changed, lists_seen, lists_same}
use Rattle.accounts_index.proofs.Grouped.{whole, whole_some, get-none, get-now, set-groups, AreGroups-set, same-groups, AreGroups-same}
use Rattle.accounts_index.proofs.Joined as bins

-- what holds of the groups of an index between calls
abbrev pub Holds : {B : Type 0} → List (Vec Index B) → Type 0
Holds groups = AreGroups groups × ListsRise (joined (all_bins groups))

-- the group of a key, as it is read
pub record Reached {B : Type 0} (index : Index) (groups : List (Vec Index B)) (key : List ℕ) (number : ℕ) (group : Vec Index B) : Type 0 where
  pub view : joined (all_bins groups) ≡ index
  pub holds : Holds groups
  pub is : number ≡ bin_of key
  pub within : number < 81920
  pub read : group ≡ get_or groups (number / 256) group

-- the group with its bins, and the key's bin, as it is read
pub record Opened {B : Type 0} (group now : Vec Index B) (number : ℕ) (bin : Index) : Type 0 where
  pub grown : length now.items ≡ 256
  pub same : bins_in now.items ≡ bins_in group.items
  pub read : bin ≡ get_or now.items (number % 256) bin

module _ {B : Type 0} (index : Index) (groups : List (Vec Index B)) (key : List ℕ) (number : ℕ) (group : Vec Index B) (reached : Reached index groups key number group) where
  -- nothing is kept of a key whose group has no bins
  pub nothing_here : length group.items ≡ 0 → kept index key ≡ nothing
  nothing_here none =
      bins.kept_here index (all_bins groups) reached.view reached.holds.0.bins key number reached.is reached.within []
      (sym (get-none groups reached.holds.0 number reached.within group reached.read none []))

  IsWith-nothing : length group.items ≡ 0 → IsWith index index key nothing
  IsWith-nothing none q = elim (cases_Bool (bytes_eq key q)) [
    | inl same ↦ rw same (ap (kept index) (sym (same_bytes key q same)) ∙ nothing_here none)
    | inr differs ↦ rw differs refl
  ]

  -- a group that has some bins has them all
  pub whole_group : 0 < length group.items → length group.items ≡ 256
  whole_group some = whole_some group.items (whole groups reached.holds.0 number reached.within group reached.read) some

  -- the group of a key of which something is kept has bins
  has_bins : kept index key ≢ nothing → length group.items ≡ 256
  has_bins some = elim (cases_lt 0 (length group.items)) [
    | inl has ↦ whole_group has
    | inr none ↦ absurd (some (nothing_here (omega arith)))
  ]

  pub no_version : length group.items ≡ 0 → (slot : ℕ) → IsSome (at slot (kept index key).versions) → ⊥
  no_version none slot there = absurd (false≢true (rw (nothing_here none) at there))

  pub version_has_bins : (slot : ℕ) → IsSome (at slot (kept index key).versions) → length group.items ≡ 256
  version_has_bins slot there = has_bins (λ none. absurd (false≢true (rw none at there)))

  pub expected_has_bins : (slot : ℕ) → among slot (kept index key).expected ≡ true → length group.items ≡ 256
  expected_has_bins slot there = has_bins (λ none. absurd (false≢true (rw none at there)))

  -- a group that only got its bins
  module _ (now : Vec Index B) (same : bins_in now.items ≡ bins_in group.items) where
    pub joined-regrown : joined (all_bins (set groups (number / 256) now)) ≡ index
    joined-regrown = ap joined (same-groups groups reached.holds.0 number reached.within group reached.read now same) ∙ reached.view

    -- what changes nothing where nothing is kept
    pub IsWith-regrown : length group.items ≡ 0 → (change : Kept → Kept) → change nothing ≡ nothing → IsWith index (joined (all_bins (set groups (number / 256) now))) key (change (kept index key))
    IsWith-regrown none change stays =
        subst (λ i. IsWith index i key (change (kept index key))) (sym joined-regrown)
        (subst (IsWith index index key) (sym (ap change (nothing_here none) ∙ stays)) (IsWith-nothing none))

    pub Holds-regrown : Holds (set groups (number / 256) now)
    Holds-regrown = (
      AreGroups-same groups reached.holds.0 number reached.within group reached.read now same,
      subst ListsRise (ap joined (sym (same-groups groups reached.holds.0 number reached.within group reached.read now same))) reached.holds.1,
    )

  module _ (now : Vec Index B) (bin : Index) (got : Opened group now number bin) where
    bin_there : bin ≡ get_or (all_bins groups) number bin
    bin_there = got.read ∙ sym (get-now groups reached.holds.0 number reached.within group reached.read now got.grown got.same bin)

    pub kept_bin : kept index key ≡ kept bin key
    kept_bin = bins.kept_here index (all_bins groups) reached.view reached.holds.0.bins key number reached.is reached.within bin bin_there

    pub no_longer : length bin ≤ length index
    no_longer = bins.no_longer index (all_bins groups) reached.view reached.holds.0.bins key number reached.is reached.within bin bin_there

    module _ (new : Index) (used : AreUsed new) (ordered : IsOrdered new) where
      bins_now : set (all_bins groups) number new ≡ all_bins (set groups (number / 256) (with_item now (number % 256) new))
      bins_now = set-groups groups reached.holds.0 number reached.within group reached.read now got.grown got.same new (with_item now (number % 256) new) refl

      pub joined-unedited : new ≡ bin → joined (all_bins (set groups (number / 256) (with_item now (number % 256) new))) ≡ index
      joined-unedited same =
          sym (ap joined bins_now)
          ∙ bins.joined-same index (all_bins groups) reached.view reached.holds.0.bins key number reached.is reached.within bin bin_there new used ordered same

      pub Holds-unedited : new ≡ bin → Holds (set groups (number / 256) (with_item now (number % 256) new))
      Holds-unedited same = (
        AreGroups-set groups reached.holds.0 number reached.within group reached.read now got.grown got.same new (with_item now (number % 256) new) refl
            (bins.AreBins-same index (all_bins groups) reached.view reached.holds.0.bins key number reached.is reached.within bin bin_there new used ordered same),
        lists_same index _ (joined-unedited same) (lists_seen index _ reached.view reached.holds.1),
      )

      module _ (change : Kept → Kept) (edit : IsWith bin new key (change (kept bin key))) where
        pub IsWith-edited : IsWith index (joined (all_bins (set groups (number / 256) (with_item now (number % 256) new)))) key (change (kept index key))
        IsWith-edited =
            subst (λ l. IsWith index (joined l) key (change (kept index key))) bins_now
            (bins.IsWith-joined index (all_bins groups) reached.view reached.holds.0.bins key number reached.is reached.within bin bin_there new used ordered change edit)

        pub Holds-edited : ((k : Kept) → VersionsRise k.versions → VersionsRise (change k).versions) → Holds (set groups (number / 256) (with_item now (number % 256) new))
        Holds-edited keeps = (
          AreGroups-set groups reached.holds.0 number reached.within group reached.read now got.grown got.same new (with_item now (number % 256) new) refl
              (bins.AreBins-edit index (all_bins groups) reached.view reached.holds.0.bins key number reached.is reached.within bin bin_there new used ordered (change (kept bin key)) edit),
          lists_changed index _ key change (lists_seen index _ reached.view reached.holds.1) keeps IsWith-edited,
        )
