-- Paths that are noted, and forgotten.
use Rattle.std.proofs.Common.{◌≡◌, List, [], ◌∷◌, length, Bool, true, false, ◌&&◌, not, IsTrue, string_cmp, refl, sym, ◌∙◌, inl, inr, rules}
use Rattle.std.specs.Prelude.{◌==◌}
use Rattle.std.specs.List.{list_any}
use Rattle.std.specs.BTreeMap.{is_at}
use Rattle.std.specs.BTreeSet.{BTreeSet, contains, Updates, UpdatesBy, IsSameSet, IsSubset}
use Rattle.std.specs.Set.{KeepsOthers}
use Rattle.std.specs.String.{string_cmp_total}
use Rattle.std.specs.declared.string.String.{String}
use Rattle.std.proofs.lemmas.Bool.{cases_Bool, true≢false}
use Rattle.std.proofs.lemmas.Cmp.{eq_by_cmp_equiv}
use Rattle.std.proofs.lemmas.Map.Steps.{list_any_congr}
use Rattle.dir_io.specs.Kept.{is_synced}

-- equal paths are in the same sets
same_path : {A : Type 0} (s : BTreeSet (String A)) (k q : String A) → is_at (string_cmp k) q ≡ true → contains string_cmp s k ≡ contains string_cmp s q
same_path s k q same = list_any_congr (eq_by_cmp_equiv string_cmp_total) k q s.keys same

-- a path that is noted already
pub noted_before : {A : Type 0} (s : BTreeSet (String A)) (k : String A) → contains string_cmp s k ≡ true → Updates string_cmp s s k true
unfolding KeepsOthers
noted_before s k has = (
  λ q. elim (cases_Bool (is_at (string_cmp k) q)) [
    | inl same ↦ rw same (sym (same_path s k q same) ∙ has)
    | inr other ↦ rw other refl
  ],
  has,
  λ q apart. refl,
  λ other test apart. refl,
)

-- a path that was new, noted and forgotten
pub forgotten : {A : Type 0} (s m n : BTreeSet (String A)) (k : String A) → contains string_cmp s k ≡ false → Updates string_cmp s m k true → UpdatesBy string_cmp (string_cmp k) m n false → IsSameSet string_cmp s n
forgotten s m n k lacks noted taken = λ q. elim (cases_Bool (is_at (string_cmp k) q)) [
  | inl same ↦ sym (same_path s k q same) ∙ lacks ∙ sym (taken.0 q ∙ rw same refl)
  | inr other ↦ sym (taken.2 q other ∙ noted.2 q other)
]

-- a path that was noted before, noted again
pub noted_again : {A : Type 0} (s m : BTreeSet (String A)) (k : String A) → contains string_cmp s k ≡ true → Updates string_cmp s m k true → IsSameSet string_cmp s m
noted_again s m k has noted = λ q. elim (cases_Bool (is_at (string_cmp k) q)) [
  | inl same ↦ sym (same_path s k q same) ∙ has ∙ sym (noted.0 q ∙ rw same refl)
  | inr other ↦ sym (noted.2 q other)
]

-- where all of these paths are among others, and there are no others, there are none
none_left : {A : Type 0} (ks ls : List (String A)) → ((q : String A) → list_any (is_at (string_cmp q)) ks ≡ true → list_any (is_at (string_cmp q)) ls ≡ true) → (length ls == 0) ≡ true → (length ks == 0) ≡ true
none_left [] ls kept none = refl
none_left (k ∷ ks) [] kept none = absurd (true≢false (sym (kept k (rw (eq_by_cmp_equiv string_cmp_total).refl refl))))
none_left (k ∷ ks) (l ∷ ls) kept none = absurd (search rules)

and_before : (a b c : Bool) → (b ≡ true → a ≡ true) → (b && c) ≡ true → (a && c) ≡ true
and_before a true c before both = rw (before refl) both
and_before a false c before both = absurd cc

-- where what is noted after is synced, so is what was noted before
pub synced_before : {A : Type 0} (s t : BTreeSet (String A)) (is_lost : Bool) → IsSubset string_cmp s t → IsTrue (is_synced t is_lost) → IsTrue (is_synced s is_lost)
synced_before s t is_lost kept synced = and_before (length s.keys == 0) (length t.keys == 0) (not is_lost) (none_left s.keys t.keys kept) synced
