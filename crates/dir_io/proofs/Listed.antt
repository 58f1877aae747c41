-- The names of kept files in a set of text.
use Rattle.std.proofs.Common.{◌≡◌, ℕ, zero, suc, ◌<◌, List, [], ◌∷◌, length, take, get_or, ◌+◌, Bool, true, false, cond, rules, ◌&&◌, ◌||◌, Some, is_some, refl, sym, ap, subst, ◌∙◌, inl, inr, arith, string_bytes}
use Rattle.std.specs.List.{list_any, All, AllByRecursion}
use Rattle.std.specs.List.Sorted.{IsStrictlySortedBy}
use Rattle.std.specs.Str.{bytes_eq}
use Rattle.std.specs.Ordering.{nat_cmp}
use Rattle.std.specs.Cmp.Lexicographic.{slice_cmp, nat_list_eq_equiv}
use Rattle.std.specs.BTreeMap.{is_at}
use Rattle.std.specs.String.{string_cmp}
use Rattle.std.specs.declared.string.String.{String}
use Rattle.std.specs.declared.cmp.Ordering.TheVariants.{Less}
use Rattle.std.specs.declared.vec.Vec.{Vec}
use Rattle.std.proofs.lemmas.Bool.{cases_Bool}
use Rattle.std.proofs.lemmas.Grind.{common_steps}
use Rattle.std.proofs.lemmas.Map.Text.{is_eq-slice_cmp}
use Rattle.dir_io.specs.Files.{file_of, has_prefix, texts, is_among, IsRising, IsListing}
use Rattle.dir_io.specs.Kept.{seen}
use Rattle.dir_io.proofs.Kept.{same_bytes, bytes_eq-self}

turned : (a b : List ℕ) → bytes_eq a b ≡ bytes_eq b a
turned a b = nat_list_eq_equiv.symm a b

-- a file of this name that has the prefix
abbrev pub is_wanted : {A B : Type 0} → List ℕ → List ℕ → String A × Vec ℕ B → Bool
is_wanted prefix name f = bytes_eq (string_bytes f.0) name && has_prefix prefix (string_bytes f.0)

pub among_keys : {A : Type 0} (keys : List (String A)) (q : List ℕ) → is_among (texts keys) q ≡ list_any (is_at (λ k. slice_cmp nat_cmp q (string_bytes k))) keys
among_keys [] q = refl
among_keys (k ∷ keys) q =
    ap (λ b. b || is_among (texts keys) q) (turned (string_bytes k) q ∙ sym (is_eq-slice_cmp q (string_bytes k)))
    ∙ ap (λ b. is_at (λ k. slice_cmp nat_cmp q (string_bytes k)) k || b) (among_keys keys q)

-- whether a file of this name is there, and has the prefix
pub any_wanted : {A B : Type 0} (es : List (String A × Vec ℕ B)) (prefix q : List ℕ) → list_any (is_wanted prefix q) es ≡ (is_some (file_of (seen es) q) && has_prefix prefix q)
any_wanted [] prefix q = refl
any_wanted (e ∷ es) prefix q = elim (cases_Bool (bytes_eq (string_bytes e.0) q)) [
  | inl here ↦ elim (cases_Bool (has_prefix prefix q)) [
    | inl has ↦ rw (here, same_bytes (string_bytes e.0) q here, has) refl
    | inr lacks ↦ rw (here, same_bytes (string_bytes e.0) q here, lacks) (any_wanted es prefix q ∙ rw lacks (search rules))
  ]
  | inr other ↦ rw other (any_wanted es prefix q)
]

any_more : {A B : Type 0} (es : List (String A × Vec ℕ B)) (prefix q : List ℕ) (i : ℕ) (d : String A × Vec ℕ B) → i < length es → list_any (is_wanted prefix q) (take (i + 1) es) ≡ (list_any (is_wanted prefix q) (take i es) || is_wanted prefix q (get_or es i d))
any_more es prefix q i d lt = grind (arith, common_steps)

or_wanted : (before b h : Bool) → h ≡ true → cond b true before ≡ (before || (b && h))
or_wanted true true h e = refl
or_wanted true false h e = refl
or_wanted false true h e = sym e
or_wanted false false h e = refl

or_unwanted : (before b h : Bool) → h ≡ false → before ≡ (before || (b && h))
or_unwanted true b h e = refl
or_unwanted false true h e = sym e
or_unwanted false false h e = refl

-- one more file whose name is put into the set, and one whose name isn't
module _ {A B : Type 0} (es : List (String A × Vec ℕ B)) (prefix q : List ℕ) (i : ℕ) (f : String A × Vec ℕ B) (before : Bool) (lt : i < length es) (here : f ≡ get_or es i f) (is : before ≡ list_any (is_wanted prefix q) (take i es)) where
  with_wanted : (before || is_wanted prefix q f) ≡ list_any (is_wanted prefix q) (take (i + 1) es)
  with_wanted = ap (λ g. before || is_wanted prefix q g) here ∙ ap (λ b. b || is_wanted prefix q (get_or es i f)) is ∙ sym (any_more es prefix q i f lt)

  pub taken : has_prefix prefix (string_bytes f.0) ≡ true → cond (bytes_eq (string_bytes f.0) q) true before ≡ list_any (is_wanted prefix q) (take (i + 1) es)
  taken has = or_wanted before (bytes_eq (string_bytes f.0) q) _ has ∙ with_wanted

  pub passed : has_prefix prefix (string_bytes f.0) ≡ false → before ≡ list_any (is_wanted prefix q) (take (i + 1) es)
  passed lacks = or_unwanted before (bytes_eq (string_bytes f.0) q) _ lacks ∙ with_wanted

below_all : {A : Type 0} (k : String A) (keys : List (String A)) → AllByRecursion (λ y. string_cmp k y ≡ Less) keys → AllByRecursion (λ y. slice_cmp nat_cmp (string_bytes k) y ≡ Less) (texts keys)
below_all k [] below = tt
below_all k (y ∷ keys) below = (below.0, below_all k keys below.1)

pub rising_texts : {A : Type 0} (keys : List (String A)) → IsStrictlySortedBy string_cmp keys → IsRising (texts keys)
unfolding IsStrictlySortedBy
rising_texts [] sorted = tt
rising_texts (k ∷ keys) sorted = (below_all k keys sorted.0, rising_texts keys sorted.1)

at_among : (names : List (List ℕ)) (i : ℕ) (d : List ℕ) → i < length names → is_among names (get_or names i d) ≡ true
at_among [] i d lt = absurd (omega arith)
at_among (n ∷ names) zero d lt = rw (bytes_eq-self n) refl
at_among (n ∷ names) (suc i) d lt = elim (cases_Bool (bytes_eq n (get_or names i d))) [
  | inl here ↦ rw here refl
  | inr other ↦ rw other (at_among names i d (omega arith))
]

both_true : (a b : Bool) → (a && b) ≡ true → b ≡ true
both_true true b e = e
both_true false b e = absurd cc

-- where each name that is there has the prefix, all have it
pub all_prefixed : (names : List (List ℕ)) (prefix : List ℕ) (is_there : List ℕ → Bool) → ((q : List ℕ) → is_among names q ≡ (is_there q && has_prefix prefix q)) → All (λ name. has_prefix prefix name ≡ true) names
all_prefixed names prefix is_there each i d lt = both_true (is_there (get_or names i d)) _ (sym (each (get_or names i d)) ∙ at_among names i d lt)

-- the keys of a set are a listing, where it has the names of the wanted files
pub listing : {A B C : Type 0} (es : List (String A × Vec ℕ B)) (prefix : List ℕ) (keys names : List (String C)) → names ≡ keys → IsStrictlySortedBy string_cmp keys → ((q : List ℕ) → list_any (is_at (λ k. slice_cmp nat_cmp q (string_bytes k))) keys ≡ list_any (is_wanted prefix q) es) → IsListing (Some (seen es)) prefix (texts names)
listing es prefix keys names same sorted each =
    let all : (q : List ℕ) → is_among (texts keys) q ≡ (is_some (file_of (seen es) q) && has_prefix prefix q) = λ q. among_keys keys q ∙ each q ∙ any_wanted es prefix q in
    subst (λ l. IsListing (Some (seen es)) prefix (texts l)) (sym same) (record {
      rising = rising_texts keys sorted;
      prefixed = all_prefixed (texts keys) prefix (λ q. is_some (file_of (seen es) q)) all;
      complete = all;
    })
