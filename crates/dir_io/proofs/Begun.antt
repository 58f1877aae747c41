-- Names that all begin with a prefix.
use Rattle.std.proofs.Common.{◌≡◌, ℕ, List, [], ◌∷◌, true, None, sym, subst, string_bytes}
use Rattle.std.specs.List.{All}
use Rattle.std.specs.List.Sorted.{IsStrictlySortedBy}
use Rattle.std.specs.BTreeSet.{insert_key}
use Rattle.std.specs.Ordering.{match_ordering}
use Rattle.std.specs.String.{string_cmp}
use Rattle.std.specs.declared.string.String.{String}
use Rattle.std.specs.declared.cmp.Ordering.{Ordering}
use Rattle.std.specs.declared.cmp.Ordering.TheVariants.{Less, Equal, Greater}
use Rattle.std.proofs.lemmas.List.Elements.{All-cons, All-head, All-tail, All-map}
use Rattle.dir_io.specs.Files.{has_prefix, texts, AllBegin, IsListing}
use Rattle.dir_io.proofs.Listed.{rising_texts}

at_place : {K : Type 0} (P : K → Type 0) (order : Ordering) (a b c : List K) → All P a → All P b → All P c → All P (match_ordering order a b c)
at_place P Less a b c p q r = p
at_place P Equal a b c p q r = q
at_place P Greater a b c p q r = r

-- a key is put among keys of which this holds too
pub all_inserted : {K : Type 0} (P : K → Type 0) (cmp : K → K → Ordering) (keys : List K) (key : K) → All P keys → P key → All P (insert_key cmp keys key)
all_inserted P cmp [] key all one = All-cons P key [] one all
all_inserted P cmp (x ∷ keys) key all one =
    at_place P (cmp key x) (key ∷ x ∷ keys) (x ∷ keys) (x ∷ insert_key cmp keys key)
    (All-cons P key (x ∷ keys) one all) all
    (All-cons P x (insert_key cmp keys key) (All-head P x keys all) (all_inserted P cmp keys key (All-tail P x keys all) one))

-- the keys of a set are a listing of files that aren't told, where all begin with the prefix
pub untold : {A : Type 0} (prefix : List ℕ) (keys names : List (String A)) → names ≡ keys → IsStrictlySortedBy string_cmp keys → AllBegin prefix keys → IsListing None prefix (texts names)
untold prefix keys names same sorted all = subst (λ l. IsListing None prefix (texts l)) (sym same) (record {
  rising = rising_texts keys sorted;
  prefixed = All-map (λ name. has_prefix prefix name ≡ true) string_bytes keys all;
  complete = tt;
})
