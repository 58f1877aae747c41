-- The names of a snapshot's files.
use Rattle.std.proofs.Common.{◌≡◌, ℕ, ◌<◌, ◌^◌, List, [], ◌∷◌, ◌++◌, get_or, codes, Bool, true, ◌&&◌, leb, nat_eq, refl, sym, ap, ◌∙◌, arith, append_assoc}
use Rattle.std.specs.Char.{is_ascii_digit}
use Rattle.std.specs.Fmt.{decimal}
use Rattle.std.specs.Cmp.Lexicographic.{pointwise}
use Rattle.std.specs.Str.{all_ascii_digits}
use Rattle.std.specs.Str.Parse.{digits_value}
use Rattle.std.proofs.Math.Seq.{take-append_seam}
use Rattle.std.proofs.lemmas.Bool.{and_parts, eq-eqb, leb-true}
use Rattle.std.proofs.lemmas.Fmt.{decimal_injective, digits_decimal}
use Rattle.std.proofs.lemmas.List.{append_cancel_left}
use Rattle.std.proofs.lemmas.Str.Parse.{IsNumeralModel, numerals_by_value, tells_all_ascii_digits}
use Rattle.dir_io.specs.Files.{has_prefix}
use Rattle.field_codec.specs.Paths.{prefix_of, version_path, manifest_path, storage_path}

-- ---- what they begin with

self_eq : (xs : List ℕ) → pointwise nat_eq xs xs ≡ true
self_eq [] = refl
self_eq (x ∷ xs) = rw (eq-eqb x x refl) (self_eq xs)

begins : (prefix rest : List ℕ) → has_prefix prefix (prefix ++ rest) ≡ true
begins prefix rest = ap (pointwise nat_eq prefix) (take-append_seam prefix rest) ∙ self_eq prefix

pub version_under : (name : List ℕ) → has_prefix (prefix_of name) (version_path name) ≡ true
unfolding prefix_of version_path
version_under name = ap (has_prefix (name ++ codes "/")) (sym (append_assoc name (codes "/") (codes "version"))) ∙ begins (name ++ codes "/") (codes "version")

pub manifest_under : (name : List ℕ) (slot : ℕ) → has_prefix (prefix_of name) (manifest_path name slot) ≡ true
unfolding prefix_of manifest_path
manifest_under name slot =
    let rest = codes "snapshots/" ++ (decimal slot ++ (codes "/" ++ decimal slot)) in
    ap (has_prefix (name ++ codes "/")) (sym (append_assoc name (codes "/") rest)) ∙ begins (name ++ codes "/") rest

pub storage_under : (name : List ℕ) (slot id : ℕ) → has_prefix (prefix_of name) (storage_path name slot id) ≡ true
unfolding prefix_of storage_path
storage_under name slot id =
    let rest = codes "accounts/" ++ (decimal slot ++ (codes "." ++ decimal id)) in
    ap (has_prefix (name ++ codes "/")) (sym (append_assoc name (codes "/") rest)) ∙ begins (name ++ codes "/") rest

-- ---- names of different kinds

pub version_no_manifest : (name : List ℕ) (slot : ℕ) → version_path name ≡ manifest_path name slot → ⊥
unfolding version_path manifest_path
version_no_manifest name slot e =
    let rest = append_cancel_left name (codes "/version") (codes "/snapshots/" ++ (decimal slot ++ (codes "/" ++ decimal slot))) e in
    let char : 118 ≡ 115 = ap (λ (l : List ℕ). get_or l 1 0) rest in
    omega (arith, char)

pub version_no_storage : (name : List ℕ) (slot id : ℕ) → version_path name ≡ storage_path name slot id → ⊥
unfolding version_path storage_path
version_no_storage name slot id e =
    let rest = append_cancel_left name (codes "/version") (codes "/accounts/" ++ (decimal slot ++ (codes "." ++ decimal id))) e in
    let char : 118 ≡ 97 = ap (λ (l : List ℕ). get_or l 1 0) rest in
    omega (arith, char)

pub manifest_no_storage : (name : List ℕ) (slot other id : ℕ) → manifest_path name slot ≡ storage_path name other id → ⊥
unfolding manifest_path storage_path
manifest_no_storage name slot other id e =
    let rest = append_cancel_left name (codes "/snapshots/" ++ (decimal slot ++ (codes "/" ++ decimal slot))) (codes "/accounts/" ++ (decimal other ++ (codes "." ++ decimal id))) e in
    let char : 115 ≡ 97 = ap (λ (l : List ℕ). get_or l 1 0) rest in
    omega (arith, char)

-- ---- the files of two slots

own : IsNumeralModel (λ ds. all_ascii_digits ds ≡ true) (digits_value 10)
own = numerals_by_value _ tells_all_ascii_digits

head_is : (x y : ℕ) (xs ys : List ℕ) → x ∷ xs ≡ y ∷ ys → x ≡ y
head_is x y xs ys e = ap (λ (l : List ℕ). get_or l 0 0) e

tail_is : (x y : ℕ) (xs ys : List ℕ) → x ∷ xs ≡ y ∷ ys → xs ≡ ys
tail_is x y xs ys e = cc

not_dot : (c : ℕ) (b : Bool) → (is_ascii_digit c && b) ≡ true → 46 ≡ c → ⊥
not_dot c b digits same =
    let range = and_parts (leb 48 c) (leb c 57) (and_parts (is_ascii_digit c) b digits).0 in
    omega (arith, leb-true 48 c range.0, same)

-- digits end at a dot
same_digits : (xs ys a b : List ℕ) → all_ascii_digits xs ≡ true → all_ascii_digits ys ≡ true → xs ++ 46 ∷ a ≡ ys ++ 46 ∷ b → xs ≡ ys
same_digits [] [] a b dx dy e = refl
same_digits [] (y ∷ ys) a b dx dy e = absurd (not_dot y (all_ascii_digits ys) dy (head_is 46 y a (ys ++ 46 ∷ b) e))
same_digits (x ∷ xs) [] a b dx dy e = absurd (not_dot x (all_ascii_digits xs) dx (sym (head_is x 46 (xs ++ 46 ∷ a) b e)))
same_digits (x ∷ xs) (y ∷ ys) a b dx dy e =
    let first = head_is x y (xs ++ 46 ∷ a) (ys ++ 46 ∷ b) e in
    let rest = same_digits xs ys a b (and_parts (is_ascii_digit x) (all_ascii_digits xs) dx).1 (and_parts (is_ascii_digit y) (all_ascii_digits ys) dy).1 (tail_is x y (xs ++ 46 ∷ a) (ys ++ 46 ∷ b) e) in
    (λ i. first i ∷ rest i)

pub storages_differ : (name : List ℕ) (slot id other other_id : ℕ) → slot < 2 ^ 64 → other < 2 ^ 64 → storage_path name slot id ≡ storage_path name other other_id → slot ≡ other
unfolding storage_path
storages_differ name slot id other other_id small small_too e =
    let rest = append_cancel_left name (codes "/accounts/" ++ (decimal slot ++ (codes "." ++ decimal id))) (codes "/accounts/" ++ (decimal other ++ (codes "." ++ decimal other_id))) e in
    let digits = append_cancel_left (codes "/accounts/") (decimal slot ++ (codes "." ++ decimal id)) (decimal other ++ (codes "." ++ decimal other_id)) rest in
    decimal_injective slot other small small_too (same_digits (decimal slot) (decimal other) (decimal id) (decimal other_id) (digits_decimal own slot small) (digits_decimal own other small_too) digits)
