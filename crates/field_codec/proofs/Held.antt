-- What is found in files that hold a form, and what files hold in which one is found.
use Rattle.std.proofs.Common.{◌≡◌, ◌⊎◌, ℕ, zero, suc, ◌+◌, ◌-◌, ◌<◌, ◌≤◌, ◌^◌, ◌&&◌, ◌||◌, nat_lt, eqb, List, [], ◌∷◌, ◌++◌, length, drop, get_or, find, not, codes, Bool, true, false, cond, All, Less, Option, Some, None, is_some, option_map, Result, Ok, Err, refl, sym, ap, subst, ◌∙◌, inl, inr, arith, append_assoc}
use Rattle.std.specs.Prelude.{IsSomeAnd, decimal}
use Rattle.std.specs.Char.{is_ascii_digit}
use Rattle.std.specs.Cmp.Lexicographic.{slice_cmp, bytes_decides}
use Rattle.std.specs.List.{AllByRecursion, suffix_len}
use Rattle.std.specs.List.Sorted.{IsStrictlyIncreasing}
use Rattle.std.specs.Ordering.{nat_cmp}
use Rattle.std.specs.Str.{all_ascii_digits, bytes_eq}
use Rattle.std.specs.Str.Parse.{digits_value}
use Rattle.std.proofs.lemmas.Bool.{and_from, and_parts, eq-eqb, eqb-true, le-ltb, ltb-false, true≢false}
use Rattle.std.proofs.lemmas.Fmt.{digits_decimal}
use Rattle.std.proofs.lemmas.List.{get_or-append-add, length-append}
use Rattle.std.proofs.lemmas.List.Elements.{All-head, All-map, All-tail, All-cons, All-nil}
use Rattle.std.proofs.lemmas.List.Sums.{suffix_len_is}
use Rattle.std.proofs.lemmas.Map.Keys.{sorted_head, sorted_tail}
use Rattle.std.proofs.lemmas.Map.Text.{is_eq-slice_cmp}
use Rattle.std.proofs.lemmas.Str.Parse.{IsNumeralModel, numerals_by_value, tells_all_ascii_digits}
use Rattle.text_fields.specs.Laws.{NumberTextsAreNumbers}
use Rattle.text_fields.specs.Numbers.{number_of}
use Rattle.dir_io.specs.Files.{Files, IsRising, file_of, has_prefix, is_among}
use Rattle.field_codec.specs.declared.fields.FieldStorage.{FieldStorage}
use Rattle.field_codec.specs.Manifest.{Content, IsManifest, slots_of}
use Rattle.field_codec.specs.Paths.{if_manifest, last_digits, manifest_path, manifest_slots, prefix_of, slot_of_path, status_path, storage_path, version_path}
use Rattle.field_codec.specs.Forms.{FindsAt, FindsThen, Flaw, Found, HoldsForm, IsInOrder, NamedFile, NoFile, NoVersion, BadVersion, SlotAbove, SlotMismatch, UnknownFile, above, bytes_at, file_for, flaw_in, form_in, is_version, known_paths, mismatch, missing, one_slot, or_flaw, paths_of, read, slot_in, unknown, unless, unread}
use Rattle.field_codec.proofs.Answering.{none_is}
use Rattle.field_codec.proofs.Listed.{fused, path_is, first_listed}
use Rattle.field_codec.proofs.Manifests.{manifest_there, one_reading}
use Rattle.field_codec.proofs.Names.{version_no_manifest, manifest_no_storage, version_under, manifest_under, storage_under}

same_bytes : (a b : List ℕ) → bytes_eq a b ≡ true → a ≡ b
same_bytes a b e = (bytes_decides a b).0 e

bytes_same : (a b : List ℕ) → a ≡ b → bytes_eq a b ≡ true
bytes_same a b e = (bytes_decides a b).1 e

-- ---- the digits that a path ends with

digit_at : (ds : List ℕ) (k : ℕ) → all_ascii_digits ds ≡ true → k < length ds → is_ascii_digit (get_or ds k 0) ≡ true
digit_at [] k all lt = absurd (omega arith)
digit_at (d ∷ ds) zero all lt = (and_parts (is_ascii_digit d) (all_ascii_digits ds) all).0
digit_at (d ∷ ds) (suc k) all lt = digit_at ds k (and_parts (is_ascii_digit d) (all_ascii_digits ds) all).1 (omega arith)

past_front : (front rest : List ℕ) → drop (length front) (front ++ rest) ≡ rest
past_front [] rest = refl
past_front (x ∷ front) rest = past_front front rest

module _ (front ds : List ℕ) (c : ℕ) (other : is_ascii_digit c ≡ false) (digits : all_ascii_digits ds ≡ true) where
  joined : front ++ c ∷ ds ≡ (front ++ c ∷ []) ++ ds
  joined = sym (append_assoc front (c ∷ []) ds)

  len_front : length (front ++ c ∷ []) ≡ length front + 1
  len_front = length-append front (c ∷ [])

  len_all : length (front ++ c ∷ ds) ≡ length front + 1 + length ds
  len_all = let len = length-append front (c ∷ ds) in omega arith

  behind : (k : ℕ) → length front + 1 ≤ k → k < length (front ++ c ∷ ds) → is_ascii_digit (get_or (front ++ c ∷ ds) k 0) ≡ true
  behind k le lt =
      let n = k - (length front + 1) in
      let same : k ≡ length (front ++ c ∷ []) + n = omega (arith, len_front, le) in
      let at : get_or (front ++ c ∷ ds) k 0 ≡ get_or ds n 0 = ap (λ (l : List ℕ). get_or l k 0) joined ∙ ap (λ (m : ℕ). get_or ((front ++ c ∷ []) ++ ds) m 0) same ∙ get_or-append-add (front ++ c ∷ []) ds n 0 in
      ap (λ (x : ℕ). is_ascii_digit x) at ∙ digit_at ds n digits (omega (arith, len_all, le, lt))

  before : 0 < length front + 1 → is_ascii_digit (get_or (front ++ c ∷ ds) (length front + 1 - 1) 0) ≡ false
  before some =
      let same : length front + 1 - 1 ≡ length front + 0 = omega arith in
      ap (λ (m : ℕ). is_ascii_digit (get_or (front ++ c ∷ ds) m 0)) same ∙ ap (λ (x : ℕ). is_ascii_digit x) (get_or-append-add front (c ∷ ds) 0 0) ∙ other

  count : suffix_len (λ b. is_ascii_digit b) (front ++ c ∷ ds) ≡ length (front ++ c ∷ ds) - (length front + 1)
  count = suffix_len_is (λ b. is_ascii_digit b) (front ++ c ∷ ds) (length front + 1) 0 (omega (arith, len_all)) behind before

  digits_end : last_digits (front ++ c ∷ ds) ≡ ds
  digits_end =
      let from : length (front ++ c ∷ ds) - suffix_len (λ b. is_ascii_digit b) (front ++ c ∷ ds) ≡ length (front ++ c ∷ []) = omega (arith, count, len_all, len_front) in
      ap (λ (n : ℕ). drop n (front ++ c ∷ ds)) from ∙ ap (drop (length (front ++ c ∷ []))) joined ∙ past_front (front ++ c ∷ []) ds

-- ---- the slot whose manifest's file a path names

own : IsNumeralModel (λ ds. all_ascii_digits ds ≡ true) (digits_value 10)
own = numerals_by_value _ tells_all_ascii_digits

manifest_ends : (name : List ℕ) (slot : ℕ) → manifest_path name slot ≡ (name ++ (codes "/snapshots/" ++ decimal slot)) ++ 47 ∷ decimal slot
unfolding manifest_path
manifest_ends name slot = simp append_assoc refl

pub own_slot : NumberTextsAreNumbers → (name : List ℕ) (slot : ℕ) → slot < 2 ^ 64 → slot_of_path name (manifest_path name slot) ≡ Some slot
unfolding slot_of_path
own_slot numbers name slot small =
    let digits : last_digits (manifest_path name slot) ≡ decimal slot = ap last_digits (manifest_ends name slot) ∙ digits_end (name ++ (codes "/snapshots/" ++ decimal slot)) (decimal slot) 47 refl (digits_decimal own slot small) in
    ap (λ (w : List ℕ). if_manifest name (manifest_path name slot) (number_of w)) digits ∙ ap (if_manifest name (manifest_path name slot)) (numbers slot small)
    ∙ ap (λ (b : Bool). cond b (Some slot) None) (bytes_same (manifest_path name slot) (manifest_path name slot) refl)

no_number : number_of [] ≡ None
unfolding number_of
no_number = refl

status_ends : (name : List ℕ) → status_path name ≡ (name ++ codes "/snapshots/status_cach") ++ 101 ∷ []
unfolding status_path
status_ends name = simp append_assoc refl

status_slot : (name : List ℕ) → slot_of_path name (status_path name) ≡ None
unfolding slot_of_path
status_slot name =
    let digits : last_digits (status_path name) ≡ [] = ap last_digits (status_ends name) ∙ digits_end (name ++ codes "/snapshots/status_cach") [] 101 refl refl in
    ap (λ (w : List ℕ). if_manifest name (status_path name) (number_of w)) digits ∙ ap (if_manifest name (status_path name)) no_number

-- a path that is no manifest's has no slot
no_slot : (name path : List ℕ) → ((slot : ℕ) → path ≡ manifest_path name slot → ⊥) → slot_of_path name path ≡ None
no_slot name path none = by (slot_of_path name path) refl
  where
    by : (o : Option ℕ) → slot_of_path name path ≡ o → slot_of_path name path ≡ None
    by None is = is
    by (Some slot) is = absurd (none slot (same_bytes path (manifest_path name slot) (path_is name path slot is)))

-- ---- the names that a snapshot's files may have

or_either : (a b : Bool) → (a || b) ≡ true → (a ≡ true) ⊎ (b ≡ true)
or_either true b e = inl refl
or_either false b e = inr e

among_storages : (name : List ℕ) (storages : List FieldStorage) (path : List ℕ) → is_among (paths_of name storages) path ≡ true → (s : FieldStorage) × (storage_path name s.slot s.id ≡ path)
among_storages name [] path there = absurd cc
among_storages name (s ∷ storages) path there = elim (or_either (bytes_eq (storage_path name s.slot s.id) path) _ there) [
  | inl here ↦ (s, same_bytes (storage_path name s.slot s.id) path here)
  | inr later ↦ among_storages name storages path later
]

known_slot : (name : List ℕ) (content : Content) (path : List ℕ) → is_among (known_paths name content) path ≡ true → (manifest_path name content.slot ≡ path) ⊎ (slot_of_path name path ≡ None)
known_slot name content path there = elim (or_either (bytes_eq (version_path name) path) _ there) [
  | inl version ↦ inr (no_slot name path (λ slot is. version_no_manifest name slot (same_bytes (version_path name) path version ∙ is)))
  | inr more ↦ elim (or_either (bytes_eq (status_path name) path) _ more) [
    | inl status ↦ inr (ap (slot_of_path name) (sym (same_bytes (status_path name) path status)) ∙ status_slot name)
    | inr others ↦ elim (or_either (bytes_eq (manifest_path name content.slot) path) _ others) [
      | inl manifest ↦ inl (same_bytes (manifest_path name content.slot) path manifest)
      | inr storage ↦
          let s = among_storages name content.storages path storage in
          inr (no_slot name path (λ slot is. manifest_no_storage name slot s.0.slot s.0.id (sym is ∙ sym s.1)))
    ]
  ]
]

-- ---- the one manifest among rising names

or_left : (a b : Bool) → a ≡ true → (a || b) ≡ true
or_left true b e = refl
or_left false b e = absurd cc

or_right : (a b : Bool) → b ≡ true → (a || b) ≡ true
or_right true b e = refl
or_right false b e = e

not_below : (path : List ℕ) (names : List (List ℕ)) → AllByRecursion (λ y. slice_cmp nat_cmp path y ≡ Less) names → is_among names path ≡ true → ⊥
not_below path [] all there = absurd cc
not_below path (n ∷ names) all there = elim (or_either (bytes_eq n path) (is_among names path) there) [
  | inl here ↦
      let less : slice_cmp nat_cmp path path ≡ Less = subst (λ (y : List ℕ). slice_cmp nat_cmp path y ≡ Less) (same_bytes n path here) all.0 in
      let same : bytes_eq path path ≡ true = bytes_same path path refl in
      let not : bytes_eq path path ≡ false = sym (is_eq-slice_cmp path path) ∙ (rw less refl) in
      true≢false (sym same ∙ not)
  | inr later ↦ not_below path names all.1 later
]

module _ (name : List ℕ) (slot : ℕ) (found : slot_of_path name (manifest_path name slot) ≡ Some slot) where
  no_more : (names : List (List ℕ)) → ((path : List ℕ) → is_among names path ≡ true → slot_of_path name path ≡ None) → manifest_slots name names ≡ []
  no_more [] none = refl
  no_more (path ∷ names) none =
      rw (none path (or_left (bytes_eq path path) (is_among names path) (bytes_same path path refl)))
      (no_more names (λ q there. none q (or_right (bytes_eq path q) (is_among names q) there)))

  pub one_manifest : (names : List (List ℕ)) → IsRising names → ((path : List ℕ) → is_among names path ≡ true → (manifest_path name slot ≡ path) ⊎ (slot_of_path name path ≡ None)) → is_among names (manifest_path name slot) ≡ true
      → manifest_slots name names ≡ slot ∷ []
  one_manifest [] rising each there = absurd cc
  one_manifest (path ∷ names) rising each there =
      elim (each path (or_left (bytes_eq path path) (is_among names path) (bytes_same path path refl))) [
        | inl here ↦
            let below = sorted_head (slice_cmp nat_cmp) path names rising in
            let rest = no_more names (λ q later. elim (each q (or_right (bytes_eq path q) (is_among names q) later)) [
              | inl again ↦ absurd (not_below path names below (subst (λ (p : List ℕ). is_among names p ≡ true) (sym again ∙ here) later))
              | inr none ↦ none
            ]) in
            let first : slot_of_path name path ≡ Some slot = ap (slot_of_path name) (sym here) ∙ found in
            rw (first, rest) refl
        | inr none ↦
            let later : is_among names (manifest_path name slot) ≡ true = elim (or_either (bytes_eq path (manifest_path name slot)) (is_among names (manifest_path name slot)) there) [
              | inl here ↦ let some : None ≡ Some slot = sym none ∙ ap (slot_of_path name) (same_bytes path (manifest_path name slot) here) ∙ found in absurd cc
              | inr later ↦ later
            ] in
            rw none (one_manifest names (sorted_tail (slice_cmp nat_cmp) path names rising) (λ q more. each q (or_right (bytes_eq path q) (is_among names q) more)) later)
      ]

-- ---- nothing is found, where each passes

find_none : {X : Type 0} (p : X → Bool) (xs : List X) → All (λ x. p x ≡ false) xs → find p xs ≡ None
find_none p [] all = refl
find_none p (x ∷ xs) all = rw (All-head (λ x. p x ≡ false) x xs all) (find_none p xs (All-tail (λ x. p x ≡ false) x xs all))

none_found : {X : Type 0} (p : X → Bool) (xs : List X) → find p xs ≡ None → All (λ x. p x ≡ false) xs
none_found p [] none = All-nil (λ x. p x ≡ false)
none_found p (x ∷ xs) none = by (p x) refl none (none_found p xs)
  where
    by : (b : Bool) → p x ≡ b → cond b (Some x) (find p xs) ≡ None → (find p xs ≡ None → All (λ x. p x ≡ false) xs) → All (λ x. p x ≡ false) (x ∷ xs)
    by true is e rest = absurd cc
    by false is e rest = All-cons (λ x. p x ≡ false) x xs is (rest e)

all_none : (p : List ℕ → Bool) (names : List (List ℕ)) → ((path : List ℕ) → is_among names path ≡ true → p path ≡ false) → All (λ x. p x ≡ false) names
all_none p [] each = All-nil (λ x. p x ≡ false)
all_none p (n ∷ names) each =
    All-cons (λ x. p x ≡ false) n names (each n (or_left (bytes_eq n n) (is_among names n) (bytes_same n n refl)))
    (all_none p names (λ q there. each q (or_right (bytes_eq n q) (is_among names q) there)))

each_none : (p : List ℕ → Bool) (names : List (List ℕ)) → All (λ x. p x ≡ false) names → (path : List ℕ) → is_among names path ≡ true → p path ≡ false
each_none p [] all path there = absurd cc
each_none p (n ∷ names) all path there = elim (or_either (bytes_eq n path) (is_among names path) there) [
  | inl here ↦ subst (λ (q : List ℕ). p q ≡ false) (same_bytes n path here) (All-head (λ x. p x ≡ false) n names all)
  | inr later ↦ each_none p names (All-tail (λ x. p x ≡ false) n names all) path later
]

not_false : (b : Bool) → not b ≡ false → b ≡ true
not_false true e = refl
not_false false e = absurd cc

not_true : (b : Bool) → b ≡ true → not b ≡ false
not_true true e = refl
not_true false e = absurd cc

mapped_none : {X Y : Type 0} (f : X → Y) (o : Option X) → option_map f o ≡ None → o ≡ None
mapped_none f None e = refl
mapped_none f (Some x) e = absurd cc

or_none : (a b : Option Flaw) → or_flaw a b ≡ None → (a ≡ None) × (b ≡ None)
or_none None b e = (refl, e)
or_none (Some flaw) b e = absurd cc

-- ---- the flaws, one after another

some_then : (o : Option (List ℕ)) (P : List ℕ → Type 0) → IsSomeAnd o P → (bytes : List ℕ) × (o ≡ Some bytes) × P bytes
some_then None P h = absurd h
some_then (Some bytes) P h = (bytes, refl, h)

no_mismatch : (slot : ℕ) (content : Content) → mismatch slot content ≡ None → slot ≡ content.slot
no_mismatch slot content none = by (eqb slot content.slot) refl none
  where
    by : (b : Bool) → eqb slot content.slot ≡ b → cond b None (Some (SlotMismatch slot content.slot)) ≡ None → slot ≡ content.slot
    by true is e = eqb-true slot content.slot is
    by false is e = absurd cc

none_above : (slot : ℕ) (storages : List FieldStorage) → All (λ s. s.slot ≤ slot) storages → find (λ n. nat_lt slot n) (slots_of storages) ≡ None
none_above slot [] all = refl
none_above slot (s ∷ storages) all =
    rw (le-ltb slot s.slot (All-head (λ (s : FieldStorage). s.slot ≤ slot) s storages all)) (none_above slot storages (All-tail (λ (s : FieldStorage). s.slot ≤ slot) s storages all))

all_within : (slot : ℕ) (storages : List FieldStorage) → All (λ n. nat_lt slot n ≡ false) (slots_of storages) → All (λ s. s.slot ≤ slot) storages
all_within slot [] all = All-nil (λ (s : FieldStorage). s.slot ≤ slot)
all_within slot (s ∷ storages) all =
    All-cons (λ (s : FieldStorage). s.slot ≤ slot) s storages (ltb-false slot s.slot (All-head (λ n. nat_lt slot n ≡ false) s.slot (slots_of storages) all))
    (all_within slot storages (All-tail (λ n. nat_lt slot n ≡ false) s.slot (slots_of storages) all))

all_under : (name : List ℕ) (storages : List FieldStorage) → All (λ path. has_prefix (prefix_of name) path ≡ true) (paths_of name storages)
all_under name [] = All-nil (λ path. has_prefix (prefix_of name) path ≡ true)
all_under name (s ∷ storages) = All-cons (λ path. has_prefix (prefix_of name) path ≡ true) (storage_path name s.slot s.id) (paths_of name storages) (storage_under name s.slot s.id) (all_under name storages)

-- ---- files and their names

module _ (files : Files) (name : List ℕ) (names : List (List ℕ)) (complete : (path : List ℕ) → is_among names path ≡ (is_some (file_of files path) && has_prefix (prefix_of name) path)) where
  listed : (path : List ℕ) → is_some (file_of files path) ≡ true → has_prefix (prefix_of name) path ≡ true → is_among names path ≡ true
  listed path some under = complete path ∙ and_from _ _ some under

  there : (path : List ℕ) → is_among names path ≡ true → (is_some (file_of files path) ≡ true) × (has_prefix (prefix_of name) path ≡ true)
  there path among = and_parts _ _ (sym (complete path) ∙ among)

  all_listed : (paths : List (List ℕ)) → All (λ path. is_some (file_of files path) ≡ true) paths → All (λ path. has_prefix (prefix_of name) path ≡ true) paths → All (λ path. not (is_among names path) ≡ false) paths
  all_listed [] some under = All-nil (λ path. not (is_among names path) ≡ false)
  all_listed (path ∷ paths) some under =
      All-cons (λ path. not (is_among names path) ≡ false) path paths
      (not_true (is_among names path) (listed path (All-head (λ path. is_some (file_of files path) ≡ true) path paths some) (All-head (λ path. has_prefix (prefix_of name) path ≡ true) path paths under)))
      (all_listed paths (All-tail (λ path. is_some (file_of files path) ≡ true) path paths some) (All-tail (λ path. has_prefix (prefix_of name) path ≡ true) path paths under))

  all_there : (paths : List (List ℕ)) → All (λ path. not (is_among names path) ≡ false) paths → All (λ path. is_some (file_of files path) ≡ true) paths
  all_there [] all = All-nil (λ path. is_some (file_of files path) ≡ true)
  all_there (path ∷ paths) all =
      All-cons (λ path. is_some (file_of files path) ≡ true) path paths (there path (not_false (is_among names path) (All-head (λ path. not (is_among names path) ≡ false) path paths all))).0
      (all_there paths (All-tail (λ path. not (is_among names path) ≡ false) path paths all))

  is_bytes : (path bytes : List ℕ) → file_of files path ≡ Some bytes → bytes_at files path ≡ bytes
  is_bytes path bytes e = rw e refl

  -- a form that is held is found
  module _ (rising : IsRising names) (content : Content) (h : HoldsForm files name content) (numbers : NumberTextsAreNumbers) where
    version : (bytes : List ℕ) × (file_of files (version_path name) ≡ Some bytes) × (is_version bytes ≡ true)
    version = some_then (file_of files (version_path name)) (λ bytes. is_version bytes ≡ true) h.version

    manifest : (bytes : List ℕ) × (file_of files (manifest_path name content.slot) ≡ Some bytes) × IsManifest bytes content
    manifest = some_then (file_of files (manifest_path name content.slot)) (λ bytes. IsManifest bytes content) h.manifest

    slot_small : content.slot < 2 ^ 64
    slot_small = let m = manifest.2 in m.slot_fits

    among_known : (path : List ℕ) → is_among names path ≡ true → is_among (known_paths name content) path ≡ true
    among_known path among = let t = there path among in h.known path t.1 t.0

    slots : manifest_slots name names ≡ content.slot ∷ []
    slots =
        one_manifest name content.slot (own_slot numbers name content.slot slot_small) names rising (λ path among. known_slot name content path (among_known path among))
        (let m = manifest in listed (manifest_path name content.slot) (ap is_some m.1) (manifest_under name content.slot))

    slot_is : slot_in name names files ≡ Ok content.slot
    slot_is =
        let v = version in
        let among = listed (version_path name) (ap is_some v.1) (version_under name) in
        let good : is_version (bytes_at files (version_path name)) ≡ true = ap is_version (is_bytes (version_path name) v.0 v.1) ∙ v.2 in
        let one = slots in
        rw (among, good, one) refl

    no_flaw : flaw_in name names content.slot content ≡ None
    no_flaw =
        let none_over : find (λ n. nat_lt content.slot n) (slots_of content.storages) ≡ None = none_above content.slot content.storages h.none_above in
        let none_missing : find (λ path. not (is_among names path)) (paths_of name content.storages) ≡ None = find_none (λ path. not (is_among names path)) (paths_of name content.storages) (all_listed (paths_of name content.storages) h.there (all_under name content.storages)) in
        let none_unknown : find (λ path. not (is_among (known_paths name content) path)) names ≡ None = find_none (λ path. not (is_among (known_paths name content) path)) names (all_none (λ path. not (is_among (known_paths name content) path)) names (λ path among. not_true (is_among (known_paths name content) path) (among_known path among))) in
        rw (eq-eqb content.slot content.slot refl, none_over, none_missing, none_unknown) refl

    pub found_is : (found : Result Found Flaw) → FindsThen name names files (slot_in name names files) found → found ≡ Ok (form_in name content)
    found_is found finds = at (subst (λ (r : Result ℕ Flaw). FindsThen name names files r found) slot_is finds)
      where
        is_manifest : IsManifest (bytes_at files (manifest_path name content.slot)) content
        is_manifest = let m = manifest in subst (λ (b : List ℕ). IsManifest b content) (sym (is_bytes (manifest_path name content.slot) m.0 m.1)) m.2

        at : FindsAt name names content.slot (bytes_at files (manifest_path name content.slot)) found → found ≡ Ok (form_in name content)
        at (unread fault fails is) = let never = sym fails ∙ manifest_there (bytes_at files (manifest_path name content.slot)) content is_manifest in absurd cc
        at (read other manifest_too is) =
            let same : other ≡ content = one_reading (bytes_at files (manifest_path name content.slot)) other content manifest_too is_manifest in
            is ∙ ap (λ (c : Content). unless (flaw_in name names content.slot c) (form_in name c)) same ∙ ap (λ (o : Option Flaw). unless o (form_in name content)) no_flaw

  -- a form that is found is held
  ok_unless : (o : Option Flaw) (form found : Found) → Ok found ≡ unless o form → (o ≡ None) × (found ≡ form)
  ok_unless None form found e = (refl, cc)
  ok_unless (Some flaw) form found e = absurd cc

  held_at : (slot : ℕ) (content : Content) → is_among names (version_path name) ≡ true → is_version (bytes_at files (version_path name)) ≡ true → is_among names (manifest_path name slot) ≡ true
      → IsManifest (bytes_at files (manifest_path name slot)) content → flaw_in name names slot content ≡ None → HoldsForm files name content
  held_at slot content has_version good has_manifest is none =
      let first = or_none (mismatch slot content) _ none in
      let second = or_none (above content) _ first.1 in
      let third = or_none (missing names (paths_of name content.storages)) (unknown (known_paths name content) names) second.1 in
      let same = no_mismatch slot content first.0 in
      record {
        version = some_with (version_path name) (λ bytes. is_version bytes ≡ true) (there (version_path name) has_version).0 good;
        manifest = subst (λ (s : ℕ). IsSomeAnd (file_of files (manifest_path name s)) (λ bytes. IsManifest bytes content)) same
            (some_with (manifest_path name slot) (λ bytes. IsManifest bytes content) (there (manifest_path name slot) has_manifest).0 is);
        none_above = all_within content.slot content.storages (none_found (λ n. nat_lt content.slot n) (slots_of content.storages) (mapped_none (λ slot. SlotAbove slot content.slot) _ second.0));
        there = all_there (paths_of name content.storages) (none_found (λ path. not (is_among names path)) (paths_of name content.storages) (mapped_none NoFile _ third.0));
        known = λ path under some.
            not_false (is_among (known_paths name content) path)
            (each_none (λ path. not (is_among (known_paths name content) path)) names (none_found (λ path. not (is_among (known_paths name content) path)) names (mapped_none UnknownFile _ third.1)) path (listed path some under));
      }
    where
      some_with : (path : List ℕ) (P : List ℕ → Type 0) → is_some (file_of files path) ≡ true → P (bytes_at files path) → IsSomeAnd (file_of files path) P
      some_with path P some p = by (file_of files path) refl some p
        where
          by : (o : Option (List ℕ)) → file_of files path ≡ o → is_some o ≡ true → P (bytes_at files path) → IsSomeAnd o P
          by None is none p = absurd cc
          by (Some bytes) is some p = subst P (is_bytes path bytes is) p

  one_is : (slots : List ℕ) (slot : ℕ) → one_slot slots ≡ Ok slot → slots ≡ slot ∷ []
  one_is [] slot e = absurd cc
  one_is (x ∷ []) slot e = cc
  one_is (x ∷ y ∷ more) slot e = absurd cc

  slot_found : (slot : ℕ) → slot_in name names files ≡ Ok slot → (is_among names (version_path name) ≡ true) × (is_version (bytes_at files (version_path name)) ≡ true) × (is_among names (manifest_path name slot) ≡ true)
  slot_found slot e = by (is_among names (version_path name)) (is_version (bytes_at files (version_path name))) refl refl e
    where
      by : (a b : Bool) → is_among names (version_path name) ≡ a → is_version (bytes_at files (version_path name)) ≡ b → cond a (cond b (one_slot (manifest_slots name names)) (Err BadVersion)) (Err NoVersion) ≡ Ok slot
          → (is_among names (version_path name) ≡ true) × (is_version (bytes_at files (version_path name)) ≡ true) × (is_among names (manifest_path name slot) ≡ true)
      by false b p q e = absurd cc
      by true false p q e = absurd cc
      by true true p q e = (p, q, first_listed name names slot [] (one_is (manifest_slots name names) slot e))

  pub holds : (found : Found) → FindsThen name names files (slot_in name names files) (Ok found) → (content : Content) × HoldsForm files name content × (found ≡ form_in name content)
  holds found finds = by (slot_in name names files) refl finds
    where
      at : (slot : ℕ) → slot_in name names files ≡ Ok slot → FindsAt name names slot (bytes_at files (manifest_path name slot)) (Ok found) → (content : Content) × HoldsForm files name content × (found ≡ form_in name content)
      at slot is (unread fault fails never) = absurd cc
      at slot is (read content manifest e) =
          let s = slot_found slot is in
          let o = ok_unless (flaw_in name names slot content) (form_in name content) found e in
          (content, held_at slot content s.0 s.1 s.2 manifest o.0, o.1)

      by : (r : Result ℕ Flaw) → slot_in name names files ≡ r → FindsThen name names files r (Ok found) → (content : Content) × HoldsForm files name content × (found ≡ form_in name content)
      by (Err flaw) is never = absurd cc
      by (Ok slot) is finds = at slot is finds

-- a form is in order where its storages rise and none is above its slot
pub in_order : (name : List ℕ) (slot : ℕ) (content : Content) (found : Found) → IsStrictlyIncreasing (slots_of content.storages) → Ok true ≡ unless (or_flaw (mismatch slot content) (above content)) true → found ≡ form_in name content → IsInOrder found
in_order name slot content found rise passes is = subst IsInOrder (sym is) (record {
  rise = subst (λ (l : List ℕ). IsStrictlyIncreasing l) (sym (fused (λ (f : NamedFile). f.slot) (file_for name) content.storages)) rise;
  upto = All-map (λ (f : NamedFile). f.slot ≤ content.slot) (file_for name) content.storages
      (all_within content.slot content.storages (none_found (λ n. nat_lt content.slot n) (slots_of content.storages) (mapped_none (λ slot. SlotAbove slot content.slot) _ (or_none (mismatch slot content) (above content) (none_is _ passes)).1)));
})

-- files hold one form
pub one_form : NumberTextsAreNumbers → (files : Files) (name : List ℕ) (content other : Content) → HoldsForm files name content → HoldsForm files name other → content ≡ other
one_form numbers files name content other h more =
    let m = some_then (file_of files (manifest_path name content.slot)) (λ bytes. IsManifest bytes content) h.manifest in
    let own = own_slot numbers name content.slot (let is = m.2 in is.slot_fits) in
    elim (known_slot name other (manifest_path name content.slot) (more.known (manifest_path name content.slot) (manifest_under name content.slot) (ap is_some m.1))) [
      | inl same ↦
          let there : file_of files (manifest_path name other.slot) ≡ Some m.0 = ap (file_of files) same ∙ m.1 in
          one_reading m.0 content other m.2 (subst (λ (o : Option (List ℕ)). IsSomeAnd o (λ bytes. IsManifest bytes other)) there more.manifest)
      | inr none ↦ let never : None ≡ Some content.slot = sym none ∙ own in absurd cc
    ]
