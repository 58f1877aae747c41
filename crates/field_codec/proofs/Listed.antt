-- Names of files, and what is looked for among them.
use Rattle.std.proofs.Common.{◌≡◌, ℕ, zero, suc, ◌+◌, ◌<◌, ◌≤◌, List, [], ◌∷◌, ◌++◌, length, map, take, get_or, find, not, Bool, true, false, cond, ◌||◌, Option, Some, None, option_map, Ok, Err, refl, sym, ap, subst, ◌∙◌, inl, inr, arith, string_bytes}
use Rattle.std.specs.List.{list_any, filter_map}
use Rattle.std.specs.Str.{bytes_eq}
use Rattle.std.specs.declared.string.String.{String}
use Rattle.std.proofs.lemmas.Bool.{cases_Bool}
use Rattle.std.proofs.lemmas.Grind.{common_steps}
use Rattle.std.proofs.lemmas.List.Elements.{filter_map-append}
use Rattle.std.proofs.lemmas.List.Folds.{list_any_at}
use Rattle.dir_io.specs.Files.{is_among, texts}
use Rattle.field_codec.specs.Paths.{if_manifest, manifest_path, manifest_slots, slot_of_path}
use Rattle.field_codec.specs.Forms.{Flaw, NamedFile, file_for, known_with, paths_of, unless}
use Rattle.field_codec.specs.FormFaults.{file_seen}
use Rattle.field_codec.specs.declared.fields.FieldStorage.{FieldStorage}
use Rattle.field_codec.specs.declared.form.FormFile.{FormFile}
use Rattle.std.proofs.lemmas.List.{map-append}
use Rattle.text_fields.specs.Numbers.{number_of}
use Rattle.field_codec.specs.Paths.{last_digits}

-- ---- lists under a view

pub any_through : {X Y : Type 0} (p : Y → Bool) (f : X → Y) (xs : List X) → list_any p (map f xs) ≡ list_any (λ x. p (f x)) xs
any_through p f [] = refl
any_through p f (x ∷ xs) = ap (λ (b : Bool). p (f x) || b) (any_through p f xs)

pub find_through : {X Y : Type 0} (p : Y → Bool) (f : X → Y) (xs : List X) → find p (map f xs) ≡ option_map f (find (λ x. p (f x)) xs)
find_through p f [] = refl
find_through p f (x ∷ xs) = elim (cases_Bool (p (f x))) [
  | inl holds ↦ rw holds refl
  | inr fails ↦ rw fails (find_through p f xs)
]

pub find_alike : {X : Type 0} (p q : X → Bool) (xs : List X) → ((x : X) → p x ≡ q x) → find p xs ≡ find q xs
find_alike p q [] same = refl
find_alike p q (x ∷ xs) same = elim (cases_Bool (q x)) [
  | inl holds ↦ let too : p x ≡ true = same x ∙ holds in rw (holds, too) refl
  | inr fails ↦ let too : p x ≡ false = same x ∙ fails in rw (fails, too) (find_alike p q xs same)
]

-- the first that passes, after those before it failed
pub first_there : {X : Type 0} (p : X → Bool) (xs : List X) (i : ℕ) (x : X) → i < length xs → x ≡ get_or xs i x → find p (take i xs) ≡ None → p x ≡ true → Some x ≡ find p xs
first_there p [] i x lt here none passes = absurd (omega arith)
first_there p (y ∷ xs) zero x lt here none passes = let same : x ≡ y = here in rw (sym same, passes) refl
first_there p (y ∷ xs) (suc i) x lt here none passes = elim (cases_Bool (p y)) [
  | inl holds ↦ let some : Some y ≡ None = rw holds at none in absurd cc
  | inr fails ↦ rw fails (first_there p xs i x (omega arith) here (rw fails at none) passes)
]

-- one more that fails
pub none_more : {X : Type 0} (p : X → Bool) (xs : List X) (i : ℕ) (x : X) → i < length xs → x ≡ get_or xs i x → find p (take i xs) ≡ None → p x ≡ false → find p (take (i + 1) xs) ≡ None
none_more p [] i x lt here none fails = absurd (omega arith)
none_more p (y ∷ xs) zero x lt here none fails = let other : p y ≡ false = ap p (sym here) ∙ fails in rw other refl
none_more p (y ∷ xs) (suc i) x lt here none fails = elim (cases_Bool (p y)) [
  | inl holds ↦ let some : Some y ≡ None = rw holds at none in absurd cc
  | inr other ↦ let on : suc i + 1 ≡ suc (i + 1) = omega arith in rw (on, other) (none_more p xs i x (omega arith) here (rw other at none) fails)
]

pub map_more : {X Y : Type 0} (f : X → Y) (xs : List X) (i : ℕ) (d : X) → i < length xs → map f (take (i + 1) xs) ≡ map f (take i xs) ++ f (get_or xs i d) ∷ []
map_more f xs i d lt = grind (arith, common_steps)

-- one more of them, which is known
pub map_next : {X Y : Type 0} (f : X → Y) (xs : List X) (i : ℕ) (x : X) (y : Y) (before : List Y) → i < length xs → x ≡ get_or xs i x → y ≡ f x → before ≡ map f (take i xs) → before ++ y ∷ [] ≡ map f (take (i + 1) xs)
map_next f xs i x y before lt here is h =
    ap (λ (l : List _). l ++ y ∷ []) h ∙ ap (λ (z : _). map f (take i xs) ++ z ∷ []) (is ∙ ap f here) ∙ sym (map_more f xs i x lt)

-- ---- the first that lies outside of a set

module _ {X : Type 0} (path : X → List ℕ) (flaw : List ℕ → Flaw) (among has : List ℕ → Bool) (xs : List X) (same : (q : List ℕ) → has q ≡ among q) where
  outside : find (λ p. not (among p)) (map path xs) ≡ option_map path (find (λ x. not (has (path x))) xs)
  outside = find_through (λ p. not (among p)) path xs ∙ ap (option_map path) (find_alike (λ x. not (among (path x))) (λ x. not (has (path x))) xs (λ x. ap not (sym (same (path x)))))

  whole : (o : Option X) → o ≡ find (λ x. not (has (path x))) xs → unless (option_map flaw (option_map path o)) true ≡ unless (option_map flaw (find (λ p. not (among p)) (map path xs))) true
  whole o is = ap (λ (q : Option (List ℕ)). unless (option_map flaw q) true) (ap (option_map path) is ∙ sym outside)

  pub outside_some : (x : X) (text : List ℕ) → Some x ≡ find (λ x. not (has (path x))) xs → text ≡ path x → Err (flaw text) ≡ unless (option_map flaw (find (λ p. not (among p)) (map path xs))) true
  outside_some x text is named = ap (λ (t : List ℕ). Err (flaw t)) named ∙ whole (Some x) is

  pub outside_none : None ≡ find (λ x. not (has (path x))) xs → Ok true ≡ unless (option_map flaw (find (λ p. not (among p)) (map path xs))) true
  outside_none is = whole None is

-- ---- names in a set

any_more : {A : Type 0} (es : List (String A)) (q : List ℕ) (i : ℕ) (d : String A) → i < length es → list_any (λ n. bytes_eq (string_bytes n) q) (take (i + 1) es) ≡ (list_any (λ n. bytes_eq (string_bytes n) q) (take i es) || bytes_eq (string_bytes (get_or es i d)) q)
any_more es q i d lt = grind (arith, common_steps)

or_cond : (b before : Bool) → cond b true before ≡ (before || b)
or_cond true true = refl
or_cond true false = refl
or_cond false true = refl
or_cond false false = refl

pub one_more_in : {A : Type 0} (es : List (String A)) (q : List ℕ) (i : ℕ) (n : String A) (key : List ℕ) (before : Bool) → i < length es → n ≡ get_or es i n → key ≡ string_bytes n → before ≡ list_any (λ n. bytes_eq (string_bytes n) q) (take i es) → cond (bytes_eq key q) true before ≡ list_any (λ n. bytes_eq (string_bytes n) q) (take (i + 1) es)
one_more_in es q i n key before lt here named h =
    let k : key ≡ string_bytes (get_or es i n) = named ∙ ap string_bytes here in
    ap (λ (t : List ℕ). cond (bytes_eq t q) true before) k ∙ or_cond (bytes_eq (string_bytes (get_or es i n)) q) before
    ∙ ap (λ (b : Bool). b || bytes_eq (string_bytes (get_or es i n)) q) h ∙ sym (any_more es q i n lt)

pub there : {A : Type 0} (es : List (String A)) (q : List ℕ) (i : ℕ) (n : String A) → i < length es → n ≡ get_or es i n → bytes_eq (string_bytes n) q ≡ true → true ≡ is_among (texts es) q
there es q i n lt here same =
    sym (any_through (λ k. bytes_eq k q) string_bytes es ∙ list_any_at (λ n. bytes_eq (string_bytes n) q) es i n lt (ap (λ (s : String _). bytes_eq (string_bytes s) q) (sym here) ∙ same))

pub all_in : {A : Type 0} (es : List (String A)) (q : List ℕ) (i : ℕ) (has : Bool) → length es ≤ i → has ≡ list_any (λ n. bytes_eq (string_bytes n) q) (take i es) → has ≡ is_among (texts es) q
all_in es q i has past h =
    let all : take i es ≡ es = grind (arith, common_steps) in
    h ∙ ap (list_any (λ n. bytes_eq (string_bytes n) q)) all ∙ sym (any_through (λ k. bytes_eq k q) string_bytes es)

-- ---- the manifests among names

kept_one : (name path : List ℕ) (slot : ℕ) → Some slot ≡ slot_of_path name path → filter_map (slot_of_path name) (path ∷ []) ≡ slot ∷ []
kept_one name path slot is = rw (sym is) refl

left_out : (name path : List ℕ) → None ≡ slot_of_path name path → filter_map (slot_of_path name) (path ∷ []) ≡ []
left_out name path is = rw (sym is) refl

slots_more : {A : Type 0} (name : List ℕ) (es : List (String A)) (i : ℕ) (e : String A) → i < length es → e ≡ get_or es i e → manifest_slots name (texts (take (i + 1) es)) ≡ manifest_slots name (texts (take i es)) ++ filter_map (slot_of_path name) (string_bytes e ∷ [])
slots_more name es i e lt here =
    ap (filter_map (slot_of_path name)) (map_more string_bytes es i e lt ∙ ap (λ (s : String _). texts (take i es) ++ string_bytes s ∷ []) (sym here))
    ∙ filter_map-append (slot_of_path name) (texts (take i es)) (string_bytes e ∷ [])

pub slots_some : {A : Type 0} (name : List ℕ) (es : List (String A)) (i : ℕ) (e : String A) (slot : ℕ) (before : List ℕ) → i < length es → e ≡ get_or es i e → before ≡ manifest_slots name (texts (take i es)) → Some slot ≡ slot_of_path name (string_bytes e) → before ++ slot ∷ [] ≡ manifest_slots name (texts (take (i + 1) es))
slots_some name es i e slot before lt here h is = rw (slots_more name es i e lt here, kept_one name (string_bytes e) slot is, h) refl

pub slots_none : {A : Type 0} (name : List ℕ) (es : List (String A)) (i : ℕ) (e : String A) (before : List ℕ) → i < length es → e ≡ get_or es i e → before ≡ manifest_slots name (texts (take i es)) → None ≡ slot_of_path name (string_bytes e) → before ≡ manifest_slots name (texts (take (i + 1) es))
slots_none name es i e before lt here h is = h ∙ sym (slots_more name es i e lt here ∙ ap (λ (l : List ℕ). manifest_slots name (texts (take i es)) ++ l) (left_out name (string_bytes e) is) ∙ (grind (arith, common_steps)))

is_manifest : (name path : List ℕ) (o : Option ℕ) (slot : ℕ) → if_manifest name path o ≡ Some slot → bytes_eq path (manifest_path name slot) ≡ true
is_manifest name path None slot e = absurd cc
is_manifest name path (Some other) slot e = elim (cases_Bool (bytes_eq path (manifest_path name other))) [
  | inl holds ↦ let same : other ≡ slot = cc (rw holds at e) in subst (λ (n : ℕ). bytes_eq path (manifest_path name n) ≡ true) same holds
  | inr fails ↦ let none : None ≡ Some slot = rw fails at e in absurd cc
]

-- a path with a manifest's slot is the name of its file
pub path_is : (name path : List ℕ) (slot : ℕ) → slot_of_path name path ≡ Some slot → bytes_eq path (manifest_path name slot) ≡ true
unfolding slot_of_path
path_is name path slot e = is_manifest name path (number_of (last_digits path)) slot e

or_right : (a b : Bool) → b ≡ true → (a || b) ≡ true
or_right true b e = refl
or_right false b e = e

-- the first manifest is among the names
pub first_listed : (name : List ℕ) (names : List (List ℕ)) (slot : ℕ) (rest : List ℕ) → manifest_slots name names ≡ slot ∷ rest → is_among names (manifest_path name slot) ≡ true
first_listed name [] slot rest e = absurd cc
first_listed name (path ∷ names) slot rest e = elim (slot_of_path name path) as (λ o. slot_of_path name path ≡ o → is_among (path ∷ names) (manifest_path name slot) ≡ true) [
  | None ↦ λ is. or_right _ _ (first_listed name names slot rest (rw is at e))
  | Some other ↦ λ is. let same : other ≡ slot = cc (rw is at e) in let here : bytes_eq path (manifest_path name slot) ≡ true = path_is name path slot (is ∙ ap (λ (n : ℕ). Some n) same) in rw here refl
] refl

pub one_of_them : (name : List ℕ) (names : List (List ℕ)) (slots : List ℕ) → 1 ≤ length slots → slots ≡ manifest_slots name names → is_among names (manifest_path name (get_or slots 0 0)) ≡ true
one_of_them name names [] some is = absurd (omega arith)
one_of_them name names (slot ∷ rest) some is = first_listed name names slot rest (sym is)

-- ---- the files of storages

pub fused : {X Y Z : Type 0} (f : Y → Z) (g : X → Y) (xs : List X) → map f (map g xs) ≡ map (λ x. f (g x)) xs
fused f g [] = refl
fused f g (x ∷ xs) = ap (λ (l : List _). f (g x) ∷ l) (fused f g xs)

-- the files have the names of the storages' files
pub paths_same : (name : List ℕ) (files : List FormFile) (storages : List FieldStorage) → map file_seen files ≡ map (file_for name) storages → map (λ f. string_bytes f.name) files ≡ paths_of name storages
paths_same name files storages same =
    sym (fused (λ (f : NamedFile). f.path) file_seen files) ∙ ap (map (λ (f : NamedFile). f.path)) same ∙ fused (λ (f : NamedFile). f.path) (file_for name) storages

-- one more file
pub file_next : (name : List ℕ) (storages : List FieldStorage) (i : ℕ) (d : FieldStorage) (files more : List FormFile) (file : FormFile) → i < length storages → file_seen file ≡ file_for name (get_or storages i d) → map file_seen files ≡ map (file_for name) (take i storages) → more ≡ files ++ file ∷ [] → map file_seen more ≡ map (file_for name) (take (i + 1) storages)
file_next name storages i d files more file lt is h added =
    ap (map file_seen) added ∙ map-append file_seen files (file ∷ []) ∙ ap (λ (l : List NamedFile). l ++ file_seen file ∷ []) h ∙ ap (λ (f : NamedFile). map (file_for name) (take i storages) ++ f ∷ []) is ∙ sym (map_more (file_for name) storages i d lt)

-- one more name of a file
pub known_next : {A : Type 0} (name : List ℕ) (slot : ℕ) (files : List FormFile) (i : ℕ) (file : FormFile) (paths more : List (String A)) (text : String A) → i < length files → file ≡ get_or files i file → string_bytes text ≡ string_bytes file.name → texts paths ≡ known_with name slot (map (λ f. string_bytes f.name) (take i files)) → more ≡ paths ++ text ∷ [] → texts more ≡ known_with name slot (map (λ f. string_bytes f.name) (take (i + 1) files))
known_next name slot files i file paths more text lt here is h added =
    ap texts added ∙ map-append string_bytes paths (text ∷ []) ∙ ap (λ (l : List (List ℕ)). l ++ string_bytes text ∷ []) h
    ∙ ap (known_with name slot) (map_next (λ f. string_bytes f.name) files i file (string_bytes text) (map (λ f. string_bytes f.name) (take i files)) lt here is refl)
