-- Snapshots of different names stand apart.
use Rattle.std.proofs.Common.{◌≡◌, ◌≢◌, ℕ, Bool, true, false, ◌&&◌, List, [], ◌∷◌, ◌++◌, append_assoc, length, drop, take, map, eqb, leb, ltb, not, Option, Some, None, is_some, All, refl, sym, ap, subst, ◌∙◌, arith}
use Rattle.std.specs.Prelude.{codes, IsSomeAnd, slice_index}
use Rattle.std.specs.List.{AllByRecursion, list_all}
use Rattle.std.proofs.lemmas.Bool.{eqb-true, eq-eqb}
use Rattle.std.proofs.lemmas.Slice.Eq.{starts_is}
use Rattle.std.proofs.lemmas.List.Elements.{All-from_recursion, recursion_from_All}
use Rattle.adb_model.specs.Opened as machine
use Rattle.dir_io.specs.Files.{Files, file_of, has_prefix, is_among}
use Rattle.field_codec.specs.declared.fields.FieldStorage.{FieldStorage}
use Rattle.field_codec.specs.Forms.{HoldsForm, is_version, known_paths, paths_of}
use Rattle.field_codec.specs.Manifest.{Content, IsManifest}
use Rattle.field_codec.specs.Paths.{prefix_of, version_path, manifest_path, storage_path}
use Rattle.text_fields.specs.Names.{is_name, is_name_char}
use Rattle.snap_write.specs.Changes.{HasSome}
use Rattle.snap_write.specs.Snapshot.{AreLaid, HasRows, HoldsSnapshot, IsLaid}

-- ---- a snapshot depends on the files under its name alone

module _ (name : List ℕ) (old new : Files) (same : (path : List ℕ) → has_prefix (prefix_of name) path ≡ true → file_of new path ≡ file_of old path)
    (storage : (slot id : ℕ) → has_prefix (prefix_of name) (storage_path name slot id) ≡ true) where
  -- what holds of an old file holds of the new one
  file_kept : (path : List ℕ) (P : List ℕ → Type 0) → has_prefix (prefix_of name) path ≡ true → IsSomeAnd (file_of old path) P → IsSomeAnd (file_of new path) P
  file_kept path P under h = subst (λ (o : Option (List ℕ)). IsSomeAnd o P) (sym (same path under)) h

  all_there : (storages : List FieldStorage) → AllByRecursion (λ path. is_some (file_of old path) ≡ true) (paths_of name storages)
      → AllByRecursion (λ path. is_some (file_of new path) ≡ true) (paths_of name storages)
  all_there [] h = tt
  all_there (s ∷ storages) h = (ap (λ (o : Option (List ℕ)). is_some o) (same (storage_path name s.slot s.id) (storage s.slot s.id)) ∙ h.0, all_there storages h.1)

  laid_kept : (storages : List FieldStorage) (laid : List machine.Image) → AreLaid old name storages laid → AreLaid new name storages laid
  laid_kept [] [] h = h
  laid_kept [] (image ∷ laid) h = h
  laid_kept (s ∷ storages) [] h = h
  laid_kept (s ∷ storages) (image ∷ laid) h =
      (record { slot = h.0.slot; bytes = h.0.bytes; rows = file_kept (storage_path name s.slot s.id) (HasRows s.len image) (storage s.slot s.id) h.0.rows }, laid_kept storages laid h.1)

  pub snapshot_kept : ((n : List ℕ) → has_prefix (prefix_of n) (version_path n) ≡ true) → ((n : List ℕ) (slot : ℕ) → has_prefix (prefix_of n) (manifest_path n slot) ≡ true)
      → (slot : ℕ) (images : List machine.Image) (more : List ℕ) → HoldsSnapshot old name slot images more → HoldsSnapshot new name slot images more
  snapshot_kept version manifest slot images more h = record {
    content = h.content;
    form = record {
      version = file_kept (version_path name) (λ bytes. is_version bytes ≡ true) (version name) h.form.version;
      manifest = file_kept (manifest_path name h.content.slot) (λ bytes. IsManifest bytes h.content) (manifest name h.content.slot) h.form.manifest;
      none_above = h.form.none_above;
      there = All-from_recursion (λ path. is_some (file_of new path) ≡ true) (paths_of name h.content.storages)
          (all_there h.content.storages (recursion_from_All (λ path. is_some (file_of old path) ≡ true) (paths_of name h.content.storages) h.form.there));
      known = λ path under some. h.form.known path under (sym (ap (λ (o : Option (List ℕ)). is_some o) (same path under)) ∙ some);
    };
    slot_is = h.slot_is;
    laid = h.laid;
    are_laid = laid_kept h.content.storages h.laid h.are_laid;
    images_are = h.images_are;
    more_are = h.more_are;
  }

-- ---- a path is under one name

abbrev AreNameChars : List ℕ → Type 0
AreNameChars word = list_all (λ c. is_name_char c) word ≡ true

and_last : (a b : Bool) → (a && b) ≡ true → b ≡ true
and_last true b e = e
and_last false b e = absurd cc

and_first : (a b : Bool) → (a && b) ≡ true → a ≡ true
and_first true b e = refl
and_first false b e = absurd cc

chars_of : (name : List ℕ) → is_name name ≡ true → AreNameChars name
chars_of name is =
    let chars = list_all (λ c. is_name_char c) name in
    let first = not (eqb (slice_index name 0) 45) in
    let short = leb (length name) 64 in
    and_last first chars (and_last short (first && chars) (and_last (ltb 0 (length name)) (short && (first && chars)) is))

tail_same : (x y : ℕ) (xs ys : List ℕ) → x ∷ xs ≡ y ∷ ys → xs ≡ ys
tail_same x y xs ys e = cc

head_same : (x y : ℕ) (xs ys : List ℕ) → x ∷ xs ≡ y ∷ ys → x ≡ y
head_same x y xs ys e = cc

no_slash : (c : ℕ) → c ≡ 47 → is_name_char c ≡ true → ⊥
no_slash c e is = let no : false ≡ true = subst (λ (d : ℕ). is_name_char d ≡ true) e is in absurd cc

-- two words before a slash are one
one_before_slash : (a b r q : List ℕ) → AreNameChars a → AreNameChars b → a ++ 47 ∷ r ≡ b ++ 47 ∷ q → a ≡ b
one_before_slash [] [] r q f g e = refl
one_before_slash [] (y ∷ b) r q f g e = absurd (no_slash y (sym (head_same 47 y r (b ++ 47 ∷ q) e)) (and_first (is_name_char y) (list_all (λ c. is_name_char c) b) g))
one_before_slash (x ∷ a) [] r q f g e = absurd (no_slash x (head_same x 47 (a ++ 47 ∷ r) q e) (and_first (is_name_char x) (list_all (λ c. is_name_char c) a) f))
one_before_slash (x ∷ a) (y ∷ b) r q f g e =
    let rest = one_before_slash a b r q (and_last (is_name_char x) (list_all (λ c. is_name_char c) a) f) (and_last (is_name_char y) (list_all (λ c. is_name_char c) b) g) (tail_same x y (a ++ 47 ∷ r) (b ++ 47 ∷ q) e) in
    ap (λ (c : ℕ). c ∷ a) (head_same x y (a ++ 47 ∷ r) (b ++ 47 ∷ q) e) ∙ ap (λ (l : List ℕ). y ∷ l) rest

same_number : (a b : ℕ) → (eqb a b ≡ true → a ≡ b) × (a ≡ b → eqb a b ≡ true)
same_number a b = (eqb-true a b, eq-eqb a b)

-- what follows the prefix
under : (name path : List ℕ) → has_prefix (prefix_of name) path ≡ true → (rest : List ℕ) × (path ≡ name ++ 47 ∷ rest)
unfolding prefix_of
under name path is =
    let prefix : List ℕ = name ++ codes "/" in
    (drop (length prefix) path, (starts_is same_number path prefix true (sym is)).0 refl ∙ append_assoc name (codes "/") (drop (length prefix) path))

pub one_name : (name other path : List ℕ) → is_name name ≡ true → is_name other ≡ true → has_prefix (prefix_of name) path ≡ true → has_prefix (prefix_of other) path ≡ true → name ≡ other
one_name name other path is is' pre pre' =
    let a = under name path pre in
    let b = under other path pre' in
    one_before_slash name other a.0 b.0 (chars_of name is) (chars_of other is') (sym a.1 ∙ b.1)

-- ---- a snapshot has a file

pub has_version : (files : Files) (name : List ℕ) → has_prefix (prefix_of name) (version_path name) ≡ true → (slot : ℕ) (images : List machine.Image) (more : List ℕ) → HoldsSnapshot files name slot images more → HasSome (prefix_of name) files
has_version files name under slot images more h = (version_path name, under, some (file_of files (version_path name)) h.form.version)
  where
    some : (o : Option (List ℕ)) → IsSomeAnd o (λ bytes. is_version bytes ≡ true) → is_some o ≡ true
    some (Some bytes) h = refl
    some None h = absurd h
