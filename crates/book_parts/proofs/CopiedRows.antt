-- The rows of an image that the index finds are those that a shrink copies.
use Rattle.std.proofs.Common.{◌≡◌, ℕ, suc, ◌<◌, List, [], ◌∷◌, map, filter, eqb, Bool, true, false, cond, not, ◌&&◌, ◌||◌, All, AllPairs, Option, Some, None, is_some, option_map, refl, sym, ap, ◌∙◌, subst, IsTrue, inl, inr, arith}
use Rattle.std.specs.List.Sorted.{IsStrictlyIncreasing}
use Rattle.std.specs.Option.{option_map_or, option_and_then}
use Rattle.std.proofs.lemmas.Bool.{and_parts, cases_Bool, eqb-true, eq-eqb, true≢false, false_from_ne_true}
use Rattle.std.proofs.lemmas.List.{get_or-map, length-map}
use Rattle.std.proofs.lemmas.List.Elements.{All-head, All-tail}
use Rattle.std.proofs.lemmas.List.Kept.{AllPairs-from_increasing}
use Rattle.std.proofs.lemmas.Slice.Eq.{bytes_eq-Decides}
use Rattle.slot_list.specs.declared.Version.{Version}
use Rattle.slot_list.specs.declared.Place.{Place}
use Rattle.slot_list.specs.declared.Place.TheVariants.{Cached, Stored}
use Rattle.slot_list.specs.Versions.{at}
use Rattle.accounts_index.specs.Index.{kept, is_stored}
use Rattle.vec_scan.specs.Image.{Placed}
use Rattle.vec_scan.specs.Seal.{row_at, row_there, rows_in, offsets_of}
use Rattle.cell_table.specs.Phases.{has_id, value_of}
use Rattle.cell_table.specs.Cells.{cell_at}
use Rattle.adb_model.specs.Lists.{among}
use Rattle.adb_model.specs.Account.{Account}
use Rattle.adb_model.specs.State.{Row, Storage, State}
use Rattle.adb_model.specs.Presence.{has_store, has_row, is_cached, is_named}
use Rattle.adb_model.specs.Storages.{live_storage}
use Rattle.adb_model.specs.Shrink.{shrink_rows}
use Rattle.adb_model.specs.Laws.{SameRows}
use Rattle.adb_model.specs.Sound.{IsSoundMidway, last_account, last_row}
use Rattle.book_parts.specs.Parts.{Parts, Shared}
use Rattle.book_parts.specs.Cells.{IsImageOf, row_in}
use Rattle.book_parts.specs.Reflects.{Reflects, indexed, found_of}
use Rattle.book_parts.specs.Storages.{IsPlacedAt}
use Rattle.book_parts.specs.Shrinks.{is_at, is_found_there, is_dead, copied_rows, dead_rows}
use Rattle.book_parts.proofs.Found.{some_is, none_some}
use Rattle.book_parts.proofs.SameRows.{has, Differ, key_is, same_keys, none_filtered, one_row}
use Rattle.book_parts.proofs.StoredVersions.{and_not, present_is, named_is}

-- what the machine copies of the slot's storage
pub record Copies (m : State) (slot : ℕ) (old : Storage) : Type 0 where
  pub keys : (k : List ℕ) → has_row k (shrink_rows m old) ≡ is_named m slot k
  pub differ : AllPairs Differ (shrink_rows m old)
  pub last : (k : List ℕ) → IsTrue (is_named m slot k) → last_row k (shrink_rows m old) ≡ last_account m slot k
  pub flushed : IsTrue (among slot m.flushed)

-- ---- rows of an image

abbrev row_of : Placed → Row
row_of placed = placed.row

abbrev pub Below : Placed → Placed → Type 0
Below a b = a.offset < b.offset

-- the rows of a key among those that pass
filter_mapped : (p : Placed → Bool) (k : List ℕ) (xs : List Placed) → filter (has k) (map row_of (filter p xs)) ≡ map row_of (filter (λ x. p x && has k x.row) xs)
filter_mapped p k [] = refl
filter_mapped p k (x ∷ xs) = by (p x) (has k x.row) refl refl (filter_mapped p k xs)
  where
    by : (a b : Bool) → p x ≡ a → has k x.row ≡ b → filter (has k) (map row_of (filter p xs)) ≡ map row_of (filter (λ y. p y && has k y.row) xs)
        → filter (has k) (map row_of (cond (p x) (x ∷ filter p xs) (filter p xs))) ≡ map row_of (cond (p x && has k x.row) (x ∷ filter (λ y. p y && has k y.row) xs) (filter (λ y. p y && has k y.row) xs))
    by true true e f rest = rw (e, f) (ap (λ (rs : List Row). x.row ∷ rs) rest)
    by true false e f rest = rw (e, f) rest
    by false b e f rest = rw e rest

none_pass : {X : Type 0} (q : X → Bool) (xs : List X) → ((x : X) → q x ≡ false) → filter q xs ≡ []
none_pass q [] none = refl
none_pass q (x ∷ xs) none = ap (λ b. cond b (x ∷ filter q xs) (filter q xs)) (none x) ∙ none_pass q xs none

pub pairs_head : (x : Placed) (xs : List Placed) → AllPairs Below (x ∷ xs) → All (Below x) xs
pairs_head x xs pairs k d lt = pairs 0 (suc k) d (omega arith) (omega (arith, lt))

pub pairs_tail : (x : Placed) (xs : List Placed) → AllPairs Below (x ∷ xs) → AllPairs Below xs
pairs_tail x xs pairs i j d lt within = pairs (suc i) (suc j) d (omega (arith, lt)) (omega (arith, within))

-- offsets that rise are those of records below one another
pub rise_below : (xs : List Placed) → IsStrictlyIncreasing (offsets_of xs) → AllPairs Below xs
rise_below xs rise i j d lt within =
    let pairs = AllPairs-from_increasing (offsets_of xs) rise in
    let at_i = get_or-map (λ (x : Placed). x.offset) xs i d 0 (omega (arith, lt, within)) in
    let at_j = get_or-map (λ (x : Placed). x.offset) xs j d 0 within in
    let both = pairs i j 0 lt (omega (arith, within, length-map xs (λ (x : Placed). x.offset))) in
    omega (arith, both, at_i, at_j)

-- a test that only records at one place pass
module _ (q : Placed → Bool) (offset : ℕ) (only : (x : Placed) → q x ≡ true → x.offset ≡ offset) where
  none_later : (xs : List Placed) → All (λ x. offset < x.offset) xs → filter q xs ≡ []
  none_later [] above = refl
  none_later (x ∷ xs) above =
      let first : offset < x.offset = All-head (λ (y : Placed). offset < y.offset) x xs above in
      ap (λ b. cond b (x ∷ filter q xs) (filter q xs)) (false_from_ne_true (q x) (λ t. let same = only x t in absurd (omega (arith, first, same))))
      ∙ none_later xs (All-tail (λ (y : Placed). offset < y.offset) x xs above)

  -- is passed by the one that is found there
  found_only : (xs : List Placed) (y : Placed) → AllPairs Below xs → row_at xs offset ≡ Some y → q y ≡ true → filter q xs ≡ y ∷ []
  found_only [] y below e t = absurd (none_some e)
  found_only (x ∷ xs) y below e t = by (eqb x.offset offset) refl e (found_only xs y (pairs_tail x xs below))
    where
      by : (b : Bool) → eqb x.offset offset ≡ b → cond b (Some x) (row_at xs offset) ≡ Some y → (row_at xs offset ≡ Some y → q y ≡ true → filter q xs ≡ y ∷ []) → filter q (x ∷ xs) ≡ y ∷ []
      by true h e rest =
          let same : x ≡ y = some_is e in
          let none = none_later xs (subst (λ (o : ℕ). All (λ (z : Placed). o < z.offset) xs) (eqb-true x.offset offset h) (pairs_head x xs below)) in
          ap (λ b. cond b (x ∷ filter q xs) (filter q xs)) (ap q same ∙ t) ∙ ap (λ (z : Placed). z ∷ filter q xs) same ∙ ap (λ (zs : List Placed). y ∷ zs) none
      by false h e rest =
          ap (λ b. cond b (x ∷ filter q xs) (filter q xs)) (false_from_ne_true (q x) (λ s. true≢false (sym (eq-eqb x.offset offset (only x s)) ∙ h)))
          ∙ rest e t

placed_of : (xs : List Placed) (offset : ℕ) (row : Row) → row_there xs offset ≡ Some row → (y : Placed) × (row_at xs offset ≡ Some y) × (y.row ≡ row) × (y.offset ≡ offset)
placed_of [] offset row e = absurd (none_some e)
placed_of (x ∷ xs) offset row e = by (eqb x.offset offset) refl e (placed_of xs offset row)
  where
    by : (b : Bool) → eqb x.offset offset ≡ b → option_map row_of (cond b (Some x) (row_at xs offset)) ≡ Some row
        → (row_there xs offset ≡ Some row → (y : Placed) × (row_at xs offset ≡ Some y) × (y.row ≡ row) × (y.offset ≡ offset))
        → (y : Placed) × (cond b (Some x) (row_at xs offset) ≡ Some y) × (y.row ≡ row) × (y.offset ≡ offset)
    by true h e rest = (x, refl, some_is e, eqb-true x.offset offset h)
    by false h e rest = rest e

-- a test that is one for all rows of a key
any_of_key : (p : Placed → Bool) (k : List ℕ) (b : Bool) → ((x : Placed) → has k x.row ≡ true → p x ≡ b) → (xs : List Placed)
    → has_row k (map row_of (filter p xs)) ≡ (b && has_row k (map row_of xs))
any_of_key p k b same [] = sym (and_false b)
  where
    and_false : (c : Bool) → (c && false) ≡ false
    and_false true = refl
    and_false false = refl
any_of_key p k b same (x ∷ xs) = by (p x) (has k x.row) refl refl (any_of_key p k b same xs)
  where
    rest_of : Bool
    rest_of = has_row k (map row_of xs)

    by : (a h : Bool) → p x ≡ a → has k x.row ≡ h → has_row k (map row_of (filter p xs)) ≡ (b && has_row k (map row_of xs))
        → has_row k (map row_of (cond (p x) (x ∷ filter p xs) (filter p xs))) ≡ (b && (has k x.row || has_row k (map row_of xs)))
    by true true e f rest = rw (e, f) (ap (λ c. c && true) (sym e ∙ same x f))
    by false true e f rest = let is : false ≡ b = sym e ∙ same x f in rw (e, f) (rest ∙ ap (λ c. c && has_row k (map row_of xs)) (sym is) ∙ ap (λ c. c && true) is)
    by true false e f rest = rw (e, f) rest
    by false false e f rest = rw (e, f) rest

-- ---- of the slot's storage in use

is_at-parts : (cell offset c o : ℕ) → is_at cell offset (Stored c o) ≡ true → (c ≡ cell) × (o ≡ offset)
is_at-parts cell offset c o e = let both = and_parts (eqb c cell) (eqb o offset) e in (eqb-true c cell both.0, eqb-true o offset both.1)

place_is : (o : Option Version) → option_map_or (λ v. is_stored v.place) o false ≡ true → (tomb : Bool) × (c : ℕ) × (offset : ℕ) × (option_map found_of o ≡ Some (tomb, Stored c offset)) × (option_map_or (λ v. is_at c offset v.place) o false ≡ true)
    × ((cell there : ℕ) → option_map_or (λ v. is_at cell there v.place) o false ≡ true → (c ≡ cell) × (offset ≡ there))
place_is None e = absurd (true≢false (sym e))
place_is (Some v) e = by v.place refl e
  where
    by : (place : Place) → v.place ≡ place → is_stored place ≡ true → (tomb : Bool) × (c : ℕ) × (offset : ℕ) × (option_map found_of (Some v) ≡ Some (tomb, Stored c offset)) × (is_at c offset v.place ≡ true)
        × ((cell there : ℕ) → is_at cell there v.place ≡ true → (c ≡ cell) × (offset ≡ there))
    by Cached f e = absurd (true≢false (sym e))
    by (Stored c o) f e = (
      v.tomb,
      c,
      o,
      ap (λ (x : Place). some_with x) f,
      ap (is_at c o) f ∙ ap (λ b. b && eqb o o) (eq-eqb c c refl) ∙ eq-eqb o o refl,
      (λ cell there t. is_at-parts cell there c o (sym (ap (is_at cell there) f) ∙ t)),
    )
      where
        some_with : Place → Option (Bool × Place)
        some_with x = Some (v.tomb, x)

none_at : (o : Option Version) (cell there : ℕ) → option_map_or (λ v. is_stored v.place) o false ≡ false → option_map_or (λ v. is_at cell there v.place) o false ≡ false
none_at None cell there e = refl
none_at (Some v) cell there e = by v.place e
  where
    by : (place : Place) → is_stored place ≡ false → is_at cell there place ≡ false
    by Cached e = refl
    by (Stored c o) e = absurd (true≢false e)

commute : (a b : Bool) → (not a && b) ≡ (b && not a)
commute true true = refl
commute true false = refl
commute false true = refl
commute false false = refl

module _ (p : Parts) (m : State) (slot from : ℕ) (image : Shared) (old : Storage) (h : IsSoundMidway m) (r : Reflects p m) (live : live_storage m slot ≡ Some old)
    (there : has_id old.id (cell_at p.cells.cells from) ≡ true) (value : value_of (cell_at p.cells.cells from) ≡ Some image)
    (rise : IsStrictlyIncreasing (offsets_of image.value.rows)) (d : Copies m slot old) where
  abbrev xs : List Placed
  xs = image.value.rows

  abbrev copied : List Row
  copied = copied_rows p.index slot from image.value

  abbrev version_of : List ℕ → Option Version
  version_of k = at slot (kept p.index k).versions

  abbrev passes : List ℕ → Placed → Bool
  passes k x = is_found_there p.index slot from x && has k x.row

  -- a row of the key is found where the key's version is
  found_is : (k : List ℕ) (x : Placed) → has k x.row ≡ true → is_found_there p.index slot from x ≡ option_map_or (λ v. is_at from x.offset v.place) (version_of k) false
  found_is k x e = ap (λ q. option_map_or (λ (v : Version). is_at from x.offset v.place) (version_of q) false) (key_is x.row k e)

  row_found : (k : List ℕ) (c offset : ℕ) (account : Account) → is_named m slot k ≡ true → c ≡ from
      → (y : Placed) × (row_at xs offset ≡ Some y) × (y.row ≡ record { key = k; account = account }) × (y.offset ≡ offset) → last_account m slot k ≡ Some account
      → option_map_or (λ v. is_at c offset v.place) (version_of k) false ≡ true
      → ((cell there : ℕ) → option_map_or (λ v. is_at cell there v.place) (version_of k) false ≡ true → (c ≡ cell) × (offset ≡ there))
      → filter (has k) copied ≡ filter (has k) (shrink_rows m old)
  row_found k c offset account named cell y last at_place only =
      let has_key : has k y.0.row ≡ true = ap (has k) y.2 ∙ (bytes_eq-Decides k k).1 refl in
      let found_here : is_found_there p.index slot from y.0 ≡ true =
      found_is k y.0 has_key ∙ ap (λ o. option_map_or (λ (v : Version). is_at from o v.place) (version_of k) false) y.3
      ∙ ap (λ i. option_map_or (λ (v : Version). is_at i offset v.place) (version_of k) false) (sym cell) ∙ at_place
      in
      let one = found_only (passes k) offset
      (λ x t.
      let both = and_parts (is_found_there p.index slot from x) (has k x.row) t in
      sym (only from x.offset (sym (found_is k x both.1) ∙ both.0)).1) xs y.0 (rise_below xs rise) y.1 (ap (λ b. b && has k y.0.row) found_here ∙ has_key)
      in
      filter_mapped (is_found_there p.index slot from) k xs ∙ ap (map row_of) one ∙ ap (λ (q : Row). q ∷ []) y.2
      ∙ sym (one_row k (shrink_rows m old) account d.differ (d.last k named ∙ last))

  row_at_place : (k : List ℕ) (tomb : Bool) (c offset : ℕ) → is_named m slot k ≡ true → indexed p.index slot k ≡ Some (tomb, Stored c offset)
      → option_map_or (λ v. is_at c offset v.place) (version_of k) false ≡ true
      → ((cell there : ℕ) → option_map_or (λ v. is_at cell there v.place) (version_of k) false ≡ true → (c ≡ cell) × (offset ≡ there))
      → filter (has k) copied ≡ filter (has k) (shrink_rows m old)
  row_at_place k tomb c offset named found at_place only =
      let stands : IsPlacedAt m p.cells.cells slot k c offset = r.placed k slot tomb c offset found in
      let same : stands.storage ≡ old = some_is (sym stands.live ∙ live) in
      let cell : c ≡ from = r.cells.apart c from old.id (ap (λ (t : Storage). has_id t.id (cell_at p.cells.cells c)) (sym same) ∙ stands.there) there in
      let row : row_there xs offset ≡ Some (record { key = k; account = stands.account }) =
      ap (option_and_then (λ (i : Shared). row_there i.value.rows offset)) (sym value) ∙ ap (λ i. row_in (cell_at p.cells.cells i) offset) (sym cell) ∙ stands.row
      in
      row_found k c offset stands.account named cell (placed_of xs offset (record { key = k; account = stands.account }) row) stands.last at_place only

  row_named : (k : List ℕ) → is_named m slot k ≡ true → filter (has k) copied ≡ filter (has k) (shrink_rows m old)
  row_named k named =
      let place = place_is (version_of k) (sym (named_is p m r h slot k) ∙ named) in
      row_at_place k place.0 place.1 place.2 named place.3 place.4 place.5

  none_named : (k : List ℕ) → is_named m slot k ≡ false → filter (has k) copied ≡ filter (has k) (shrink_rows m old)
  none_named k unnamed =
      let unstored = sym (named_is p m r h slot k) ∙ unnamed in
      filter_mapped (is_found_there p.index slot from) k xs
      ∙ ap (map row_of) (none_pass (passes k) xs (λ x. fails x (has k x.row) refl unstored))
      ∙ sym (none_filtered k (shrink_rows m old) (d.keys k ∙ unnamed))
    where
      fails : (x : Placed) (b : Bool) → has k x.row ≡ b → option_map_or (λ v. is_stored v.place) (version_of k) false ≡ false → passes k x ≡ false
      fails x true e f = ap (λ c. c && has k x.row) (found_is k x e ∙ none_at (version_of k) from x.offset f)
      fails x false e f = ap (λ c. is_found_there p.index slot from x && c) e ∙ and_false (is_found_there p.index slot from x)
        where
          and_false : (c : Bool) → (c && false) ≡ false
          and_false true = refl
          and_false false = refl

  pub same_copied : SameRows copied (shrink_rows m old)
  same_copied k = elim (cases_Bool (is_named m slot k)) [ inl named ↦ row_named k named | inr unnamed ↦ none_named k unnamed ]

  pub left_out : IsImageOf old image.value → (k : List ℕ) → has_row k (dead_rows p.index slot image.value) ≡ (has_row k old.rows && not (has_row k copied))
  left_out of_image k =
      let uncached : is_cached m slot k ≡ false = and_not (has_store m slot k) (among slot m.flushed) d.flushed in
      let some : is_some (version_of k) ≡ is_named m slot k = sym (present_is p m r slot k) ∙ ap (λ b. b || is_named m slot k) uncached in
      any_of_key (is_dead p.index slot) k (not (is_some (version_of k))) (λ x e. ap (λ q. not (is_some (version_of q))) (key_is x.row k e)) xs
      ∙ ap (λ b. not b && has_row k (rows_in image.value)) (some ∙ sym (same_keys copied (shrink_rows m old) k same_copied ∙ d.keys k))
      ∙ commute (has_row k copied) (has_row k (rows_in image.value))
      ∙ ap (λ b. b && not (has_row k copied)) (same_keys (rows_in image.value) old.rows k of_image.rows)
