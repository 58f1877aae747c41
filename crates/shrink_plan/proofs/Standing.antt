-- Rows that stand at places of an image.
use Rattle.std.proofs.Common.{◌≡◌, ℕ, zero, suc, ◌<◌, List, [], ◌∷◌, length, get_or, map, filter, eqb, Bool, true, cond, All, AllPairs, Option, Some, None, option_map, IsSome, refl, sym, ap, subst, ◌∙◌, inl, inr, ◌⊎◌, arith}
use Rattle.std.specs.List.{filter_map}
use Rattle.std.specs.List.Sorted.{IsStrictlyIncreasing}
use Rattle.std.proofs.lemmas.Bool.{and_parts, eqb-true, eq-eqb, ne_eqb, false≢true}
use Rattle.std.proofs.lemmas.List.{get_or-map, length-map}
use Rattle.std.proofs.lemmas.List.Elements.{All-filter, filter_passes, All-tail}
use Rattle.std.proofs.lemmas.List.Kept.{AllPairs-filter, AllPairs-from_increasing}
use Rattle.slot_list.specs.declared.Version.{Version}
use Rattle.slot_list.specs.declared.Place.{Place}
use Rattle.slot_list.specs.declared.Place.TheVariants.{Cached, Stored}
use Rattle.slot_list.specs.Versions.{at}
use Rattle.accounts_index.specs.Index.{Index, kept}
use Rattle.adb_model.specs.State.{Row}
use Rattle.append_vec.specs.Filled.{KeysDiffer}
use Rattle.vec_scan.specs.Image.{Image, Placed}
use Rattle.vec_scan.specs.Seal.{row_at, row_there, offsets_of}
use Rattle.book_parts.specs.Shrinks.{is_at, is_found_there}
use Rattle.shrink_plan.specs.Places.{StandAt, rows_at, AreRows}
use Rattle.shrink_plan.specs.Sources.{is_found_at}
use Rattle.shrink_plan.proofs.Facts.{some_same, pairs_head, pairs_tail}

abbrev row_of : Placed → Row
row_of placed = placed.row

-- ---- what is found at each of some places

told : {A B : Type 0} (f : A → Option B) (xs : List A) (ys : List B) → map f xs ≡ map Some ys → filter_map f xs ≡ ys
told f [] [] e = refl
told f [] (y ∷ ys) e = absurd (cc e)
told f (x ∷ xs) [] e = absurd (cc e)
told f (x ∷ xs) (y ∷ ys) e =
    let first : f x ≡ Some y = cc e in
    let rest : map f xs ≡ map Some ys = cc e in
    rw first (ap (λ zs. y ∷ zs) (told f xs ys rest))

pub rows_are : (image : Image) (places : List ℕ) (rows : List Row) → StandAt image places rows → rows_at image places ≡ rows
rows_are image places rows stand = told (row_there image.rows) places rows stand

pub are_rows : (image : Image) (places : List ℕ) (rows : List Row) → StandAt image places rows → AreRows image places
are_rows image places rows stand = subst (StandAt image places) (sym (rows_are image places rows stand)) stand

pub as_many : (image : Image) (places : List ℕ) (rows : List Row) → StandAt image places rows → length places ≡ length rows
as_many image places rows stand =
    sym (length-map places (row_there image.rows)) ∙ ap length stand ∙ length-map rows Some

-- the row at one of the places
pub row_found : (image : Image) (places : List ℕ) (rows : List Row) (i e : ℕ) (d : Row) → StandAt image places rows → i < length places
    → row_there image.rows (get_or places i e) ≡ Some (get_or rows i d)
row_found image places rows i e d stand lt =
    let within : i < length rows = omega (arith, lt, as_many image places rows stand) in
    sym (get_or-map (row_there image.rows) places i e (Some d) lt)
    ∙ ap (λ (os : List (Option Row)). get_or os i (Some d)) stand
    ∙ get_or-map Some rows i d (Some d) within

some_of : (o : Option Placed) (row : Row) → option_map row_of o ≡ Some row → IsSome o
some_of None row e = absurd (cc e)
some_of (Some p) row e = refl

-- a row stands there
pub some_row : (image : Image) (places : List ℕ) (i e : ℕ) → AreRows image places → i < length places → IsSome (row_at image.rows (get_or places i e))
some_row image places i e are lt = elim (cases_rows (rows_at image places)) [
  | inl none ↦ absurd (omega (arith, lt, as_many image places (rows_at image places) are, ap length none))
  | inr some ↦ some_of (row_at image.rows (get_or places i e)) (get_or (rows_at image places) i some.0) (row_found image places (rows_at image places) i e some.0 are lt)
]
  where
    cases_rows : (rows : List Row) → (rows ≡ []) ⊎ (Row × Unit {0})
    cases_rows [] = inl refl
    cases_rows (r ∷ rows) = inr (r, tt)

-- it is the one that is read there
pub row_read : (image : Image) (places : List ℕ) (i place : ℕ) (p : Placed) → AreRows image places → i < length places → ((e : ℕ) → place ≡ get_or places i e) → row_at image.rows place ≡ Some p
    → p.row ≡ get_or (rows_at image places) i p.row
row_read image places i place p are lt is read =
    some_same (
    sym (ap (λ (o : Option Placed). option_map row_of o) read)
    ∙ ap (row_there image.rows) (is place)
    ∙ row_found image places (rows_at image places) i place p.row are lt
    )

-- ---- some rows of an image stand at their own places

abbrev pub Below : Placed → Placed → Type 0
Below a b = a.offset < b.offset

-- offsets that rise are those of records below one another
pub rise_below : (xs : List Placed) → IsStrictlyIncreasing (offsets_of xs) → AllPairs Below xs
rise_below xs rise i j d lt within =
    let pairs = AllPairs-from_increasing (offsets_of xs) rise in
    let at_i = get_or-map (λ (x : Placed). x.offset) xs i d 0 (omega (arith, lt, within)) in
    let at_j = get_or-map (λ (x : Placed). x.offset) xs j d 0 within in
    let both = pairs i j 0 lt (omega (arith, within, length-map xs (λ (x : Placed). x.offset))) in
    omega (arith, both, at_i, at_j)

pub stand_there : (all : List Placed) → AllPairs Below all → All (λ p. row_at all p.offset ≡ Some p) all
stand_there [] below i d lt = absurd (omega (arith, lt))
stand_there (x ∷ xs) below zero d lt = ap (λ b. cond b (Some x) (row_at xs x.offset)) (eq-eqb x.offset x.offset refl)
stand_there (x ∷ xs) below (suc i) d lt =
    let p = get_or xs i d in
    let within : i < length xs = omega (arith, lt) in
    let apart = pairs_head Below x xs below i d within in
    ap (λ b. cond b (Some x) (row_at xs p.offset)) (ne_eqb x.offset p.offset (λ e. omega (arith, e, apart)))
    ∙ stand_there xs (pairs_tail Below x xs below) i d within

each_there : (all ps : List Placed) → All (λ p. row_at all p.offset ≡ Some p) ps → map (row_there all) (offsets_of ps) ≡ map Some (map row_of ps)
each_there all [] there = refl
each_there all (p ∷ ps) there =
    let first : row_there all p.offset ≡ Some p.row = ap (λ (o : Option Placed). option_map row_of o) (there 0 p (omega arith)) in
    rw first (ap (λ (rs : List (Option Row)). Some p.row ∷ rs) (each_there all ps (All-tail (λ (q : Placed). row_at all q.offset ≡ Some q) p ps there)))

kept_stand : (test : Placed → Bool) (all : List Placed) → AllPairs Below all → map (row_there all) (offsets_of (filter test all)) ≡ map Some (map row_of (filter test all))
kept_stand test all below = each_there all (filter test all) (All-filter test (λ (p : Placed). row_at all p.offset ≡ Some p) all (stand_there all below))

-- the places of those that pass a test
pub pass_stand : (image : Image) (test : Placed → Bool) (done : List Placed) (places : List ℕ) → IsStrictlyIncreasing (offsets_of image.rows) → done ≡ image.rows → places ≡ offsets_of (filter test done)
    → StandAt image places (map row_of (filter test image.rows))
pass_stand image test done places rise all are =
    let same : places ≡ offsets_of (filter test image.rows) = are ∙ ap (λ (ps : List Placed). offsets_of (filter test ps)) all in
    subst (λ (os : List ℕ). StandAt image os (map row_of (filter test image.rows))) (sym same) (kept_stand test image.rows (rise_below image.rows rise))

-- ---- a version is found at one place alone

found_once : (cell a b : ℕ) (version : Option Version) → is_found_at cell a version ≡ true → is_found_at cell b version ≡ true → a ≡ b
found_once cell a b None e f = absurd (false≢true e)
found_once cell a b (Some v) e f = by v.place e f
  where
    by : (place : Place) → is_at cell a place ≡ true → is_at cell b place ≡ true → a ≡ b
    by Cached e f = absurd (false≢true e)
    by (Stored c o) e f = sym (eqb-true o a (and_parts (eqb c cell) (eqb o a) e).1) ∙ eqb-true o b (and_parts (eqb c cell) (eqb o b) f).1

pub found_differ : (index : Index) (slot cell : ℕ) (all : List Placed) → AllPairs Below all → KeysDiffer (map row_of (filter (is_found_there index slot cell) all))
found_differ index slot cell all below i j d lt within same =
    let ps = filter (is_found_there index slot cell) all in
    let e : Placed = record { offset = 0; row = d } in
    let inside : j < length ps = omega (arith, within, length-map ps row_of) in
    let before : i < length ps = omega (arith, lt, inside) in
    let a = get_or ps i e in
    let b = get_or ps j e in
    let key_a : (get_or (map row_of ps) i d).key ≡ a.row.key = ap (λ (r : Row). r.key) (get_or-map row_of ps i e d before) in
    let key_b : (get_or (map row_of ps) j d).key ≡ b.row.key = ap (λ (r : Row). r.key) (get_or-map row_of ps j e d inside) in
    let keys : a.row.key ≡ b.row.key = sym key_a ∙ same ∙ key_b in
    let passes = filter_passes (is_found_there index slot cell) all in
    let there_a : is_found_at cell a.offset (at slot (kept index a.row.key).versions) ≡ true = passes i e before in
    let there_b : is_found_at cell b.offset (at slot (kept index b.row.key).versions) ≡ true = passes j e inside in
    let one = found_once cell a.offset b.offset (at slot (kept index a.row.key).versions) there_a
    (ap (λ k. is_found_at cell b.offset (at slot (kept index k).versions)) keys ∙ there_b) in
    let below_b : a.offset < b.offset = AllPairs-filter Below (is_found_there index slot cell) all below i j e lt inside in
    omega (arith, one, below_b)
