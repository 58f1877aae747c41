-- The rows that are written so far, and where they stand.
use Rattle.std.proofs.Common.{◌≡◌, ℕ, suc, ◌+◌, ◌<◌, ◌≤◌, List, [], ◌∷◌, ◌++◌, length, take, drop, get_or, map, sum_by, Bool, true, false, cond, eqb, Option, Some, refl, sym, ap, subst, ◌∙◌, arith, append_assoc, length-append}
use Rattle.std.specs.Global.{Global}
use Rattle.std.specs.List.{AllByRecursion}
use Rattle.std.specs.List.Sorted.{IsPermutation}
use Rattle.std.specs.Option.{option_map}
use Rattle.std.specs.declared.sync.Arc.{Arc}
use Rattle.std.proofs.Math.Seq.{take-suc, take-append_seam}
use Rattle.std.proofs.lemmas.Bool.{eq-eqb, ne_eqb}
use Rattle.std.proofs.lemmas.Grind.{flat_map-append}
use Rattle.std.proofs.lemmas.List.{append-nil, length-take, map-append}
use Rattle.std.proofs.lemmas.List.Sorted.{IsPermutation-refl}
use Rattle.std.proofs.lemmas.List.Sums.{sum_by-cons, sum_by-append, sum_by_more_le}
use Rattle.adb_model.specs.Account as machine
use Rattle.adb_model.specs.State.{Row}
use Rattle.adb_model.specs.declared.key.Key.{Key}
use Rattle.account_layout.specs.Written.{written_record}
use Rattle.vec_scan.specs.Image.{Image, Placed}
use Rattle.vec_scan.specs.Seal.{offsets_of, row_at, rows_in, row_there}
use Rattle.vec_scan.specs.Written.{IsWritableRow, IsWritten, written_image, written_rows}
use Rattle.append_vec.specs.Filled.{row_of, rows_of, total_size, Fills, InOrder}

abbrev Given : Type 0
Given = Key × Arc machine.Account Global

-- ---- sizes

total_by_size : (xs : List Given) → total_size (rows_of xs) ≡ sum_by (λ a. machine.size a.1.value) xs
total_by_size [] = refl
total_by_size (x ∷ xs) =
    sum_by-cons (λ (r : Row). machine.size r.account) (row_of x) (rows_of xs)
    ∙ ap (λ (n : ℕ). machine.size x.1.value + n) (total_by_size xs) ∙ sym (sum_by-cons (λ (a : Given). machine.size a.1.value) x xs)

-- the next record has room
pub room : (xs : List Given) (i : ℕ) (x : Given) → i < length xs → x ≡ get_or xs i x → total_size (rows_of (take i xs)) + machine.size x.1.value ≤ total_size (rows_of xs)
room xs i x lt is =
    let most = sum_by_more_le (λ (a : Given). machine.size a.1.value) xs i x lt in
    let here : machine.size x.1.value ≡ machine.size (get_or xs i x).1.value = ap (λ (a : Given). machine.size a.1.value) is in
    omega (arith, total_by_size (take i xs), total_by_size xs)

-- ---- one more row

pub one_more : (xs : List Given) (i : ℕ) (x : Given) → i < length xs → x ≡ get_or xs i x → rows_of (take (i + 1) xs) ≡ rows_of (take i xs) ++ (row_of x ∷ [])
one_more xs i x lt is =
    let next : i + 1 ≡ suc i = omega arith in
    ap (λ (n : ℕ). rows_of (take n xs)) next
    ∙ ap rows_of (take-suc xs i x lt)
    ∙ map-append row_of (take i xs) (get_or xs i x ∷ [])
    ∙ ap (λ (a : Given). rows_of (take i xs) ++ (row_of a ∷ [])) (sym is)

pub total-one_more : (rows : List Row) (row : Row) → total_size (rows ++ (row ∷ [])) ≡ total_size rows + machine.size row.account
total-one_more rows row =
    omega (arith, sum_by-append (λ (r : Row). machine.size r.account) rows (row ∷ []), sum_by-cons (λ (r : Row). machine.size r.account) row [])

all-one_more : (rows : List Row) (row : Row) → AllByRecursion IsWritableRow rows → IsWritableRow row → AllByRecursion IsWritableRow (rows ++ (row ∷ []))
all-one_more [] row all this = (this, tt)
all-one_more (r ∷ rows) row all this = (all.0, all-one_more rows row all.1 this)

offsets-one_more : (start : ℕ) (rows : List Row) (row : Row) → offsets_of (written_rows start (rows ++ (row ∷ []))) ≡ offsets_of (written_rows start rows) ++ ((start + total_size rows) ∷ [])
offsets-one_more start [] row = let here : start ≡ start + 0 = omega arith in ap (λ (n : ℕ). n ∷ []) here
offsets-one_more start (r ∷ rows) row =
    let place : start + machine.size r.account + total_size rows ≡ start + total_size (r ∷ rows) = omega (arith, sum_by-cons (λ (r : Row). machine.size r.account) r rows) in
    ap (λ (os : List ℕ). start ∷ os)
    (offsets-one_more (start + machine.size r.account) rows row
    ∙ ap (λ (n : ℕ). offsets_of (written_rows (start + machine.size r.account) rows) ++ (n ∷ [])) place)

-- a record behind the written ones
pub written-one_more : (rows : List Row) (row : Row) (front places : List ℕ) (at : ℕ) → at ≡ total_size rows → IsWritten rows front places → IsWritableRow row
    → IsWritten (rows ++ (row ∷ [])) (front ++ written_record row.key row.account) (places ++ (at ∷ []))
written-one_more rows row front places at is w this = record {
  writable = all-one_more rows row w.writable this;
  bytes_are =
      (λ i. w.bytes_are i ++ written_record row.key row.account)
      ∙ ap (λ (xs : List ℕ). written_image rows ++ xs) (sym (append-nil (written_record row.key row.account)))
      ∙ sym (flat_map-append (λ (r : Row). written_record r.key r.account) rows (row ∷ []));
  offsets_are =
      let from : total_size rows ≡ 0 + total_size rows = omega arith in
      (λ i. w.offsets_are i ++ ((is ∙ from) i ∷ [])) ∙ sym (offsets-one_more 0 rows row);
}

pub same_written : (rows rows' : List Row) (bytes bytes' places places' : List ℕ) → rows ≡ rows' → bytes ≡ bytes' → places ≡ places' → IsWritten rows bytes places → IsWritten rows' bytes' places'
same_written rows rows' bytes bytes' places places' r b p w =
    subst (λ (rs : List Row). IsWritten rs bytes' places') r
    (subst (λ (bs : List ℕ). IsWritten rows bs places') b (subst (λ (ps : List ℕ). IsWritten rows bytes ps) p w))

-- what was written in the middle ends the front
pub front_of : (xs mid rest : List ℕ) (at n : ℕ) → at ≤ length xs → length mid ≡ n → take (at + n) (take at xs ++ (mid ++ rest)) ≡ take at xs ++ mid
front_of xs mid rest at n le is =
    let front : length (take at xs ++ mid) ≡ at + n = length-append (take at xs) mid ∙ omega (arith, length-take at xs) in
    ap (λ (ys : List ℕ). take (at + n) ys) (sym (append_assoc (take at xs) mid rest))
    ∙ ap (λ (k : ℕ). take k ((take at xs ++ mid) ++ rest)) (sym front) ∙ take-append_seam (take at xs ++ mid) rest

-- what a slice of a whole list was changed to
pub whole_back : (new old : List ℕ) (n : ℕ) → length new ≡ n → take n (new ++ drop (length new) old) ≡ new
whole_back new old n is = ap (λ (k : ℕ). take k (new ++ drop (length new) old)) (sym is) ∙ take-append_seam new (drop (length new) old)

-- ---- places

some_cond : (b : Bool) (p : Placed) (o : Option Placed) → b ≡ true → option_map (λ (p : Placed). p.row) (cond b (Some p) o) ≡ Some p.row
some_cond b p o is = rw is refl

-- a row further on isn't the first
skip : (p : Placed) (all : List Placed) (start : ℕ) (rows : List Row) → p.offset < start → map (row_there (p ∷ all)) (offsets_of (written_rows start rows)) ≡ map (row_there all) (offsets_of (written_rows start rows))
skip p all start [] lt = refl
skip p all start (r ∷ rows) lt =
    let other : eqb p.offset start ≡ false = ne_eqb p.offset start (λ e. omega arith) in
    (λ i. option_map (λ (q : Placed). q.row) (cond (other i) (Some p) (row_at all start)) ∷ skip p all (start + machine.size r.account) rows (omega arith) i)

-- each written row is found at its place
pub found : (start : ℕ) (rows : List Row) → map (row_there (written_rows start rows)) (offsets_of (written_rows start rows)) ≡ map (λ r. Some r) rows
found start [] = refl
found start (r ∷ rows) =
    let p : Placed = record { offset = start; row = r } in
    let rest = written_rows (start + machine.size r.account) rows in
    let later = skip p rest (start + machine.size r.account) rows (omega arith) ∙ found (start + machine.size r.account) rows in
    (λ i. some_cond (eqb start start) p (row_at rest start) (eq-eqb start start refl) i ∷ later i)

rows-written_rows : (start : ℕ) (rows : List Row) → map (λ (p : Placed). p.row) (written_rows start rows) ≡ rows
rows-written_rows start [] = refl
rows-written_rows start (r ∷ rows) = ap (λ (rs : List Row). r ∷ rs) (rows-written_rows (start + machine.size r.account) rows)

-- ---- the whole image

pub fills : (slot id : ℕ) (rows : List Row) (image : Image) (bytes places : List ℕ) → IsWritten rows bytes places → image ≡ record { slot = slot; id = id; bytes = bytes; rows = written_rows 0 rows } → Fills slot id rows image places
fills slot id rows image bytes places w is =
    let same : rows_in image ≡ rows = ap rows_in is ∙ rows-written_rows 0 rows in
    let placed : image.rows ≡ written_rows 0 rows = ap (λ (m : Image). m.rows) is in
    record {
      slot_is = ap (λ (m : Image). m.slot) is;
      id_is = ap (λ (m : Image). m.id) is;
      each_once = subst (λ (rs : List Row). IsPermutation rows rs) (sym same) (IsPermutation-refl rows);
      bytes_are = ap (λ (m : Image). m.bytes) is ∙ w.bytes_are ∙ ap written_image (sym same);
      rows_are = placed ∙ ap (λ (rs : List Row). written_rows 0 rs) (sym same);
      at_places = (λ i. map (row_there (placed i)) (w.offsets_are i)) ∙ found 0 rows;
    }

pub in_order : (slot id : ℕ) (rows : List Row) (image : Image) (bytes places : List ℕ) → IsWritten rows bytes places → image ≡ record { slot = slot; id = id; bytes = bytes; rows = written_rows 0 rows } → InOrder rows image places
in_order slot id rows image bytes places w is = record {
  rows_are = ap rows_in is ∙ rows-written_rows 0 rows;
  places_are = w.offsets_are ∙ ap (λ (m : Image). offsets_of m.rows) (sym is);
}
