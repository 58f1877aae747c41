-- Rows that are found elsewhere, or held no longer, one after another.
use Rattle.std.proofs.Common.{◌≡◌, ◌≢◌, ℕ, zero, suc, ◌+◌, ◌<◌, List, [], ◌∷◌, ◌++◌, length, get_or, take, Bool, true, false, cond, eqb, not, ◌&&◌, ◌||◌, Option, Some, None, option_map, refl, sym, ap, ◌∙◌, inl, inr, arith}
use Rattle.std.specs.Str.{bytes_eq}
use Rattle.std.specs.Global.{Global}
use Rattle.std.specs.declared.sync.Arc.{Arc}
use Rattle.std.proofs.lemmas.Bool.{cases_Bool}
use Rattle.std.proofs.lemmas.List.{take_more, length-take, map-append}
use Rattle.slot_list.specs.declared.Place.{Place}
use Rattle.slot_list.specs.declared.Place.TheVariants.{Stored}
use Rattle.slot_list.specs.Versions.{at, without_slot}
use Rattle.accounts_index.specs.Index.{Index, kept, IsWith}
use Rattle.adb_model.specs.Account.{Account}
use Rattle.adb_model.specs.Lists.{among}
use Rattle.adb_model.specs.declared.key.Key.{Key}
use Rattle.adb_model.specs.State.{Row}
use Rattle.adb_model.specs.Presence.{has_row}
use Rattle.append_vec.specs.Filled.{KeysDiffer, row_of, rows_of}
use Rattle.book_parts.specs.Flushes.{is_in, place_of, moved}
use Rattle.book_parts.specs.Reclaims.{Unholds}
use Rattle.book_parts.specs.Reflects.{found_of, indexed}
use Rattle.book_parts.specs.Shrinks.{Rehomes}
use Rattle.shrink_plan.specs.Moving.{FindsAt, at_place}
use Rattle.shrink_plan.proofs.Facts.{same_bytes}
use Rattle.shrink_plan.proofs.Edits.{turns, stays, among_without, Rehomed}

abbrev Given : Type 0
Given = Key × Arc Account Global

-- ---- the first rows of a list

row_next : (all : List Row) (i : ℕ) (r : Row) → i < length all → r ≡ get_or all i r → take (i + 1) all ≡ take i all ++ r ∷ []
row_next all i r lt is = take_more all i r lt ∙ ap (λ (q : Row). take i all ++ q ∷ []) (sym is)

-- an account for one row more
pub rows_more : (accounts : List Given) (x : Given) (all : List Row) (i : ℕ) (r : Row) → i < length all → r ≡ get_or all i r → row_of x ≡ r → rows_of accounts ≡ take i all
    → rows_of (accounts ++ x ∷ []) ≡ take (i + 1) all
rows_more accounts x all i r lt is row so_far =
    map-append row_of accounts (x ∷ []) ∙ ap (λ (rs : List Row). rs ++ row_of x ∷ []) so_far ∙ ap (λ (q : Row). take i all ++ q ∷ []) row ∙ sym (row_next all i r lt is)

has_more : (rows : List Row) (r : Row) (k : List ℕ) → has_row k (rows ++ r ∷ []) ≡ (has_row k rows || bytes_eq r.key k)
has_more [] r k = last (bytes_eq r.key k)
  where
    last : (b : Bool) → (b || false) ≡ b
    last true = refl
    last false = refl
has_more (x ∷ xs) r k = ap (λ b. bytes_eq x.key k || b) (has_more xs r k) ∙ again (bytes_eq x.key k) (has_row k xs) (bytes_eq r.key k)
  where
    again : (a b c : Bool) → (a || (b || c)) ≡ ((a || b) || c)
    again true b c = refl
    again false b c = refl

has_next : (all : List Row) (i : ℕ) (r : Row) (k : List ℕ) → i < length all → r ≡ get_or all i r → has_row k (take (i + 1) all) ≡ (has_row k (take i all) || bytes_eq r.key k)
has_next all i r k lt is = ap (has_row k) (row_next all i r lt is) ∙ has_more (take i all) r k

-- the next row's key is new where keys differ
key_new : (all : List Row) (i : ℕ) (r : Row) → i < length all → r ≡ get_or all i r → KeysDiffer all → has_row r.key (take i all) ≡ false
key_new [] i r lt is differ = absurd (omega (arith, lt))
key_new (y ∷ ys) zero r lt is differ = refl
key_new (y ∷ ys) (suc i) r lt is differ =
    let apart : y.key ≢ r.key = λ same. differ 0 (suc i) r (omega arith) lt (same ∙ ap (λ (q : Row). q.key) is) in
    let other : bytes_eq y.key r.key ≡ false = elim (cases_Bool (bytes_eq y.key r.key)) [ inl t ↦ absurd (apart (same_bytes y.key r.key t)) | inr f ↦ f ] in
    ap (λ b. b || has_row r.key (take i ys)) other
    ∙ key_new ys i r (omega (arith, lt)) is (λ j k d lo hi. differ (suc j) (suc k) d (omega (arith, lo)) (omega (arith, hi)))

-- ---- places

place_none : (rows : List Row) (places : List ℕ) (k : List ℕ) → has_row k rows ≡ false → place_of rows places k ≡ None
place_none [] places k e = refl
place_none (x ∷ xs) [] k e = refl
place_none (x ∷ xs) (p ∷ ps) k e = elim (cases_Bool (bytes_eq x.key k)) [
  | inl t ↦ let h : true ≡ false = sym (ap (λ b. b || has_row k xs) t) ∙ e in absurd cc
  | inr f ↦ rw f (place_none xs ps k (sym (ap (λ b. b || has_row k xs) f) ∙ e))
]

place_more : (rows : List Row) (places : List ℕ) (r : Row) (p : ℕ) (k : List ℕ) → length places ≡ length rows
    → place_of (rows ++ (r ∷ [])) (places ++ (p ∷ [])) k ≡ cond (has_row k rows) (place_of rows places k) (cond (bytes_eq r.key k) (Some p) None)
place_more [] [] r p k e = elim (cases_Bool (bytes_eq r.key k)) [
  | inl t ↦ rw t refl
  | inr f ↦ rw f refl
]
place_more [] (q ∷ qs) r p k e = absurd (omega (arith, e))
place_more (x ∷ xs) [] r p k e = absurd (omega (arith, e))
place_more (x ∷ xs) (q ∷ qs) r p k e = elim (cases_Bool (bytes_eq x.key k)) [
  | inl t ↦ rw t refl
  | inr f ↦ rw f (place_more xs qs r p k (omega (arith, e)))
]

abbrev Found : Type 0
Found = Option (Bool × Place)

abbrev found : ℕ → Bool → Option ℕ → Found → Found
found cell c o v = moved cell (cond c o None) v

-- a row's version at one place more; h tells that its key has a row before, b that this row is its
moves : (cell p : ℕ) (c h b : Bool) (o : Option ℕ) (v : Found) → (h ≡ false → o ≡ None) → (b ≡ true → h ≡ false)
    → cond (c && b) (option_map (at_place (Stored cell p)) (found cell c o v)) (found cell c o v) ≡ found cell c (cond h o (cond b (Some p) None)) v
moves cell p true true true o v none new = let h : true ≡ false = new refl in absurd cc
moves cell p true true false o v none new = refl
moves cell p true false true o v none new = let e : o ≡ None = none refl in rw e refl
moves cell p true false false o v none new = ap (λ (q : Option ℕ). moved cell q v) (none refl)
moves cell p false h true o v none new = refl
moves cell p false h false o v none new = refl

pub finds_none : (slot cell : ℕ) (index : Index) → FindsAt slot cell [] [] index index
finds_none slot cell index = record {
  versions = λ k s. none (eqb slot s) (indexed index s k);
  holds = record { held = λ k s. refl; expected = λ k s. refl };
}
  where
    none : (b : Bool) (v : Found) → v ≡ moved cell (cond b None None) v
    none true v = refl
    none false v = refl

pub finds_more : (slot cell : ℕ) (all : List Row) (i : ℕ) (r : Row) (places : List ℕ) (p : ℕ) (old now new : Index) → i < length all → r ≡ get_or all i r → KeysDiffer all → length places ≡ i
    → FindsAt slot cell (take i all) places old now → Rehomed slot r.key (Stored cell p) now new → FindsAt slot cell (take (i + 1) all) (places ++ p ∷ []) old new
finds_more slot cell all i r places p old now new lt is differ each so_far edit = record {
  versions = λ k s.
      let o = place_of rows places k in
      let v = indexed old s k in
      edit.versions k s
      ∙ ap (λ (f : Found). cond (eqb slot s && bytes_eq r.key k) (option_map (at_place (Stored cell p)) f) f) (so_far.versions k s)
      ∙ moves cell p (eqb slot s) (has_row k rows) (bytes_eq r.key k) o v (place_none rows places k)
      (λ t. ap (λ (q : List ℕ). has_row q rows) (sym (same_bytes r.key k t)) ∙ key_new all i r lt is differ)
      ∙ ap (λ (q : Option ℕ). moved cell (cond (eqb slot s) q None) v)
      (sym (ap (λ (rs : List Row). place_of rs (places ++ p ∷ []) k) (row_next all i r lt is)
      ∙ place_more rows places r p k (omega (arith, each, length-take i all, lt))));
  holds = record {
    held = λ k s. edit.holds.held k s ∙ so_far.holds.held k s;
    expected = λ k s. edit.holds.expected k s ∙ so_far.holds.expected k s;
  };
}
  where
    rows : List Row
    rows = take i all

-- ---- what is held

pub unholds_none : (slot : ℕ) (index : Index) → Unholds slot [] index index
unholds_none slot index = record {
  versions = λ k. refl;
  held = λ k s. none (eqb slot s) (among s (kept index k).held);
  expected = λ k. refl;
}
  where
    none : (c e : Bool) → e ≡ (not (c && false) && e)
    none true e = refl
    none false e = refl

pub unholds_more : (slot : ℕ) (all : List Row) (i : ℕ) (r : Row) (old now new : Index) → i < length all → r ≡ get_or all i r
    → Unholds slot (take i all) old now → IsWith now new r.key (record (kept now r.key) { held = without_slot slot (kept now r.key).held }) → Unholds slot (take (i + 1) all) old new
unholds_more slot all i r old now new lt is so_far edit = record {
  versions = λ k. stays now new r.key _ (λ q. q.versions) edit refl k ∙ so_far.versions k;
  held = λ k s.
      turns now new r.key _ (λ q. among s q.held) (λ e. not (eqb slot s) && e) edit (among_without slot s (kept now r.key).held) k
      ∙ ap (λ e. cond (bytes_eq r.key k) (not (eqb slot s) && e) e) (so_far.held k s)
      ∙ parts (eqb slot s) (has_row k (take i all)) (bytes_eq r.key k) (among s (kept old k).held)
      ∙ ap (λ h. not (eqb slot s && h) && among s (kept old k).held) (sym (has_next all i r k lt is));
  expected = λ k. stays now new r.key _ (λ q. q.expected) edit refl k ∙ so_far.expected k;
}
  where
    parts : (c h b e : Bool) → cond b (not c && (not (c && h) && e)) (not (c && h) && e) ≡ (not (c && (h || b)) && e)
    parts true true true e = refl
    parts true true false e = refl
    parts true false true e = refl
    parts true false false e = refl
    parts false h true e = refl
    parts false h false e = refl

-- rows are found elsewhere, and then others are held no longer
pub rehomes : (slot cell : ℕ) (rows : List Row) (places : List ℕ) (dead : List Row) (old mid new : Index) → FindsAt slot cell rows places old mid → Unholds slot dead mid new
    → Rehomes slot cell rows places dead old new
rehomes slot cell rows places dead old mid new finds unholds = record {
  versions = λ k s. ap (λ vs. option_map found_of (at s vs)) (unholds.versions k) ∙ finds.versions k s;
  held = λ k s. unholds.held k s ∙ ap (λ b. not (is_in slot dead s k) && b) (finds.holds.held k s);
  expected = λ k s. ap (λ es. among s es) (unholds.expected k) ∙ finds.holds.expected k s;
}

pub place_next : (ps : List ℕ) (i p : ℕ) → i < length ps → p ≡ get_or ps i p → take (i + 1) ps ≡ take i ps ++ p ∷ []
place_next ps i p lt is = take_more ps i p lt ∙ ap (λ (q : ℕ). take i ps ++ q ∷ []) (sym is)
