-- How many different keys rows have.
use Rattle.std.proofs.Common.{◌≡◌, ℕ, ◌+◌, List, [], ◌∷◌, ◌++◌, length, map, Bool, true, false, not, cond, eqb, ◌&&◌, ◌||◌, refl, sym, ap, ◌∙◌, inl, inr, arith, length-append}
use mir.Val.{bool_byte}
use Rattle.std.specs.List.{filter, list_any}
use Rattle.std.specs.Str.{bytes_eq}
use Rattle.std.proofs.lemmas.Bool.{cases_Bool}
use Rattle.std.proofs.lemmas.List.{map-append, append-nil}
use Rattle.std.proofs.lemmas.List.Elements.{filter-append}
use Rattle.adb_model.specs.Lists.{distinct}
use Rattle.adb_model.specs.State.{Row}
use Rattle.adb_model.specs.Presence.{has_row}
use Rattle.vec_scan.specs.Image.{Placed}
use Rattle.book_parts.specs.Opening.{distinct_keys}

abbrev row_of : Placed → Row
row_of placed = placed.row

abbrev has : List ℕ → List (List ℕ) → Bool
has k keys = list_any (λ x. bytes_eq x k) keys

-- a key that is there already changes nothing, and a new one comes last
distinct_next : (keys : List (List ℕ)) (k : List ℕ) → distinct bytes_eq (keys ++ k ∷ []) ≡ cond (has k keys) (distinct bytes_eq keys) (distinct bytes_eq keys ++ k ∷ [])
distinct_next [] k = refl
distinct_next (x ∷ keys) k = by (bytes_eq x k) refl (has k keys) (distinct_next keys k)
  where
    others : List (List ℕ) → List (List ℕ)
    others ks = filter (λ y. not (bytes_eq x y)) ks

    rest : List (List ℕ)
    rest = distinct bytes_eq keys

    last : (b : Bool) → bytes_eq x k ≡ b → others (k ∷ []) ≡ cond b [] (k ∷ [])
    last true e = rw e refl
    last false e = rw e refl

    by : (b : Bool) → bytes_eq x k ≡ b → (h : Bool) → distinct bytes_eq (keys ++ k ∷ []) ≡ cond h rest (rest ++ k ∷ [])
        → x ∷ others (distinct bytes_eq (keys ++ k ∷ [])) ≡ cond (bytes_eq x k || h) (x ∷ others rest) (x ∷ others rest ++ k ∷ [])
    by true e true so_far = rw e (ap (λ ks. x ∷ others ks) so_far)
    by true e false so_far =
        rw e (ap (λ ks. x ∷ others ks) so_far ∙ ap (λ ks. x ∷ ks) (filter-append (λ y. not (bytes_eq x y)) rest (k ∷ []) ∙ ap (λ ks. others rest ++ ks) (last true e) ∙ append-nil (others rest)))
    by false e true so_far = rw e (ap (λ ks. x ∷ others ks) so_far)
    by false e false so_far =
        rw e (ap (λ ks. x ∷ others ks) so_far ∙ ap (λ ks. x ∷ ks) (filter-append (λ y. not (bytes_eq x y)) rest (k ∷ []) ∙ ap (λ ks. others rest ++ ks) (last false e)))

has_map : (k : List ℕ) (rows : List Row) → has k (map (λ r. r.key) rows) ≡ has_row k rows
has_map k [] = refl
has_map k (r ∷ rows) = ap (λ b. bytes_eq r.key k || b) (has_map k rows)

-- with one row more there is one key more, unless it was there
pub distinct_more : (rows : List Row) (r : Row) → distinct_keys (rows ++ r ∷ []) ≡ distinct_keys rows + cond (has_row r.key rows) 0 1
distinct_more rows r =
    ap (λ ks. length (distinct bytes_eq ks)) (map-append (λ (q : Row). q.key) rows (r ∷ []))
    ∙ ap length (distinct_next keys r.key) ∙ by (has r.key keys) ∙ ap (λ b. distinct_keys rows + cond b 0 1) (has_map r.key rows)
  where
    keys : List (List ℕ)
    keys = map (λ q. q.key) rows

    by : (h : Bool) → length (cond h (distinct bytes_eq keys) (distinct bytes_eq keys ++ r.key ∷ [])) ≡ length (distinct bytes_eq keys) + cond h 0 1
    by true = omega arith
    by false = length-append (distinct bytes_eq keys) (r.key ∷ [])

-- rows whose keys were there, and those with new ones, are all
counts_more : (rows : List Row) (r : Row) (repeated again n : ℕ) → repeated + distinct_keys rows ≡ n → again ≡ repeated + cond (has_row r.key rows) 1 0 → again + distinct_keys (rows ++ r ∷ []) ≡ n + 1
counts_more rows r repeated again n so_far is = omega (arith, so_far, is, distinct_more rows r, by (has_row r.key rows))
  where
    by : (h : Bool) → cond h 1 0 + cond h 0 1 ≡ 1
    by true = refl
    by false = refl

pub counts_next : (done : List Placed) (p : Placed) (repeated again n : ℕ) → repeated + distinct_keys (map row_of done) ≡ n → again ≡ repeated + cond (has_row p.row.key (map row_of done)) 1 0
    → again + distinct_keys (map row_of (done ++ p ∷ [])) ≡ n + 1
counts_next done p repeated again n so_far is =
    ap (λ (rs : List Row). again + distinct_keys rs) (map-append row_of done (p ∷ [])) ∙ counts_more (map row_of done) p.row repeated again n so_far is

-- a flag counts as one where it is set
pub counts_flag : (was has : Bool) → was ≡ has → bool_byte was ≡ cond has 1 0
counts_flag true has is = rw (sym is) refl
counts_flag false has is = rw (sym is) refl
