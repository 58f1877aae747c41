-- The keys of the first rows of a slot.
use Rattle.std.proofs.Common.{◌≡◌, ◌≢◌, ℕ, zero, suc, ◌+◌, List, [], ◌∷◌, take, get_or, Bool, true, false, cond, ◌&&◌, ◌||◌, Option, Some, None, is_some, refl, sym, ap, ◌∙◌, inl, inr, arith, AllPairs}
use Rattle.std.specs.Prelude.{slice_get}
use Rattle.std.specs.Str.{bytes_eq}
use Rattle.std.proofs.lemmas.Bool.{cases_Bool}
use Rattle.std.proofs.lemmas.List.{take_more}
use Rattle.std.proofs.lemmas.List.Folds.{list_any-append}
use Rattle.std.proofs.lemmas.Option.{slice_get_within, get_or_from_slice_get}
use Rattle.slot_list.specs.declared.Place.{Place}
use Rattle.write_cache.specs.Rows.{account_at}
use Rattle.adb_model.specs.State.{Row}
use Rattle.adb_model.specs.Presence.{has_row}
use Rattle.book.proofs.Versions.{same_bytes, bytes_eq-self}

or_false : (b : Bool) → (b || false) ≡ b
or_false true = refl
or_false false = refl

-- one row more
pub row_more : (rows : List Row) (i : ℕ) (r : Row) (k : List ℕ) → slice_get rows i ≡ Some r → has_row k (take (i + 1) rows) ≡ (has_row k (take i rows) || bytes_eq r.key k)
row_more rows i r k e =
    ap (has_row k) (take_more rows i r (slice_get_within rows i r e))
    ∙ list_any-append (λ q. bytes_eq q.key k) (take i rows) (get_or rows i r ∷ [])
    ∙ ap (λ (q : Row). has_row k (take i rows) || (bytes_eq q.key k || false)) (get_or_from_slice_get rows i r r e)
    ∙ ap (λ b. has_row k (take i rows) || b) (or_false (bytes_eq r.key k))

-- whose key no row before it has
pub row_new : (rows : List Row) (i : ℕ) (r : Row) → AllPairs (λ r q. r.key ≢ q.key) rows → slice_get rows i ≡ Some r → has_row r.key (take i rows) ≡ false
row_new [] i r differ e = let h : None ≡ Some r = e in absurd cc
row_new (x ∷ xs) zero r differ e = refl
row_new (x ∷ xs) (suc i) r differ e =
    let apart : x.key ≢ r.key = λ same. differ 0 (suc i) r (omega arith) (let h = slice_get_within xs i r e in omega arith) (same ∙ ap (λ (q : Row). q.key) (sym (get_or_from_slice_get xs i r r e))) in
    let other : bytes_eq x.key r.key ≡ false = elim (cases_Bool (bytes_eq x.key r.key)) [ inl t ↦ absurd (apart (same_bytes x.key r.key t)) | inr f ↦ f ] in
    ap (λ b. b || has_row r.key (take i xs)) other
    ∙ row_new xs i r (λ j k d lt within. differ (suc j) (suc k) d (omega (arith, lt)) (omega (arith, within))) e

-- a key has an account where it has a row
pub account_some : (rows : List Row) (k : List ℕ) → is_some (account_at rows k) ≡ has_row k rows
account_some [] k = refl
account_some (x ∷ xs) k = elim (cases_Bool (bytes_eq x.key k)) [
  | inl t ↦ rw t refl
  | inr f ↦ rw f (account_some xs k)
]

pub row_there : (rows : List Row) (i : ℕ) (r : Row) → slice_get rows i ≡ Some r → has_row r.key rows ≡ true
row_there [] i r e = let h : None ≡ Some r = e in absurd cc
row_there (x ∷ xs) zero r e =
    let h : Some x ≡ Some r = e in
    let same : x ≡ r = cc in
    ap (λ (q : Row). bytes_eq q.key r.key || has_row r.key xs) same ∙ ap (λ b. b || has_row r.key xs) (bytes_eq-self r.key)
row_there (x ∷ xs) (suc i) r e = ap (λ b. bytes_eq x.key r.key || b) (row_there xs i r e) ∙ or_true (bytes_eq x.key r.key)
  where
    or_true : (b : Bool) → (b || true) ≡ true
    or_true true = refl
    or_true false = refl

abbrev Entry : Type 0
Entry = Option (Bool × Place)

-- what was gone before, and what goes now
pub gone_more : (a h b : Bool) (x : Entry) → cond (a && b) None (cond (a && h) None x) ≡ cond (a && (h || b)) None x
gone_more true true true x = refl
gone_more true true false x = refl
gone_more true false true x = refl
gone_more true false false x = refl
gone_more false h b x = refl

pub gone_all : (a h : Bool) (x : Entry) → (a ≡ true → h ≡ false → x ≡ None) → cond (a && h) None x ≡ cond a None x
gone_all true true x none = refl
gone_all true false x none = none refl refl
gone_all false h x none = refl
