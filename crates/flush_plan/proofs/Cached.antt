-- The first rows of a slot.
use Rattle.std.proofs.Common.{◌≡◌, ℕ, ◌+◌, List, [], ◌∷◌, ◌++◌, take, Some, sym, subst, ap, ◌∙◌}
use Rattle.std.specs.Prelude.{slice_get}
use Rattle.std.proofs.lemmas.List.{map-append, take_more}
use Rattle.std.proofs.lemmas.List.Sums.{sum_by_push}
use Rattle.std.proofs.lemmas.Option.{slice_get_within, get_or_from_slice_get}
use Rattle.adb_model.specs.Account.{Account, size}
use Rattle.adb_model.specs.State.{Row}
use Rattle.adb_model.specs.Storages.{bytes_of}
use Rattle.append_vec.specs.Filled.{row_of, rows_of}
use Rattle.flush_plan.proofs.Keys.{Given}

pub row_next : (rows : List Row) (i : ℕ) (r : Row) → slice_get rows i ≡ Some r → take (i + 1) rows ≡ take i rows ++ (r ∷ [])
row_next rows i r e =
    take_more rows i r (slice_get_within rows i r e) ∙ ap (λ (q : Row). take i rows ++ (q ∷ [])) (get_or_from_slice_get rows i r r e)

-- an account for one more row
pub rows_more : (xs : List Given) (x : Given) (rows : List Row) (i : ℕ) → slice_get rows i ≡ Some (row_of x) → rows_of xs ≡ take i rows → rows_of (xs ++ (x ∷ [])) ≡ take (i + 1) rows
rows_more xs x rows i there so_far =
    map-append row_of xs (x ∷ []) ∙ ap (λ (rs : List Row). rs ++ (row_of x ∷ [])) so_far ∙ sym (row_next rows i (row_of x) there)

-- the row of an account that is shared
pub same_row : (rows : List Row) (i : ℕ) (key : List ℕ) (a b : Account) → b ≡ a → slice_get rows i ≡ Some (record { key = key; account = a }) → slice_get rows i ≡ Some (record { key = key; account = b })
same_row rows i key a b same there = subst (λ (x : Account). slice_get rows i ≡ Some (record { key = key; account = x })) (sym same) there

pub bytes_more : (rows : List Row) (i : ℕ) (r : Row) → slice_get rows i ≡ Some r → bytes_of (take (i + 1) rows) ≡ bytes_of (take i rows) + size r.account
bytes_more rows i r there = ap bytes_of (row_next rows i r there) ∙ sum_by_push (λ (q : Row). size q.account) (take i rows) r
