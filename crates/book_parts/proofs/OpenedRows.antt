-- The last row of a key in an image, and its place.
use Rattle.std.proofs.Common.{◌≡◌, ℕ, List, [], ◌∷◌, get_or, map, filter, Bool, true, false, cond, ◌||◌, All, AllPairs, Contains, Option, Some, None, is_some, refl, ap, ◌∙◌, subst, arith}
use Rattle.std.specs.List.Sorted.{IsStrictlyIncreasing}
use Rattle.std.specs.Option.{option_map, unwrap_or}
use Rattle.std.specs.Str.{bytes_eq}
use Rattle.std.proofs.lemmas.Bool.{eq-eqb, ne_eqb}
use Rattle.std.proofs.lemmas.List.Elements.{All-nil, All-cons, All-contains}
use Rattle.std.proofs.lemmas.Slice.Eq.{bytes_eq-Decides}
use Rattle.vec_scan.specs.Image.{Placed}
use Rattle.vec_scan.specs.Seal.{row_at, row_there, offsets_of}
use Rattle.adb_model.specs.Lists.{last}
use Rattle.adb_model.specs.State.{Row}
use Rattle.adb_model.specs.Presence.{has_row}
use Rattle.adb_model.specs.Sound.{last_row}
use Rattle.book_parts.specs.Opening.{last_placed}
use Rattle.book_parts.proofs.Found.{some_is, none_some, contains_here, contains_next}
use Rattle.book_parts.proofs.CopiedRows.{Below, pairs_head, pairs_tail, rise_below}
use Rattle.book_parts.proofs.OpenedLists.{last_map, filter_map_swap}

abbrev row_of : Placed → Row
row_of placed = placed.row

abbrev is_of : List ℕ → Placed → Bool
is_of k placed = bytes_eq placed.row.key k

-- a key has a last row exactly where it has one
pub last_there : (xs : List Placed) (k : List ℕ) → is_some (last_placed xs k) ≡ has_row k (map (λ x. x.row) xs)
last_there [] k = refl
last_there (x ∷ xs) k = by (is_of k x) (last_there xs k)
  where
    by : (b : Bool) → is_some (last_placed xs k) ≡ has_row k (map row_of xs) → is_some (last (cond b (x ∷ filter (is_of k) xs) (filter (is_of k) xs))) ≡ (b || has_row k (map row_of xs))
    by true rest = refl
    by false rest = rest

-- and it has that row's account
pub last_row_is : (xs : List Placed) (k : List ℕ) → last_row k (map (λ x. x.row) xs) ≡ option_map (λ x. x.row.account) (last_placed xs k)
last_row_is xs k =
    ap (λ rs. option_map (λ (q : Row). q.account) (last rs)) (filter_map_swap row_of (λ (q : Row). bytes_eq q.key k) xs)
    ∙ ap (option_map (λ (q : Row). q.account)) (last_map row_of (filter (is_of k) xs))
    ∙ twice (last (filter (is_of k) xs))
  where
    twice : (o : Option Placed) → option_map (λ (q : Row). q.account) (option_map row_of o) ≡ option_map (λ (x : Placed). x.row.account) o
    twice None = refl
    twice (Some x) = refl

-- the last element is in the list, and passes
last_in : (p : Placed → Bool) (xs : List Placed) (x : Placed) → last (filter p xs) ≡ Some x → Contains xs x × (p x ≡ true)
last_in p [] x e = absurd (none_some e)
last_in p (y ∷ xs) x e = by (p y) refl e (last_in p xs x)
  where
    later : Contains xs x × (p x ≡ true) → Contains (y ∷ xs) x × (p x ≡ true)
    later c = (contains_next y x xs c.0, c.1)

    first : (o : Option Placed) → last (filter p xs) ≡ o → p y ≡ true → (last (filter p xs) ≡ Some x → Contains xs x × (p x ≡ true)) → Some (unwrap_or o y) ≡ Some x → Contains (y ∷ xs) x × (p x ≡ true)
    first None f t rest e = subst (λ z. Contains (y ∷ xs) z × (p z ≡ true)) (some_is e) (contains_here y xs, t)
    first (Some z) f t rest e = later (rest (f ∙ e))

    by : (b : Bool) → p y ≡ b → last (cond b (y ∷ filter p xs) (filter p xs)) ≡ Some x → (last (filter p xs) ≡ Some x → Contains xs x × (p x ≡ true)) → Contains (y ∷ xs) x × (p x ≡ true)
    by true t e rest = first (last (filter p xs)) refl t rest e
    by false f e rest = later (rest e)

-- where places rise, each row is the one that stands at its place
at_places : (xs : List Placed) → AllPairs Below xs → All (λ x. row_at xs x.offset ≡ Some x) xs
at_places [] below = All-nil (λ (x : Placed). row_at [] x.offset ≡ Some x)
at_places (y ∷ xs) below =
    All-cons (λ (x : Placed). row_at (y ∷ xs) x.offset ≡ Some x) y xs
    (ap (λ b. cond b (Some y) (row_at xs y.offset)) (eq-eqb y.offset y.offset refl))
    (λ k d lt.
    let later = pairs_head y xs below k d lt in
    ap (λ b. cond b (Some y) (row_at xs (get_or xs k d).offset)) (ne_eqb y.offset (get_or xs k d).offset (λ same. omega (arith, later, same)))
    ∙ at_places xs (pairs_tail y xs below) k d lt)

-- the last row of a key stands at its place
pub placed_row : (xs : List Placed) (k : List ℕ) (x : Placed) → IsStrictlyIncreasing (offsets_of xs) → last_placed xs k ≡ Some x
    → row_there xs x.offset ≡ Some (record { key = k; account = x.row.account })
placed_row xs k x rise e =
    let l = last_in (is_of k) xs x e in
    ap (option_map row_of) (All-contains (λ (y : Placed). row_at xs y.offset ≡ Some y) xs x (at_places xs (rise_below xs rise)) l.0)
    ∙ ap (λ (q : List ℕ). Some (keyed q)) ((bytes_eq-Decides x.row.key k).0 l.1)
  where
    keyed : List ℕ → Row
    keyed q = record { key = q; account = x.row.account }
