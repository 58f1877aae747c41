-- The places of rows, each key once.
use Rattle.std.proofs.Common.{◌≡◌, ◌≢◌, ℕ, List, [], ◌∷◌, map, filter, Bool, true, false, cond, ◌||◌, All, AllPairs, Option, Some, is_some, refl, sym, ap, ◌∙◌, subst}
use Rattle.std.specs.Option.{option_map}
use Rattle.std.specs.Str.{bytes_eq}
use Rattle.adb_model.specs.Account.{Account}
use Rattle.adb_model.specs.Lists.{last}
use Rattle.adb_model.specs.State.{Row}
use Rattle.adb_model.specs.Presence.{has_row}
use Rattle.adb_model.specs.Sound.{last_row}
use Rattle.book_parts.specs.Flushes.{place_of}
use Rattle.book_parts.proofs.Found.{some_is, none_some}
use Rattle.book_parts.proofs.SameRows.{key_is, pairs_head, pairs_tail, none_of}

module _ (there : ℕ → Option Row) (k : List ℕ) where
  some_cons : (r : Row) (rows : List Row) → [] ≡ map Some (r ∷ rows) → ⊥
  some_cons r rows e = cc

  heads : (o q : Option Row) (os qs : List (Option Row)) → o ∷ os ≡ q ∷ qs → (o ≡ q) × (os ≡ qs)
  heads o q os qs e = (cc, cc)

  -- a key has a place exactly where it has a row
  pub place_there : (rows : List Row) (places : List ℕ) → map there places ≡ map Some rows → is_some (place_of rows places k) ≡ has_row k rows
  place_there [] places e = refl
  place_there (r ∷ rows) [] e = absurd (some_cons r rows e)
  place_there (r ∷ rows) (x ∷ places) e = by (bytes_eq r.key k) (place_there rows places (heads (there x) (Some r) (map there places) (map Some rows) e).1)
    where
      by : (b : Bool) → is_some (place_of rows places k) ≡ has_row k rows → is_some (cond b (Some x) (place_of rows places k)) ≡ (b || has_row k rows)
      by true rest = refl
      by false rest = rest

  -- at its place stands its last row
  pub row_of_place : (rows : List Row) (places : List ℕ) (place : ℕ) → map there places ≡ map Some rows → AllPairs (λ r q. r.key ≢ q.key) rows → place_of rows places k ≡ Some place
      → (account : Account) × (there place ≡ Some (record { key = k; account = account })) × (last_row k rows ≡ Some account)
  row_of_place [] places place e differ found = absurd (none_some found)
  row_of_place (r ∷ rows) [] place e differ found = absurd (some_cons r rows e)
  row_of_place (r ∷ rows) (x ∷ places) place e differ found =
      let both = heads (there x) (Some r) (map there places) (map Some rows) e in
      by (bytes_eq r.key k) refl both.0 (row_of_place rows places place both.1 (pairs_tail r rows differ)) found
    where
      by : (b : Bool) → bytes_eq r.key k ≡ b → there x ≡ Some r
          → (place_of rows places k ≡ Some place → (account : Account) × (there place ≡ Some (record { key = k; account = account })) × (last_row k rows ≡ Some account))
          → cond b (Some x) (place_of rows places k) ≡ Some place
          → (account : Account) × (there place ≡ Some (record { key = k; account = account })) × (last_row k (r ∷ rows) ≡ Some account)
      by true t at later found =
          let key = key_is r k t in
          let none = none_of k rows (subst (λ q. All (λ (s : Row). q ≢ s.key) rows) key (pairs_head r rows differ)) in (
            r.account,
            ap there (sym (some_is found)) ∙ at ∙ ap (λ (q : List ℕ). Some (keyed q)) key,
            ap (λ b. option_map account_of (last (cond b (r ∷ filter (λ q. bytes_eq q.key k) rows) (filter (λ q. bytes_eq q.key k) rows)))) t
                ∙ ap (λ (rs : List Row). option_map account_of (last (r ∷ rs))) none,
          )
        where
          keyed : List ℕ → Row
          keyed q = record { key = q; account = r.account }

          account_of : Row → Account
          account_of q = q.account
      by false f at later found =
          let rest = later found in
          (rest.0, rest.1, ap (λ b. option_map (λ (q : Row). q.account) (last (cond b (r ∷ filter (λ q. bytes_eq q.key k) rows) (filter (λ q. bytes_eq q.key k) rows)))) f ∙ rest.2)
