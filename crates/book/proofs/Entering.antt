-- The cached rows and the versions of a slot, where a row goes in.
use Rattle.std.proofs.Common.{◌≡◌, ℕ, ◌+◌, ◌-◌, ◌<◌, List, [], ◌∷◌, ◌++◌, length, take, true, cond, eqb, Option, Some, None, is_some, option_map, refl, ap, ◌∙◌, inl, inr, arith, length-append}
use Rattle.std.specs.Str.{bytes_eq}
use Rattle.std.proofs.Math.Seq.{take-append_seam}
use Rattle.std.proofs.lemmas.Bool.{cases_Bool, eqb-true, eq-eqb}
use Rattle.slot_list.specs.declared.Place.TheVariants.{Cached}
use Rattle.accounts_index.specs.Index.{Index}
use Rattle.write_cache.specs.Rows.{Cache, rows, total, account_at, IsWith}
use Rattle.adb_model.specs.Account.{Account, is_tomb}
use Rattle.adb_model.specs.Cache.{put_row}
use Rattle.adb_model.specs.State.{Row}
use Rattle.book_parts.specs.Reflects.{indexed}
use Rattle.book_parts.specs.Changes.{CachedIn, SameCache}

-- a pair without a version has no row
pub no_row_there : (index : Index) (cache : Cache) (slot : ℕ) (key : List ℕ) → CachedIn slot index cache → (is_some (indexed index slot key) ≡ true → ⊥) → account_at (rows cache slot) key ≡ None
no_row_there index cache slot key cached none = by (account_at (rows cache slot) key) (cached key)
  where
    by : (o : Option Account) → indexed index slot key ≡ option_map (λ a. (is_tomb a, Cached)) o → o ≡ None
    by None e = refl
    by (Some a) e = absurd (none (ap is_some e))

-- a key without a row comes last
put_last : (rs : List Row) (key : List ℕ) (account : Account) → account_at rs key ≡ None → put_row rs key account ≡ rs ++ record { key = key; account = account } ∷ []
put_last [] key account none = refl
put_last (r ∷ rs) key account none = elim (cases_Bool (bytes_eq r.key key)) [
  | inl t ↦ let h : Some r.account ≡ None = rw t at none in absurd cc
  | inr f ↦ rw f (ap (λ (l : List Row). r ∷ l) (put_last rs key account (rw f at none)))
]

module _ (old mid : Cache) (slot : ℕ) (key : List ℕ) (account : Account) (none : account_at (rows old slot) key ≡ None) (put : IsWith old mid slot (put_row (rows old slot) key account)) where
  abbrev new_row : Row
  new_row = record { key = key; account = account }

  rows_put : rows mid slot ≡ rows old slot ++ new_row ∷ []
  rows_put = put slot ∙ ap (λ b. cond b (put_row (rows old slot) key account) (rows old slot)) (eq-eqb slot slot refl) ∙ put_last (rows old slot) key account none

  length-rows_put : length (rows mid slot) ≡ length (rows old slot) + 1
  length-rows_put = ap length rows_put ∙ length-append (rows old slot) (new_row ∷ [])

  pub has_rows : 0 < length (rows mid slot)
  has_rows = omega (arith, length-rows_put)

  -- a new row goes in and leaves again
  pub rows_back : (new : Cache) → total mid ≡ total old + cond (is_some (account_at (rows old slot) key)) 0 1
      → IsWith mid new slot (take (length (rows mid slot) - 1) (rows mid slot)) → total mid ≡ total new + 1 → SameCache old new
  rows_back new more taken fewer = record {
    rows = λ s. taken s ∙ elim (cases_Bool (eqb slot s)) [
      | inl here ↦ rw here (left ∙ ap (rows old) (eqb-true slot s here))
      | inr other ↦ rw other (put s ∙ ap (λ b. cond b (put_row (rows old slot) key account) (rows old s)) other)
    ];
    counted =
        let one : total mid ≡ total old + 1 = more ∙ ap (λ (o : Option Account). total old + cond (is_some o) 0 1) none in
        omega (arith, one, fewer);
  }
    where
      count : length (rows mid slot) - 1 ≡ length (rows old slot)
      count = omega (arith, length-rows_put)

      left : take (length (rows mid slot) - 1) (rows mid slot) ≡ rows old slot
      left = ap (λ n. take n (rows mid slot)) count ∙ ap (take (length (rows old slot))) rows_put ∙ take-append_seam (rows old slot) (new_row ∷ [])
