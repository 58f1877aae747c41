-- Rows that stand at rising places.
use Rattle.std.proofs.Common.{◌≡◌, ℕ, zero, suc, ◌+◌, ◌<◌, List, [], ◌∷◌, ◌++◌, length, get_or, take, eqb, AllPairs, Some, IsSome, refl, sym, ap, subst, ◌∙◌, arith}
use Rattle.std.specs.List.Sorted.{IsStrictlyIncreasing}
use Rattle.std.proofs.lemmas.Bool.{eq-eqb, ne_eqb}
use Rattle.std.proofs.lemmas.List.{get_or-map, length-map, take_more}
use Rattle.std.proofs.lemmas.List.Kept.{AllPairs-from_increasing}
use Rattle.vec_scan.specs.Image.{Placed}
use Rattle.vec_scan.specs.Seal.{row_at, offsets_of}
use Rattle.open_plan.proofs.Facts.{some_same, pairs_head, pairs_tail}

abbrev Below : Placed → Placed → Type 0
Below a b = a.offset < b.offset

-- offsets that rise are those of records below one another
rise_below : (xs : List Placed) → IsStrictlyIncreasing (offsets_of xs) → AllPairs Below xs
rise_below xs rise i j d lt within =
    let pairs = AllPairs-from_increasing (offsets_of xs) rise in
    let at_i = get_or-map (λ (x : Placed). x.offset) xs i d 0 (omega (arith, lt, within)) in
    let at_j = get_or-map (λ (x : Placed). x.offset) xs j d 0 within in
    let both = pairs i j 0 lt (omega (arith, within, length-map xs (λ (x : Placed). x.offset))) in
    omega (arith, both, at_i, at_j)

there : (rows : List Placed) → AllPairs Below rows → (i : ℕ) (d : Placed) → i < length rows → row_at rows (get_or rows i d).offset ≡ Some (get_or rows i d)
there [] below i d lt = absurd (omega (arith, lt))
there (x ∷ xs) below zero d lt = rw (eq-eqb x.offset x.offset refl) refl
there (x ∷ xs) below (suc i) d lt =
    let later : x.offset < (get_or xs i d).offset = pairs_head Below x xs below i d (omega (arith, lt)) in
    rw (ne_eqb x.offset (get_or xs i d).offset (λ e. omega (arith, e, later))) (there xs (pairs_tail Below x xs below) i d (omega (arith, lt)))

module _ (rows : List Placed) (places : List ℕ) (are : places ≡ offsets_of rows) (rise : IsStrictlyIncreasing places) (i : ℕ) (lt : i < length places) where
  pub within : i < length rows
  within = omega (arith, lt, ap length are, length-map rows (λ (x : Placed). x.offset))

  -- the row at one of the places
  pub row_here : (e : ℕ) (d : Placed) → row_at rows (get_or places i e) ≡ Some (get_or rows i d)
  row_here e d =
      ap (λ (os : List ℕ). row_at rows (get_or os i e)) are
      ∙ ap (row_at rows) (get_or-map (λ (x : Placed). x.offset) rows i d e within)
      ∙ there rows (rise_below rows (subst IsStrictlyIncreasing are rise)) i d within

  pub some_row : (e : ℕ) (d : Placed) → IsSome (row_at rows (get_or places i e))
  some_row e d = subst IsSome (sym (row_here e d)) refl

  -- the row that is read there comes next
  pub row_next : (e : ℕ) (p : Placed) → row_at rows (get_or places i e) ≡ Some p → take (i + 1) rows ≡ take i rows ++ p ∷ []
  row_next e p read =
      let is : get_or rows i p ≡ p = some_same (sym (row_here e p) ∙ read) in
      take_more rows i p within ∙ ap (λ (q : Placed). take i rows ++ q ∷ []) is
