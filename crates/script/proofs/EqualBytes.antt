-- Bytes of which each is equal to the next.
use Rattle.std.proofs.Common.{◌≡◌, ◌∙◌, ℕ, ◌-◌, ◌<◌, ◌&&◌, true, List, ◌∷◌, [], length, sym, refl, ap, subst, inl, inr, arith}
use Rattle.std.specs.Prelude.{◌==◌, slice_index, take, drop}
use Rattle.std.specs.List.{list_all}
use Rattle.std.proofs.lemmas.Bool.{cases_Bool, eqb-true, eq-eqb}
use Rattle.std.proofs.lemmas.List.{take_all}
use lib.Pointwise.{pointwise}
use lib.Dec.{eqb}

shifted : (x : ℕ) (r : List ℕ) → pointwise eqb r (take (length r) (x ∷ r)) ≡ list_all (λ b. b == x) r
shifted x [] = refl
shifted x (y ∷ r) = elim (cases_Bool (y == x)) [
  | inl same ↦ ap (λ z. (y == x) && z) (shifted y r ∙ ap (λ k. list_all (λ b. b == k) r) (eqb-true y x same))
  | inr other ↦ subst (λ t. (t && pointwise eqb r (take (length r) (y ∷ r))) ≡ (t && list_all (λ b. b == x) r)) (sym other) refl
]

pub equal_by_next : (bytes : List ℕ) → 0 < length bytes
    → pointwise eqb (take (length bytes - 1) (drop 1 bytes)) (take (length bytes - 1) bytes) ≡ list_all (λ b. b == slice_index bytes 0) bytes
equal_by_next [] lt = absurd (omega (arith, lt))
equal_by_next (x ∷ r) lt =
    let len : (length (x ∷ r) - 1 ≡ length r) = omega arith in
    let own : ((x == x) ≡ true) = eq-eqb x x refl in
    ap (λ n. pointwise eqb (take n r) (take n (x ∷ r))) len
    ∙ ap (λ l. pointwise eqb l (take (length r) (x ∷ r))) (take_all (length r) r (omega arith))
    ∙ shifted x r
    ∙ ap (λ t. t && list_all (λ b. b == x) r) (sym own)
