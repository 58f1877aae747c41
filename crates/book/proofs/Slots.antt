-- The newest root.
use Rattle.std.proofs.Common.{◌≡◌, ℕ, suc, ◌-◌, ◌<◌, List, [], ◌∷◌, length, cond, Option, Some, None, nat_le, option_and_then, refl, sym, ap, ◌∙◌, subst, arith, inl, inr}
use Rattle.std.specs.Prelude.{IfSome}
use Rattle.std.proofs.lemmas.Bool.{cases_Bool, leb-false}
use Rattle.view_sets.specs.Slots.{newest}
use Rattle.adb_model.specs.Lists.{last}
use Rattle.book_parts.specs.Changes.{rooted_by}

pub newest_is : (xs : List ℕ) → newest xs ≡ last xs
newest_is [] = refl
newest_is (x ∷ []) = refl
newest_is (x ∷ y ∷ ys) = let n : length (x ∷ y ∷ ys) - 1 ≡ suc (length (y ∷ ys) - 1) = omega arith in rw n (newest_is (y ∷ ys) ∙ last_more x y ys)
  where
    last_more : (x y : ℕ) (ys : List ℕ) → last (y ∷ ys) ≡ last (x ∷ y ∷ ys)
    last_more x y ys = refl

-- a slot that no root stands in the way of is above the newest
pub above_newest : (roots : List ℕ) (slot : ℕ) → rooted_by roots slot ≡ None → IfSome (newest roots) (λ root. root < slot)
above_newest roots slot free = subst (λ (o : Option ℕ). IfSome o (λ root. root < slot)) (sym (newest_is roots)) (by (last roots) free)
  where
    by : (o : Option ℕ) → option_and_then (λ n. cond (nat_le slot n) (Some n) None) o ≡ None → IfSome o (λ root. root < slot)
    by None e = tt
    by (Some n) e = elim (cases_Bool (nat_le slot n)) [
      | inl t ↦ let h : Some n ≡ None = sym (ap (λ b. cond b (Some n) None) t) ∙ e in absurd cc
      | inr f ↦ leb-false slot n f
    ]
