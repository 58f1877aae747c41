-- Steps of the flags of a pair, and of what is found of it.
use Rattle.std.proofs.Common.{◌≡◌, ℕ, List, [], ◌∷◌, ◌++◌, length, Bool, true, false, cond, not, ◌&&◌, ◌||◌, Option, Some, None, option_map, refl, sym, ap, ◌∙◌, inl, inr, arith}
use Rattle.std.specs.Str.{bytes_eq}
use Rattle.std.proofs.lemmas.Bool.{cases_Bool}
use Rattle.slot_list.specs.declared.Place.{Place}
use Rattle.slot_list.specs.declared.Place.TheVariants.{Stored}
use Rattle.adb_model.specs.State.{Row}
use Rattle.adb_model.specs.Presence.{has_row}
use Rattle.book_parts.specs.Flushes.{place_of, moved}
use Rattle.flush_plan.proofs.Edits.{at_place}

-- a pair of the slot that joins, b, or is there, h
pub joins_last : (c h b e : Bool) → cond b (((c && h) || e) || (c || false)) ((c && h) || e) ≡ ((c && (h || b)) || e)
joins_last true true true e = refl
joins_last true true false e = refl
joins_last true false true true = refl
joins_last true false true false = refl
joins_last true false false e = refl
joins_last false h true true = refl
joins_last false h true false = refl
joins_last false h false e = refl

pub joins : (c h b e : Bool) → cond b (c || ((c && h) || e)) ((c && h) || e) ≡ ((c && (h || b)) || e)
joins true true true e = refl
joins true true false e = refl
joins true false true e = refl
joins true false false e = refl
joins false h true e = refl
joins false h false e = refl

pub parts : (c h b e : Bool) → cond b (not c && (not (c && h) && e)) (not (c && h) && e) ≡ (not (c && (h || b)) && e)
parts true true true e = refl
parts true true false e = refl
parts true false true e = refl
parts true false false e = refl
parts false h true e = refl
parts false h false e = refl

-- what joined and parts again, where it was not there
pub back : (b e : Bool) → (b ≡ true → e ≡ false) → (not b && (b || e)) ≡ e
back true e none = sym (none refl)
back false e none = refl

-- ---- places

pub place_none : (rows : List Row) (places : List ℕ) (k : List ℕ) → has_row k rows ≡ false → place_of rows places k ≡ None
place_none [] places k e = refl
place_none (x ∷ xs) [] k e = refl
place_none (x ∷ xs) (p ∷ ps) k e = elim (cases_Bool (bytes_eq x.key k)) [
  | inl t ↦ let h : true ≡ false = sym (ap (λ b. b || has_row k xs) t) ∙ e in absurd cc
  | inr f ↦ rw f (place_none xs ps k (sym (ap (λ b. b || has_row k xs) f) ∙ e))
]

pub place_more : (rows : List Row) (places : List ℕ) (r : Row) (p : ℕ) (k : List ℕ) → length places ≡ length rows
    → place_of (rows ++ (r ∷ [])) (places ++ (p ∷ [])) k ≡ cond (has_row k rows) (place_of rows places k) (cond (bytes_eq r.key k) (Some p) None)
place_more [] [] r p k e = elim (cases_Bool (bytes_eq r.key k)) [
  | inl t ↦ rw t refl
  | inr f ↦ rw f refl
]
place_more [] (q ∷ qs) r p k e = absurd (omega (arith, e))
place_more (x ∷ xs) [] r p k e = absurd (omega (arith, e))
place_more (x ∷ xs) (q ∷ qs) r p k e = elim (cases_Bool (bytes_eq x.key k)) [
  | inl t ↦ rw t refl
  | inr f ↦ rw f (place_more xs qs r p k (omega (arith, e)))
]

abbrev Found : Type 0
Found = Option (Bool × Place)

abbrev found : ℕ → Bool → Option ℕ → Found → Found
found cell c o v = moved cell (cond c o None) v

pub moves : (cell p : ℕ) (c h b : Bool) (o : Option ℕ) (v : Found) → (h ≡ false → o ≡ None) → (b ≡ true → h ≡ false)
    → cond b (cond c (option_map (at_place (Stored cell p)) (found cell c o v)) (found cell c o v)) (found cell c o v) ≡ found cell c (cond h o (cond b (Some p) None)) v
moves cell p true true true o v none new = let h : true ≡ false = new refl in absurd cc
moves cell p true true false o v none new = refl
moves cell p true false true o v none new = let e : o ≡ None = none refl in rw e refl
moves cell p true false false o v none new = ap (λ (q : Option ℕ). moved cell q v) (none refl)
moves cell p false h true o v none new = refl
moves cell p false h false o v none new = refl
