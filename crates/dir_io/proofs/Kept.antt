-- Look-ups of kept files, before and after one file changes.
use Rattle.std.proofs.Common.{◌≡◌, ℕ, zero, suc, ◌+◌, ◌<◌, ◌≤◌, List, [], ◌∷◌, ◌++◌, length, set, get_or, Bool, true, false, cond, nat_lt, Some, None, refl, sym, ap, ◌∙◌, inl, inr, arith, string_bytes}
use Rattle.std.specs.List.{position, position_or_len}
use Rattle.std.specs.Str.{bytes_eq}
use Rattle.std.specs.Cmp.Lexicographic.{bytes_decides}
use Rattle.std.specs.declared.string.String.{String}
use Rattle.std.specs.declared.vec.Vec.{Vec}
use Rattle.std.proofs.lemmas.Bool.{cases_Bool, true≢false, ltb-false}
use Rattle.std.proofs.lemmas.List.Quantifiers.{position-Some}
use Rattle.dir_io.specs.Files.{file_of, IsWith}
use Rattle.dir_io.specs.Kept.{seen}

cond_twice : {A : Type 0} (b : Bool) (x y z : A) → cond b x z ≡ cond b x (cond b y z)
cond_twice true x y z = refl
cond_twice false x y z = refl

cond_swap : {A : Type 0} (a b : Bool) (x y z : A) → (a ≡ true → b ≡ true → ⊥) → cond a x (cond b y z) ≡ cond b y (cond a x z)
cond_swap true true x y z apart = absurd (apart refl refl)
cond_swap true false x y z apart = refl
cond_swap false b x y z apart = refl

pub same_bytes : (a b : List ℕ) → bytes_eq a b ≡ true → a ≡ b
same_bytes a b e = (bytes_decides a b).0 e

pub bytes_eq-self : (a : List ℕ) → bytes_eq a a ≡ true
bytes_eq-self a = (bytes_decides a a).1 refl

-- two names that differ are not both this one
apart : (a b q : List ℕ) → bytes_eq a b ≡ false → bytes_eq a q ≡ true → bytes_eq b q ≡ true → ⊥
apart a b q differs p r = true≢false (sym (bytes_eq-self a) ∙ ap (bytes_eq a) (same_bytes a q p ∙ sym (same_bytes b q r)) ∙ differs)

module _ {A B : Type 0} where
  abbrev pub is_named : List ℕ → String A × Vec ℕ B → Bool
  is_named name f = bytes_eq (string_bytes f.0) name

  none_before : (es : List (String A × Vec ℕ B)) (q : List ℕ) → length es ≤ position_or_len (is_named q) es → file_of (seen es) q ≡ None
  none_before [] q le = refl
  none_before (e ∷ es) q le = elim (cases_Bool (is_named q e)) [
    | inl here ↦
        let first : position_or_len (is_named q) (e ∷ es) ≡ 0 = rw here refl in
        absurd (omega (arith, first))
    | inr other ↦
        let later : position_or_len (is_named q) (e ∷ es) ≡ 1 + position_or_len (is_named q) es = rw other refl in
        rw other (none_before es q (omega (arith, later)))
  ]

  pub look_none : (es : List (String A × Vec ℕ B)) (q : List ℕ) → position (is_named q) es ≡ None → file_of (seen es) q ≡ None
  look_none es q none = elim (cases_Bool (nat_lt (position_or_len (is_named q) es) (length es))) [
    | inl within ↦ let is : Some (position_or_len (is_named q) es) ≡ None = rw within at none in absurd cc
    | inr past ↦ none_before es q (ltb-false _ _ past)
  ]

  there : (es : List (String A × Vec ℕ B)) (q : List ℕ) (i : ℕ) (d : String A × Vec ℕ B) → i < length es → is_named q (get_or es i d) ≡ true → ((k : ℕ) → k < i → is_named q (get_or es k d) ≡ false) → file_of (seen es) q ≡ Some (get_or es i d).1.items
  there [] q i d lt here before = absurd (omega arith)
  there (e ∷ es) q zero d lt here before = rw here refl
  there (e ∷ es) q (suc i) d lt here before = rw (before 0 (omega arith)) (there es q i d (omega arith) here (λ k below. before (suc k) (omega arith)))

  pub look_there : (es : List (String A × Vec ℕ B)) (q : List ℕ) (i : ℕ) (d : String A × Vec ℕ B) → position (is_named q) es ≡ Some i → file_of (seen es) q ≡ Some (get_or es i d).1.items
  look_there es q i d found =
      let at = position-Some (is_named q) es i d found in
      there es q i d at.0 at.1 at.2

  written : (es : List (String A × Vec ℕ B)) (q : List ℕ) (i : ℕ) (d x : String A × Vec ℕ B) → string_bytes x.0 ≡ q → i < length es → is_named q (get_or es i d) ≡ true → ((k : ℕ) → k < i → is_named q (get_or es k d) ≡ false) → IsWith (seen es) (seen (set es i x)) q x.1.items
  written [] q i d x is lt here before other = absurd (omega arith)
  written (e ∷ es) q zero d x is lt here before other =
      ap (λ k. cond (bytes_eq k other) (Some x.1.items) (file_of (seen es) other)) is
      ∙ cond_twice (bytes_eq q other) (Some x.1.items) (Some e.1.items) (file_of (seen es) other)
      ∙ ap (λ k. cond (bytes_eq q other) (Some x.1.items) (cond (bytes_eq k other) (Some e.1.items) (file_of (seen es) other))) (sym (same_bytes (string_bytes e.0) q here))
  written (e ∷ es) q (suc i) d x is lt here before other =
      ap (cond (bytes_eq (string_bytes e.0) other) (Some e.1.items)) (written es q i d x is (omega arith) here (λ k below. before (suc k) (omega arith)) other)
      ∙ cond_swap (bytes_eq (string_bytes e.0) other) (bytes_eq q other) (Some e.1.items) (Some x.1.items) (file_of (seen es) other) (apart (string_bytes e.0) q other (before 0 (omega arith)))

  -- a file's bytes are put in the place where it stands first
  pub with_set : (es : List (String A × Vec ℕ B)) (q : List ℕ) (i : ℕ) (d : String A × Vec ℕ B) (x : String A × Vec ℕ B) → position (is_named q) es ≡ Some i → x.0 ≡ (get_or es i d).0 → IsWith (seen es) (seen (set es i x)) q x.1.items
  with_set es q i d x found same =
      let at = position-Some (is_named q) es i d found in
      written es q i d x (ap string_bytes same ∙ same_bytes _ q at.1) at.0 at.1 at.2

  pushed : (es : List (String A × Vec ℕ B)) (q : List ℕ) (x : String A × Vec ℕ B) → string_bytes x.0 ≡ q → file_of (seen es) q ≡ None → IsWith (seen es) (seen (es ++ x ∷ [])) q x.1.items
  pushed [] q x is none other = ap (λ k. cond (bytes_eq k other) (Some x.1.items) None) is
  pushed (e ∷ es) q x is none other = elim (cases_Bool (is_named q e)) [
    | inl here ↦ let some : Some e.1.items ≡ None = rw here at none in absurd cc
    | inr differs ↦
        ap (cond (bytes_eq (string_bytes e.0) other) (Some e.1.items)) (pushed es q x is (rw differs at none) other)
        ∙ cond_swap (bytes_eq (string_bytes e.0) other) (bytes_eq q other) (Some e.1.items) (Some x.1.items) (file_of (seen es) other) (apart (string_bytes e.0) q other differs)
  ]

  -- a file of a new name is put behind the others
  pub with_push : (es : List (String A × Vec ℕ B)) (q : List ℕ) (x : String A × Vec ℕ B) → string_bytes x.0 ≡ q → position (is_named q) es ≡ None → IsWith (seen es) (seen (es ++ x ∷ [])) q x.1.items
  with_push es q x is none = pushed es q x is (look_none es q none)
