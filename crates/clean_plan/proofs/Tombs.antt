-- The lowest version of a key, where it is a tomb that hides nothing below.
use Rattle.std.proofs.Common.{◌≡◌, ◌≢◌, ℕ, zero, suc, ◌<◌, ◌≤◌, List, [], ◌∷◌, length, get_or, Bool, true, false, eqb, leb, ◌&&◌, Some, None, refl, sym, ap, ◌∙◌, inl, inr, arith}
use Rattle.std.specs.List.{All}
use Rattle.std.specs.List.Sorted.{IsStrictlyIncreasing}
use Rattle.std.specs.Prelude.{slice_get}
use Rattle.std.proofs.lemmas.Bool.{cases_lt, cases_order, eq-eqb, ne_eqb, leb-true, le-leb, true≢false, false≢true}
use Rattle.std.proofs.lemmas.List.Folds.{list_any_none}
use Rattle.std.proofs.lemmas.List.Kept.{AllPairs-from_increasing}
use Rattle.slot_list.specs.declared.Version.{Version}
use Rattle.slot_list.specs.Versions.{at, VersionsRise}
use Rattle.accounts_index.specs.Index.{is_stored}
use Rattle.adb_model.specs.Lists.{among}
use Rattle.book_parts.specs.Reclaims.{is_stored_tomb, IsLowestTomb}
use Rattle.clean_plan.specs.Lists.{TellsLowestTomb}

-- a stored tomb up to the cleaned slot
abbrev pub is_buried : Version → ℕ → Bool
is_buried v cleaned = (v.tomb && is_stored v.place) && leb v.slot cleaned

both : (a b : Bool) → (a && b) ≡ true → (a ≡ true) × (b ≡ true)
both true true e = (refl, refl)
both true false e = absurd (true≢false (sym e))
both false b e = absurd (true≢false (sym e))

none_at : (vs : List Version) (s : ℕ) → All (λ v. v.slot ≢ s) vs → at s vs ≡ None
none_at [] s none = refl
none_at (x ∷ vs) s none = rw (ne_eqb x.slot s (none 0 x (omega arith))) (none_at vs s (λ k d lt. none (suc k) d (omega arith)))

no_tomb : (vs : List Version) (s : ℕ) → at s vs ≡ None → is_stored_tomb vs s ≡ true → ⊥
no_tomb vs s none tomb = false≢true (rw none at tomb)

pub no_versions : (cleaned : ℕ) (held : List ℕ) → TellsLowestTomb cleaned [] held None
no_versions cleaned held s lowest = false≢true lowest.tomb

pub first_of : {A : Type 0} (xs : List A) (x : A) → slice_get xs 0 ≡ Some x → (rest : List A) × (xs ≡ x ∷ rest)
first_of [] x e = absurd cc
first_of (y ∷ ys) x e = (ys, ap (λ z. z ∷ ys) cc)

-- of versions of which x is the first
module _ (x : Version) (vs : List Version) (rise : VersionsRise (x ∷ vs)) (cleaned : ℕ) (held : List ℕ) where
  here : at x.slot (x ∷ vs) ≡ Some x
  here = rw (eq-eqb x.slot x.slot refl) refl

  below : (s : ℕ) → s < x.slot → at s (x ∷ vs) ≡ None
  below s lt = none_at (x ∷ vs) s (λ k d within e. above k d within e)
    where
      above : (k : ℕ) (d : Version) → k < length (x ∷ vs) → (get_or (x ∷ vs) k d).slot ≡ s → ⊥
      above zero d within e = omega (arith, e)
      above (suc k) d within e = omega (arith, e, rise 0 (suc k) d (omega arith) within)

  -- no other version is a lowest tomb
  first_alone : (s : ℕ) → IsLowestTomb cleaned (x ∷ vs) held s → s ≡ x.slot
  first_alone s lowest = elim (cases_lt s x.slot) [
    | inl lt ↦ absurd (no_tomb (x ∷ vs) s (below s lt) lowest.tomb)
    | inr ge ↦ elim (cases_lt x.slot s) [
      | inl lt ↦ let clash : None ≡ Some x = sym ((lowest.lowest x.slot lt).0) ∙ here in absurd cc
      | inr le ↦ omega arith
    ]
  ]

  tomb_is : is_stored_tomb (x ∷ vs) x.slot ≡ (x.tomb && is_stored x.place)
  tomb_is = rw here refl

  pub not_buried : is_buried x cleaned ≡ false → TellsLowestTomb cleaned (x ∷ vs) held None
  not_buried fails s lowest =
      let is = first_alone s lowest in
      let tomb : (x.tomb && is_stored x.place) ≡ true = sym tomb_is ∙ ap (is_stored_tomb (x ∷ vs)) (sym is) ∙ lowest.tomb in
      let upto : leb x.slot cleaned ≡ true = le-leb x.slot cleaned (omega (arith, is, lowest.upto)) in
      true≢false (sym (rw (tomb, upto) refl) ∙ fails)

  pub held_below : (slot : ℕ) → among slot held ≡ true → slot < x.slot → TellsLowestTomb cleaned (x ∷ vs) held None
  held_below slot is lt s lowest =
      let same = first_alone s lowest in
      true≢false (sym is ∙ (lowest.lowest slot (omega arith)).1)

  pub is_lowest : is_buried x cleaned ≡ true → All (λ s. x.slot ≤ s) held → TellsLowestTomb cleaned (x ∷ vs) held (Some x.slot)
  is_lowest passes over =
      let parts = both (x.tomb && is_stored x.place) (leb x.slot cleaned) passes in
      record {
        tomb = tomb_is ∙ parts.0;
        upto = leb-true x.slot cleaned parts.1;
        lowest = λ q lt. (below q lt, list_any_none (λ s. eqb s q) held (λ k d within. ne_eqb (get_or held k d) q (λ e. omega (arith, e, lt, over k d within))));
      }

-- ---- the slots in which the key is held

pub among_first : (slot : ℕ) (held : List ℕ) → slice_get held 0 ≡ Some slot → among slot held ≡ true
among_first slot held first =
    let split = first_of held slot first in
    ap (among slot) split.1 ∙ rw (eq-eqb slot slot refl) refl

pub all_over : (slot first : ℕ) (held : List ℕ) → IsStrictlyIncreasing held → slice_get held 0 ≡ Some first → slot ≤ first → All (λ s. slot ≤ s) held
all_over slot first held rise is le = by held rise (first_of held first is).1
  where
    by : (xs : List ℕ) → IsStrictlyIncreasing xs → xs ≡ first ∷ (first_of held first is).0 → All (λ s. slot ≤ s) xs
    by [] rise same k d lt = absurd cc
    by (x ∷ xs) rise same zero d lt = let e : x ≡ first = cc in omega arith
    by (x ∷ xs) rise same (suc k) d lt = let e : x ≡ first = cc in omega (arith, le, e, AllPairs-from_increasing (x ∷ xs) rise 0 (suc k) d (omega arith) lt)

pub none_held : (slot : ℕ) (held : List ℕ) → None ≡ slice_get held 0 → All (λ s. slot ≤ s) held
none_held slot [] is k d lt = absurd (omega (arith, lt))
none_held slot (x ∷ held) is k d lt = let clash : None ≡ Some x = is in absurd cc

-- two lowest tombs are one
pub one_lowest : (cleaned : ℕ) (vs : List Version) (held : List ℕ) (a b : ℕ) → IsLowestTomb cleaned vs held a → IsLowestTomb cleaned vs held b → a ≡ b
one_lowest cleaned vs held a b first second = elim (cases_order a b) [
  | inl same ↦ same
  | inr (inl lt) ↦ absurd (no_tomb vs a ((second.lowest a lt).0) first.tomb)
  | inr (inr gt) ↦ absurd (no_tomb vs b ((first.lowest b gt).0) second.tomb)
]
