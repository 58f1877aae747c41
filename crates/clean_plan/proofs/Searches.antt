-- What a search of rising versions finds.
use Rattle.std.proofs.Common.{◌≡◌, ℕ, zero, suc, ◌<◌, ◌≤◌, List, [], ◌∷◌, length, get_or, Bool, true, false, eqb, leb, ◌&&◌, Option, Some, None, is_some, option_map, refl, sym, ap, ◌∙◌, inl, inr, arith}
use Rattle.std.specs.List.{All, AllWithin}
use Rattle.std.specs.List.Sorted.{IsNonDecreasingBy}
use Rattle.std.proofs.lemmas.Bool.{cases_Bool, cases_lt, eqb-true, eq-eqb, ne_eqb, leb-true, le-leb, true≢false}
use Rattle.slot_list.specs.declared.Version.{Version}
use Rattle.slot_list.specs.Latest.{sees, IsLatest}
use Rattle.slot_list.specs.Versions.{at, VersionsRise}
use Rattle.accounts_index.specs.Index.{is_stored}
use Rattle.adb_model.specs.Lists.{among}
use Rattle.std.proofs.lemmas.List.{get_or_default}
use Rattle.book_parts.specs.Reclaims.{is_stored_at, IsNewestShadow}
use Rattle.clean_plan.specs.Lists.{IsNextStored}

-- ---- the version of a slot

-- where no version of the slot is stored
pub not_stored : (vs : List Version) (s : ℕ) → All (λ v. v.slot ≡ s → is_stored v.place ≡ false) vs → is_stored_at vs s ≡ false
not_stored [] s none = refl
not_stored (x ∷ vs) s none = elim (cases_Bool (eqb x.slot s)) [
  | inl here ↦ rw here (none 0 x (omega arith) (eqb-true x.slot s here))
  | inr other ↦ rw other (not_stored vs s (λ k d lt. none (suc k) d (omega arith)))
]

-- a version is found at its slot
pub found_here : (vs : List Version) (k : ℕ) (d : Version) → VersionsRise vs → k < length vs → at (get_or vs k d).slot vs ≡ Some (get_or vs k d)
found_here [] k d rise lt = absurd (omega arith)
found_here (x ∷ vs) zero d rise lt = rw (eq-eqb x.slot x.slot refl) refl
found_here (x ∷ vs) (suc k) d rise lt =
    let below : x.slot < (get_or vs k d).slot = rise 0 (suc k) d (omega arith) lt in
    rw (ne_eqb x.slot (get_or vs k d).slot (λ e. omega arith))
    (found_here vs k d (λ i j d lo hi. rise (suc i) (suc j) d (omega (arith, lo)) (omega (arith, hi))) (omega arith))

-- ---- the newest root that has a version

both : (a b : Bool) → (a && b) ≡ true → (a ≡ true) × (b ≡ true)
both true true e = (refl, refl)
both true false e = absurd (true≢false (sym e))
both false b e = absurd (true≢false (sym e))

passes_of : (roots : List ℕ) (cleaned s : ℕ) → sees [] roots cleaned s ≡ true → (among s roots ≡ true) × (s ≤ cleaned)
passes_of roots cleaned s e = let b = both (among s roots) (leb s cleaned) e in (b.0, leb-true s cleaned b.1)

passes_from : (roots : List ℕ) (cleaned s : ℕ) → among s roots ≡ true → s ≤ cleaned → sees [] roots cleaned s ≡ true
passes_from roots cleaned s root le = rw (root, le-leb s cleaned le) refl

pub newest_is : (roots : List ℕ) (cleaned : ℕ) (vs : List Version) (o : Option Version) → IsLatest (sees [] roots cleaned) vs o → IsNewestShadow roots cleaned vs (option_map (λ v. v.slot) o)
newest_is roots cleaned vs None latest = λ r shadow.
    true≢false (sym shadow.version ∙ ap is_some (latest r (passes_from roots cleaned r shadow.is_root shadow.upto)))
newest_is roots cleaned vs (Some v) latest =
    let passes = passes_of roots cleaned v.slot latest.1 in (
      record { is_root = passes.0; upto = passes.1; version = ap is_some latest.0 },
      λ r above shadow. true≢false (sym shadow.version ∙ ap is_some (latest.2 r above (passes_from roots cleaned r shadow.is_root shadow.upto))),
    )

-- ---- the next stored version

-- of the versions before a place, those from a slot on are not stored
abbrev pub NoneBefore : List Version → ℕ → ℕ → Type 0
NoneBefore vs from place = AllWithin (λ v. from ≤ v.slot → is_stored v.place ≡ false) vs 0 place

none_until : (vs : List Version) (from x place : ℕ) → VersionsRise vs → NoneBefore vs from place → ((d : Version) → place < length vs → x ≤ (get_or vs place d).slot)
    → (s : ℕ) → from ≤ s → s < x → is_stored_at vs s ≡ false
none_until vs from x place rise none over s lo hi = not_stored vs s (λ k d lt e. elim (cases_lt k place) [
  | inl before ↦ none k d (omega arith) before (omega (arith, e, lo))
  | inr after ↦
      let past : ⊥ = elim (cases_lt place k) [
        | inl later ↦ omega (arith, e, hi, over d (omega (arith, lt, later)), rise place k d later lt)
        | inr same ↦ let here : k ≡ place = omega arith in omega (arith, e, hi, ap (λ n. (get_or vs n d).slot) here, over d (omega (arith, lt)))
      ] in absurd past
])

module _ (vs : List Version) (from bound place : ℕ) (rise : VersionsRise vs) (none : NoneBefore vs from place) where
  pub none_at_end : length vs ≤ place → IsNextStored vs from bound None
  none_at_end end s lo hi = none_until vs from bound place rise none (λ d lt. absurd (omega (arith, end, lt))) s lo hi

  module _ (d : Version) (lt : place < length vs) where
    slot_at : (e : Version) → (get_or vs place e).slot ≡ (get_or vs place d).slot
    slot_at e = ap (λ (w : Version). w.slot) (get_or_default vs place e d lt)

    pub none_at_bound : bound ≤ (get_or vs place d).slot → IsNextStored vs from bound None
    none_at_bound over s lo hi = none_until vs from bound place rise none (λ e lt. omega (arith, over, slot_at e)) s lo hi

    pub found_next : from ≤ (get_or vs place d).slot → (get_or vs place d).slot < bound → is_stored (get_or vs place d).place ≡ true → IsNextStored vs from bound (Some (get_or vs place d).slot)
    found_next lo hi stored =
        let there = found_here vs place d rise lt in
        (lo, hi, rw there stored, λ s low high. none_until vs from (get_or vs place d).slot place rise none (λ e lt. omega (arith, slot_at e)) s low high)

-- slots don't fall
pub not_falling : (vs : List Version) → VersionsRise vs → IsNonDecreasingBy (λ v. v.slot) vs
not_falling vs rise i j d le lt = elim (cases_lt i j) [
  | inl below ↦ omega (arith, rise i j d below lt)
  | inr same ↦ let e : i ≡ j = omega arith in rw e (omega arith)
]
