-- The versions of each key rise, and still do after an edit of one key.
use Rattle.std.proofs.Common.{◌≡◌, ℕ, suc, ◌<◌, List, [], ◌∷◌, ◌++◌, get_or, eqb, ltb, cond, Bool, true, false, All, refl, sym, subst, inl, inr, arith}
use Rattle.std.specs.List.{filter}
use Rattle.std.specs.Str.{bytes_eq}
use Rattle.std.proofs.lemmas.Bool.{cases_Bool, ltb-true}
use Rattle.std.proofs.lemmas.List.Elements.{All-append, All-cons, All-weaker, filter_passes}
use Rattle.std.proofs.lemmas.List.Kept.{AllPairs-cons, AllPairs-filter}
use Rattle.slot_list.specs.declared.Place.{Place}
use Rattle.slot_list.specs.declared.Version.{Version}
use Rattle.slot_list.specs.Versions.{VersionsRise, put, without, rehomed}
use Rattle.accounts_index.specs.Index.{Index, Kept, kept, IsWith, ListsRise}
use Rattle.accounts_index.proofs.Walks.{pairs_map}

abbrev Below : Version → Version → Type 0
Below v w = v.slot < w.slot

rise_append : (xs ys : List Version) → VersionsRise xs → VersionsRise ys → All (λ x. All (Below x) ys) xs → VersionsRise (xs ++ ys)
rise_append [] ys low high cross = high
rise_append (x ∷ xs) ys low high cross =
    AllPairs-cons Below x (xs ++ ys)
    (All-append (Below x) xs ys (λ k d lt. low 0 (suc k) d (omega arith) (omega (arith, lt))) (cross 0 x (omega arith)))
    (rise_append xs ys (λ i j d lt within. low (suc i) (suc j) d (omega (arith, lt)) (omega (arith, within))) high (λ k d lt. cross (suc k) d (omega arith)))

-- ---- after each kind of edit

module _ (v : Version) (versions : List Version) where
  abbrev lower : Version → Bool
  lower w = ltb w.slot v.slot

  abbrev upper : Version → Bool
  upper w = ltb v.slot w.slot

  above : All (Below v) (filter upper versions)
  above = All-weaker (λ w. upper w ≡ true) (Below v) (λ w passes. ltb-true v.slot w.slot passes) _ (filter_passes upper versions)

  around : All (λ x. All (Below x) (v ∷ filter upper versions)) (filter lower versions)
  around = All-weaker (λ w. lower w ≡ true) (λ x. All (Below x) (v ∷ filter upper versions))
      (λ w passes.
      let lt = ltb-true w.slot v.slot passes in
      All-cons (Below w) v (filter upper versions) lt (All-weaker (Below v) (Below w) (λ x over. omega (arith, lt, over)) _ above))
      _ (filter_passes lower versions)

  pub put_rises : VersionsRise versions → VersionsRise (put v versions)
  put_rises rise =
      rise_append (filter lower versions) (v ∷ filter upper versions) (AllPairs-filter Below lower versions rise)
      (AllPairs-cons Below v (filter upper versions) above (AllPairs-filter Below upper versions rise)) around

pub without_rises : (slot : ℕ) (versions : List Version) → VersionsRise versions → VersionsRise (without slot versions)
without_rises slot versions rise = AllPairs-filter Below _ versions rise

pub rehomed_rises : (slot : ℕ) (place : Place) (versions : List Version) → VersionsRise versions → VersionsRise (rehomed slot place versions)
rehomed_rises slot place versions rise =
    let f = λ (v : Version). cond (eqb v.slot slot) (record v { place = place }) v in
    pairs_map Below f versions (λ i j d lt within. omega (arith, same (get_or versions i d), same (get_or versions j d), rise i j d lt within))
  where
    same : (v : Version) → (cond (eqb v.slot slot) (record v { place = place }) v).slot ≡ v.slot
    same v = elim (cases_Bool (eqb v.slot slot)) [ inl here ↦ rw here refl | inr other ↦ rw other refl ]

-- ---- of the whole index

module _ (index new : Index) (key : List ℕ) (change : Kept → Kept) where
  -- a change that keeps the order of the versions of a key
  pub lists_changed : ListsRise index → ((k : Kept) → VersionsRise k.versions → VersionsRise (change k).versions) → IsWith index new key (change (kept index key)) → ListsRise new
  lists_changed rise keeps edit q = subst (λ (k : Kept). VersionsRise k.versions) (sym (edit q)) (by (bytes_eq key q))
    where
      by : (b : Bool) → VersionsRise (cond b (change (kept index key)) (kept index q)).versions
      by true = keeps (kept index key) (rise key)
      by false = rise q

pub lists_seen : (index joined : Index) → joined ≡ index → ListsRise joined → ListsRise index
lists_seen index joined view rise = subst ListsRise view rise

pub lists_same : (index joined : Index) → joined ≡ index → ListsRise index → ListsRise joined
lists_same index joined same rise = subst ListsRise (sym same) rise

pub no_lists : (joined : Index) → joined ≡ [] → ListsRise joined
no_lists joined none = subst ListsRise (sym none) (λ q i j d lt within. absurd (omega (arith, within)))
