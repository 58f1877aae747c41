-- The first key of an ordered index that has a version is the least.
use Rattle.std.proofs.Common.{◌≡◌, ℕ, suc, ◌≤◌, List, [], ◌∷◌, length, Bool, true, false, cond, nat_lt, ◌&&◌, Option, Some, None, unwrap_or, option_map, refl, sym, ap, ◌∙◌, subst, inl, inr, ◌⊎◌, arith, All, IsTrue}
use Rattle.std.specs.List.{find}
use Rattle.std.specs.Map.{lookup}
use Rattle.std.specs.Str.{bytes_eq}
use Rattle.std.specs.Ordering.{is_eq, ordering_reverse}
use Rattle.std.specs.declared.cmp.Ordering.TheVariants.{Less}
use Rattle.std.specs.Cmp.Lexicographic.{texts_ties, bytes_decides, nat_list_cmp_total}
use Rattle.std.proofs.lemmas.Bool.{cases_Bool, true≢false, ltb-false, eq-eqb, and_parts}
use Rattle.slot_list.specs.declared.Version.{Version}
use Rattle.slot_list.specs.Versions.{at}
use Rattle.accounts_index.specs.Index.{Kept, Index, kept, nothing, key_cmp, is_above, IsOrdered, key_after}
use Rattle.adb_model.specs.State.{State}
use Rattle.adb_model.specs.Presence.{is_present, is_cached, ends_in_tomb}
use Rattle.book_parts.specs.Parts.{Parts}
use Rattle.book_parts.specs.Reflects.{Reflects, found_of, mark_of}
use Rattle.book_parts.specs.Keys.{IsNextKey, IsAbsent}
use Rattle.book_parts.proofs.Lookups.{unmarked, marked}

abbrev pub Entry : Type 0
Entry = List ℕ × Kept

abbrev pub versions : Index → List ℕ → List Version
versions es k = (kept es k).versions

pub same_bytes : (a b : List ℕ) → bytes_eq a b ≡ true → a ≡ b
same_bytes a b e = (bytes_decides a b).0 e

pub bytes_eq-self : (a : List ℕ) → bytes_eq a a ≡ true
bytes_eq-self a = (bytes_decides a a).1 refl

pub less_apart : (a b : List ℕ) → key_cmp a b ≡ Less → bytes_eq a b ≡ false
less_apart a b e = texts_ties a b ∙ ap is_eq e

pub less_apart_turned : (a b : List ℕ) → key_cmp a b ≡ Less → bytes_eq b a ≡ false
less_apart_turned a b e = texts_ties b a ∙ ap is_eq (nat_list_cmp_total.antisymm b a ∙ ap ordering_reverse e)

no_versions : (vs : List Version) → nat_lt 0 (length vs) ≡ false → vs ≡ []
no_versions [] e = refl
no_versions (v ∷ vs) e = let h : length (v ∷ vs) ≤ 0 = ltb-false 0 (length (v ∷ vs)) e in absurd (omega (arith, h))

module _ (e : Entry) (es : Index) (k : List ℕ) where
  pub kept_here : bytes_eq e.0 k ≡ true → kept (e ∷ es) k ≡ e.1
  kept_here t = ap (λ b. unwrap_or (cond b (Some e.1) (lookup (λ q. bytes_eq q k) es)) nothing) t

  pub kept_later : bytes_eq e.0 k ≡ false → kept (e ∷ es) k ≡ kept es k
  kept_later f = ap (λ b. unwrap_or (cond b (Some e.1) (lookup (λ q. bytes_eq q k) es)) nothing) f

-- a key below all is not kept
pub kept_below : (es : Index) (x k : List ℕ) → key_cmp k x ≡ Less → All (λ e. key_cmp x e.0 ≡ Less) es → kept es k ≡ nothing
kept_below [] x k less all = refl
kept_below (e ∷ es) x k less all =
    kept_later e es k (less_apart_turned k e.0 (nat_list_cmp_total.trans k x e.0 less (all 0 e (omega arith))))
    ∙ kept_below es x k less (λ i d lt. all (suc i) d (omega (arith, lt)))

-- what holds of all holds of what is found
found_holds : (P : Entry → Type 0) (test : Entry → Bool) (es : Index) (e : Entry) → All P es → find test es ≡ Some e → P e
found_holds P test [] e all is = let h : None ≡ Some e = is in absurd cc
found_holds P test (x ∷ es) e all is = by (cases_Bool (test x)) (found_holds P test es e (λ i d lt. all (suc i) d (omega (arith, lt))))
  where
    by : (test x ≡ true) ⊎ (test x ≡ false) → (find test es ≡ Some e → P e) → P e
    by (inl t) rest = let h : Some x ≡ Some e = sym (ap (λ b. cond b (Some x) (find test es)) t) ∙ is in let same : x ≡ e = cc in subst P same (all 0 x (omega arith))
    by (inr f) rest = rest (sym (ap (λ b. cond b (Some x) (find test es)) f) ∙ is)

module _ (after : Option (List ℕ)) where
  abbrev pub passes : Entry → Bool
  passes e = is_above after e.0 && nat_lt 0 (length e.1.versions)

  -- a key above that does not pass has no version
  failed : (e : Entry) → is_above after e.0 ≡ true → passes e ≡ false → e.1.versions ≡ []
  failed e above f = no_versions e.1.versions (sym (ap (λ b. b && nat_lt 0 (length e.1.versions)) above) ∙ f)

  abbrev pub found_in : Index → Option Entry
  found_in es = find passes es

  pub none_found : (es : Index) → found_in es ≡ None → (k : List ℕ) → is_above after k ≡ true → versions es k ≡ []
  none_found [] none k above = refl
  none_found (e ∷ es) none k above = by (cases_Bool (passes e)) (cases_Bool (bytes_eq e.0 k)) (λ rest. none_found es rest k above)
    where
      by : (passes e ≡ true) ⊎ (passes e ≡ false) → (bytes_eq e.0 k ≡ true) ⊎ (bytes_eq e.0 k ≡ false) → (found_in es ≡ None → versions es k ≡ []) → versions (e ∷ es) k ≡ []
      by (inl t) same rest = let h : Some e ≡ None = sym (ap (λ b. cond b (Some e) (found_in es)) t) ∙ none in absurd cc
      by (inr f) (inl same) rest =
          ap (λ x. x.versions) (kept_here e es k same) ∙ failed e (ap (is_above after) (same_bytes e.0 k same) ∙ above) f
      by (inr f) (inr other) rest = ap (λ x. x.versions) (kept_later e es k other) ∙ rest (sym (ap (λ b. cond b (Some e) (found_in es)) f) ∙ none)

  -- the key is above, has a version, and no lower one above has
  pub record IsFirst (es : Index) (key : List ℕ) : Type 0 where
    pub above : is_above after key ≡ true
    pub some : nat_lt 0 (length (versions es key)) ≡ true
    pub least : (k : List ℕ) → is_above after k ≡ true → key_cmp k key ≡ Less → versions es k ≡ []

  pub first_found : (es : Index) (e : Entry) → IsOrdered es → found_in es ≡ Some e → IsFirst es e.0
  first_found [] e ordered is = let h : None ≡ Some e = is in absurd cc
  first_found (x ∷ es) e ordered is = by (cases_Bool (passes x)) (λ rest. first_found es e (λ i j d lt within. ordered (suc i) (suc j) d (omega (arith, lt)) (omega (arith, within))) rest)
    where
      higher : All (λ y. key_cmp x.0 y.0 ≡ Less) es
      higher i d lt = ordered 0 (suc i) d (omega arith) (omega (arith, lt))

      by : (passes x ≡ true) ⊎ (passes x ≡ false) → (found_in es ≡ Some e → IsFirst es e.0) → IsFirst (x ∷ es) e.0
      by (inl t) rest =
          let h : Some x ≡ Some e = sym (ap (λ b. cond b (Some x) (found_in es)) t) ∙ is in
          let same : x ≡ e = cc in
          let both = and_parts (is_above after x.0) (nat_lt 0 (length x.1.versions)) t in
          subst (λ (y : Entry). IsFirst (x ∷ es) y.0) same (record {
            above = both.0;
            some = ap (λ y. nat_lt 0 (length y.versions)) (kept_here x es x.0 (bytes_eq-self x.0)) ∙ both.1;
            least = λ k above less. ap (λ y. y.versions) (kept_later x es k (less_apart_turned k x.0 less) ∙ kept_below es x.0 k less higher);
          })
      by (inr f) rest =
          let later : found_in es ≡ Some e = sym (ap (λ b. cond b (Some x) (found_in es)) f) ∙ is in
          let first = rest later in
          let less = found_holds (λ y. key_cmp x.0 y.0 ≡ Less) passes es e higher later in
          record {
            above = first.above;
            some = ap (λ y. nat_lt 0 (length y.versions)) (kept_later x es e.0 (less_apart x.0 e.0 less)) ∙ first.some;
            least = λ k above below. least_of k above below first (cases_Bool (bytes_eq x.0 k));
          }
        where
          least_of : (k : List ℕ) → is_above after k ≡ true → key_cmp k e.0 ≡ Less → IsFirst es e.0 → (bytes_eq x.0 k ≡ true) ⊎ (bytes_eq x.0 k ≡ false) → versions (x ∷ es) k ≡ []
          least_of k above below first (inl same) = ap (λ y. y.versions) (kept_here x es k same) ∙ failed x (ap (is_above after) (same_bytes x.0 k same) ∙ above) f
          least_of k above below first (inr other) = ap (λ y. y.versions) (kept_later x es k other) ∙ first.least k above below

-- ---- in a state

absent : (p : Parts) (m : State) → Reflects p m → (k : List ℕ) → versions p.index k ≡ [] → IsAbsent m k
absent p m r k none = λ s.
    unmarked (is_present m s k) (ends_in_tomb m s k) (is_cached m s k) (ap (λ (vs : List Version). option_map mark_of (option_map found_of (at s vs))) (sym none) ∙ r.marks k s)

present : (p : Parts) (m : State) → Reflects p m → (k : List ℕ) (vs : List Version) → versions p.index k ≡ vs → nat_lt 0 (length vs) ≡ true → (s : ℕ) × IsTrue (is_present m s k)
present p m r k [] is some = absurd (true≢false (sym some))
present p m r k (v ∷ vs) is some =
    let here : at v.slot (v ∷ vs) ≡ Some v = ap (λ b. cond b (Some v) (at v.slot vs)) (eq-eqb v.slot v.slot refl) in
    (v.slot, (marked (is_present m v.slot k) (ends_in_tomb m v.slot k) (is_cached m v.slot k) (mark_of (found_of v)) (sym (ap (λ o. option_map mark_of (option_map found_of o)) here) ∙ ap (λ (us : List Version). option_map mark_of (option_map found_of (at v.slot us))) (sym is) ∙ r.marks k v.slot)).0)

pub next_key : (p : Parts) (m : State) (after : Option (List ℕ)) → Reflects p m → IsOrdered p.index → IsNextKey m after (key_after p.index after)
next_key p m after r ordered = by (found_in after p.index) refl
  where
    by : (o : Option Entry) → found_in after p.index ≡ o → IsNextKey m after (option_map (λ e. e.0) o)
    by None is = λ k above. absent p m r k (none_found after p.index is k above)
    by (Some e) is =
        let first = first_found after p.index e ordered is in
        (first.above, present p m r e.0 (versions p.index e.0) refl first.some, λ k above less. absent p m r k (first.least k above less))
