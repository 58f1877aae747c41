-- What is kept of a key, and what an edit at its place leaves of every key.
use Rattle.std.proofs.Common.{◌≡◌, ℕ, zero, suc, ◌+◌, ◌<◌, ◌≤◌, List, [], ◌∷◌, length, set, get_or, Bool, true, false, cond, Option, Some, None, unwrap_or, refl, sym, ap, ◌∙◌, inl, inr, arith, All}
use Rattle.std.specs.List.{insert, remove, AllWithin, HoldsAt}
use Rattle.std.specs.Map.{lookup}
use Rattle.std.specs.Str.{bytes_eq}
use Rattle.std.proofs.lemmas.Bool.{cases_Bool, cases_lt, true≢false}
use Rattle.accounts_index.specs.declared.entry.Entry.{Entry}
use Rattle.accounts_index.specs.Index.{Kept, kept, nothing, IsWith}
use Rattle.accounts_index.specs.Inside.{seen, kept_of}
use Rattle.accounts_index.specs.Places.{IsAt, IsGap}
use Rattle.accounts_index.proofs.Keys.{same_bytes, bytes_eq-self, less_apart, greater_apart}

abbrev look : List Entry → List ℕ → Option Kept
look es q = lookup (λ k. bytes_eq k q) (seen es)

cond_twice : {A : Type 0} (b : Bool) (x y z : A) → cond b x z ≡ cond b x (cond b y z)
cond_twice true x y z = refl
cond_twice false x y z = refl

cond_swap : {A : Type 0} (a b : Bool) (x y z : A) → (a ≡ true → b ≡ true → ⊥) → cond a x (cond b y z) ≡ cond b y (cond a x z)
cond_swap true true x y z apart = absurd (apart refl refl)
cond_swap true false x y z apart = refl
cond_swap false b x y z apart = refl

unwrap_cond : (b : Bool) (x : Kept) (o : Option Kept) → unwrap_or (cond b (Some x) o) nothing ≡ cond b x (unwrap_or o nothing)
unwrap_cond true x o = refl
unwrap_cond false x o = refl

unwrap_cond_none : (b : Bool) (o : Option Kept) → unwrap_or (cond b None o) nothing ≡ cond b nothing (unwrap_or o nothing)
unwrap_cond_none true o = refl
unwrap_cond_none false o = refl

look_none : (es : List Entry) (q : List ℕ) → All (λ e. bytes_eq e.key.0 q ≡ false) es → look es q ≡ None
look_none [] q none = refl
look_none (x ∷ es) q none = rw (none 0 x (omega arith)) (look_none es q (λ k d lt. none (suc k) d (omega arith)))

look_there : (es : List Entry) (q : List ℕ) (i : ℕ) (d : Entry) → i < length es → AllWithin (λ e. bytes_eq e.key.0 q ≡ false) es 0 i → HoldsAt (λ e. e.key.0 ≡ q) es i → look es q ≡ Some (kept_of (get_or es i d).lists.value)
look_there [] q i d lt before here = absurd (omega arith)
look_there (x ∷ es) q zero d lt before here = ap (λ k. cond (bytes_eq k q) (Some (kept_of x.lists.value)) (look es q)) (here x) ∙ ap (λ b. cond b (Some (kept_of x.lists.value)) (look es q)) (bytes_eq-self q)
look_there (x ∷ es) q (suc i) d lt before here = rw (before 0 x (omega arith) (omega arith)) (look_there es q i d (omega arith) (λ k d lo hi. before (suc k) d (omega arith) (omega arith)) here)

-- two entries with other keys are not both found
apart : (a b q : List ℕ) → bytes_eq a b ≡ false → bytes_eq a q ≡ true → bytes_eq b q ≡ true → ⊥
apart a b q differs p r = true≢false (sym (bytes_eq-self a) ∙ ap (bytes_eq a) (same_bytes a q p ∙ sym (same_bytes b q r)) ∙ differs)

look-set : (es : List Entry) (key : List ℕ) (i : ℕ) (x : Entry) → x.key.0 ≡ key → i < length es → AllWithin (λ e. bytes_eq e.key.0 key ≡ false) es 0 i → HoldsAt (λ e. e.key.0 ≡ key) es i → (q : List ℕ) → look (set es i x) q ≡ cond (bytes_eq key q) (Some (kept_of x.lists.value)) (look es q)
look-set [] key i x is lt before here q = absurd (omega arith)
look-set (e ∷ es) key zero x is lt before here q =
    ap (λ k. cond (bytes_eq k q) (Some (kept_of x.lists.value)) (look es q)) is
    ∙ cond_twice (bytes_eq key q) (Some (kept_of x.lists.value)) (Some (kept_of e.lists.value)) (look es q)
    ∙ ap (λ k. cond (bytes_eq key q) (Some (kept_of x.lists.value)) (cond (bytes_eq k q) (Some (kept_of e.lists.value)) (look es q))) (sym (here e))
look-set (e ∷ es) key (suc i) x is lt before here q =
    ap (cond (bytes_eq e.key.0 q) (Some (kept_of e.lists.value))) (look-set es key i x is (omega arith) (λ k d lo hi. before (suc k) d (omega arith) (omega arith)) here q)
    ∙ cond_swap (bytes_eq e.key.0 q) (bytes_eq key q) (Some (kept_of e.lists.value)) (Some (kept_of x.lists.value)) (look es q) (apart e.key.0 key q (before 0 e (omega arith) (omega arith)))

look-insert : (es : List Entry) (key : List ℕ) (i : ℕ) (x : Entry) → x.key.0 ≡ key → i ≤ length es → AllWithin (λ e. bytes_eq e.key.0 key ≡ false) es 0 i → (q : List ℕ) → look (insert es i x) q ≡ cond (bytes_eq key q) (Some (kept_of x.lists.value)) (look es q)
look-insert es key zero x is le before q = ap (λ k. cond (bytes_eq k q) (Some (kept_of x.lists.value)) (look es q)) is
look-insert [] key (suc i) x is le before q = absurd (omega arith)
look-insert (e ∷ es) key (suc i) x is le before q =
    ap (cond (bytes_eq e.key.0 q) (Some (kept_of e.lists.value))) (look-insert es key i x is (omega arith) (λ k d lo hi. before (suc k) d (omega arith) (omega arith)) q)
    ∙ cond_swap (bytes_eq e.key.0 q) (bytes_eq key q) (Some (kept_of e.lists.value)) (Some (kept_of x.lists.value)) (look es q) (apart e.key.0 key q (before 0 e (omega arith) (omega arith)))

look-remove : (es : List Entry) (key : List ℕ) (i : ℕ) → i < length es → AllWithin (λ e. bytes_eq e.key.0 key ≡ false) es 0 i → HoldsAt (λ e. e.key.0 ≡ key) es i → AllWithin (λ e. bytes_eq e.key.0 key ≡ false) es (i + 1) (length es) → (q : List ℕ) → look (remove es i) q ≡ cond (bytes_eq key q) None (look es q)
look-remove [] key i lt before here after q = absurd (omega arith)
look-remove (e ∷ es) key zero lt before here after q = elim (cases_Bool (bytes_eq key q)) [
  | inl same ↦
      let none : look es q ≡ None = look_none es q (λ k d lt. ap (bytes_eq (get_or es k d).key.0) (sym (same_bytes key q same)) ∙ after (suc k) d (omega arith) (omega arith)) in
      rw same none
  | inr differs ↦ rw (differs, here e) (rw differs refl)
]
look-remove (e ∷ es) key (suc i) lt before here after q =
    ap (cond (bytes_eq e.key.0 q) (Some (kept_of e.lists.value))) (look-remove es key i (omega arith) (λ k d lo hi. before (suc k) d (omega arith) (omega arith)) here (λ k d lo hi. after (suc k) d (omega arith) (omega arith)) q)
    ∙ cond_swap (bytes_eq e.key.0 q) (bytes_eq key q) (Some (kept_of e.lists.value)) None (look es q) (apart e.key.0 key q (before 0 e (omega arith) (omega arith)))

module _ (es : List Entry) (key : List ℕ) (i : ℕ) (found : IsAt es key i) where
  before_differs : AllWithin (λ e. bytes_eq e.key.0 key ≡ false) es 0 i
  before_differs k d lo hi = less_apart (get_or es k d).key.0 key (found.lower_before k d lo hi)

  pub kept_at : (d : Entry) → kept (seen es) key ≡ kept_of (get_or es i d).lists.value
  kept_at d = ap (λ o. unwrap_or o nothing) (look_there es key i d found.in_range before_differs found.has_key)

  pub IsWith-set : (x : Entry) → x.key.0 ≡ key → IsWith (seen es) (seen (set es i x)) key (kept_of x.lists.value)
  IsWith-set x is q = ap (λ o. unwrap_or o nothing) (look-set es key i x is found.in_range before_differs found.has_key q) ∙ unwrap_cond (bytes_eq key q) (kept_of x.lists.value) (look es q)

  pub IsWith-remove : IsWith (seen es) (seen (remove es i)) key nothing
  IsWith-remove q =
      ap (λ o. unwrap_or o nothing) (look-remove es key i found.in_range before_differs found.has_key (λ k d lo hi. greater_apart (get_or es k d).key.0 key (found.higher_after k d lo hi)) q)
      ∙ unwrap_cond_none (bytes_eq key q) (look es q)

module _ (es : List Entry) (key : List ℕ) (i : ℕ) (gap : IsGap es key i) where
  no_key : All (λ e. bytes_eq e.key.0 key ≡ false) es
  no_key k d lt = elim (cases_lt k i) [
    | inl below ↦ less_apart (get_or es k d).key.0 key (gap.lower_before k d (omega arith) below)
    | inr above ↦ greater_apart (get_or es k d).key.0 key (gap.higher_from k d above lt)
  ]

  pub kept_gap : kept (seen es) key ≡ nothing
  kept_gap = ap (λ o. unwrap_or o nothing) (look_none es key no_key)

  pub IsWith-insert : (x : Entry) → x.key.0 ≡ key → IsWith (seen es) (seen (insert es i x)) key (kept_of x.lists.value)
  IsWith-insert x is q =
      ap (λ o. unwrap_or o nothing) (look-insert es key i x is gap.in_range (λ k d lo hi. less_apart (get_or es k d).key.0 key (gap.lower_before k d lo hi)) q) ∙ unwrap_cond (bytes_eq key q) (kept_of x.lists.value) (look es q)
