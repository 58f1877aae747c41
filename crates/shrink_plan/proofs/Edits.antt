-- What is found in an index of which one key's lists are edited.
use Rattle.std.proofs.Common.{◌≡◌, ℕ, List, [], ◌∷◌, Bool, true, false, not, cond, eqb, ◌&&◌, ◌||◌, Option, Some, None, is_some, option_map, refl, sym, ap, ◌∙◌, inl, inr, ◌⊎◌}
use Rattle.std.specs.Str.{bytes_eq}
use Rattle.std.proofs.lemmas.Bool.{cases_Bool, and_parts, eqb-true, eq-eqb, ne_eqb, eqb-false}
use Rattle.slot_list.specs.declared.Place.{Place}
use Rattle.slot_list.specs.declared.Version.{Version}
use Rattle.slot_list.specs.Versions.{at, rehomed, without_slot}
use Rattle.accounts_index.specs.Index.{Kept, Index, kept, IsWith}
use Rattle.adb_model.specs.Lists.{among}
use Rattle.book_parts.specs.Changes.{SameHolds}
use Rattle.book_parts.specs.Reflects.{found_of, indexed}
use Rattle.shrink_plan.specs.Moving.{at_place}
use Rattle.shrink_plan.proofs.Facts.{same_bytes}

cond_of : {X Y : Type 0} (f : X → Y) (b : Bool) (x y : X) → f (cond b x y) ≡ cond b (f x) (f y)
cond_of f true x y = refl
cond_of f false x y = refl

-- what the key has, where it is the other key
own : {X : Type 0} (g : List ℕ → X) (key k : List ℕ) (y : X) → cond (bytes_eq key k) (g key) y ≡ cond (bytes_eq key k) (g k) y
own g key k y = elim (cases_Bool (bytes_eq key k)) [
  | inl t ↦ rw t (ap g (same_bytes key k t))
  | inr f ↦ rw f refl
]

cond_same : {X : Type 0} (b : Bool) (x : X) → cond b x x ≡ x
cond_same true x = refl
cond_same false x = refl

module _ (old new : Index) (key : List ℕ) (x : Kept) where
  -- what is told of the key changes so, and of each other key it stays
  pub turns : {X : Type 0} (f : Kept → X) (g : X → X) → IsWith old new key x → f x ≡ g (f (kept old key)) → (k : List ℕ) → f (kept new k) ≡ cond (bytes_eq key k) (g (f (kept old k))) (f (kept old k))
  turns f g is same k =
      ap f (is k) ∙ cond_of f (bytes_eq key k) x (kept old k)
      ∙ ap (λ y. cond (bytes_eq key k) y (f (kept old k))) same
      ∙ own (λ q. g (f (kept old q))) key k (f (kept old k))

  -- what the edit leaves alone
  pub stays : {X : Type 0} (f : Kept → X) → IsWith old new key x → f x ≡ f (kept old key) → (k : List ℕ) → f (kept new k) ≡ f (kept old k)
  stays f is same k = turns f (λ y. y) is same k ∙ cond_same (bytes_eq key k) (f (kept old k))

-- ---- lists of slots

pub among_without : (slot s : ℕ) (slots : List ℕ) → among s (without_slot slot slots) ≡ (not (eqb slot s) && among s slots)
among_without slot s [] = none (eqb slot s)
  where
    none : (b : Bool) → false ≡ (not b && false)
    none true = refl
    none false = refl
among_without slot s (x ∷ slots) = elim (cases_Bool (eqb x slot)) [
  | inl gone ↦ rw gone (among_without slot s slots ∙ again (eqb slot s) (among s slots) ∙ ap (λ n. not (eqb slot s) && (eqb n s || among s slots)) (sym (eqb-true x slot gone)))
  | inr still ↦ rw still (ap (λ b. eqb x s || b) (among_without slot s slots) ∙ others still)
]
  where
    again : (a b : Bool) → (not a && b) ≡ (not a && (a || b))
    again true b = refl
    again false b = refl

    others : eqb x slot ≡ false → (eqb x s || (not (eqb slot s) && among s slots)) ≡ (not (eqb slot s) && (eqb x s || among s slots))
    others still = elim (cases_Bool (eqb slot s)) [
      | inl here ↦ let apart : eqb x s ≡ false = ap (eqb x) (sym (eqb-true slot s here)) ∙ still in rw (here, apart) refl
      | inr there ↦ rw there refl
    ]

-- ---- versions

found_rehomed : (slot s : ℕ) (p : Place) (vs : List Version)
    → option_map found_of (at s (rehomed slot p vs)) ≡ cond (eqb slot s) (option_map (at_place p) (option_map found_of (at s vs))) (option_map found_of (at s vs))
found_rehomed slot s p [] = none (eqb slot s)
  where
    none : (b : Bool) → None ≡ cond b (option_map (at_place p) None) None
    none true = refl
    none false = refl
found_rehomed slot s p (v ∷ vs) = by (cases_Bool (eqb v.slot slot)) (cases_Bool (eqb v.slot s)) (found_rehomed slot s p vs)
  where
    moved_one : Version
    moved_one = cond (eqb v.slot slot) (record v { place = p }) v

    by : (eqb v.slot slot ≡ true) ⊎ (eqb v.slot slot ≡ false) → (eqb v.slot s ≡ true) ⊎ (eqb v.slot s ≡ false)
        → option_map found_of (at s (rehomed slot p vs)) ≡ cond (eqb slot s) (option_map (at_place p) (option_map found_of (at s vs))) (option_map found_of (at s vs))
        → option_map found_of (cond (eqb moved_one.slot s) (Some moved_one) (at s (rehomed slot p vs)))
        ≡ cond (eqb slot s) (option_map (at_place p) (option_map found_of (cond (eqb v.slot s) (Some v) (at s vs)))) (option_map found_of (cond (eqb v.slot s) (Some v) (at s vs)))
    by (inl t) (inl e) so_far = let here : eqb slot s ≡ true = eq-eqb slot s (sym (eqb-true v.slot slot t) ∙ eqb-true v.slot s e) in rw t (rw e (rw here refl))
    by (inl t) (inr n) so_far = rw t (rw n so_far)
    by (inr f) (inl e) so_far = let other : eqb slot s ≡ false = ne_eqb slot s (λ q. eqb-false v.slot slot f (eqb-true v.slot s e ∙ sym q)) in rw f (rw e (rw other refl))
    by (inr f) (inr n) so_far = rw f (rw n so_far)

-- ---- one version that is found elsewhere, where it is there

-- the version of the key in the slot is at the place, if it is there
pub record Rehomed (slot : ℕ) (key : List ℕ) (place : Place) (old new : Index) : Type 0 where
  pub versions : (k : List ℕ) (s : ℕ) → indexed new s k ≡ cond (eqb slot s && bytes_eq key k) (option_map (at_place place) (indexed old s k)) (indexed old s k)
  pub holds : SameHolds old new

pub there_rehomed : (slot : ℕ) (key : List ℕ) (place : Place) (old new : Index) → IsWith old new key (record (kept old key) { versions = rehomed slot place (kept old key).versions })
    → Rehomed slot key place old new
there_rehomed slot key place old new edit = record {
  versions = λ k s.
      turns old new key _ (λ q. option_map found_of (at s q.versions)) (λ f. cond (eqb slot s) (option_map (at_place place) f) f) edit
      (found_rehomed slot s place (kept old key).versions) k
      ∙ both (bytes_eq key k) (eqb slot s) (option_map (at_place place) (indexed old s k)) (indexed old s k);
  holds = record {
    held = λ k s. stays old new key _ (λ q. among s q.held) edit refl k;
    expected = λ k s. stays old new key _ (λ q. among s q.expected) edit refl k;
  };
}
  where
    both : {X : Type 0} (b a : Bool) (x y : X) → cond b (cond a x y) y ≡ cond (a && b) x y
    both true true x y = refl
    both true false x y = refl
    both false true x y = refl
    both false false x y = refl

pub none_rehomed : (slot : ℕ) (key : List ℕ) (place : Place) (old : Index) → is_some (at slot (kept old key).versions) ≡ false → Rehomed slot key place old old
none_rehomed slot key place old none = record {
  versions = λ k s. by k s (eqb slot s && bytes_eq key k) refl;
  holds = record { held = λ k s. refl; expected = λ k s. refl };
}
  where
    none_is : (v : Option Version) → is_some v ≡ false → option_map found_of v ≡ option_map (at_place place) (option_map found_of v)
    none_is None e = refl
    none_is (Some v) e = absurd (cc e)

    by : (k : List ℕ) (s : ℕ) (b : Bool) → (eqb slot s && bytes_eq key k) ≡ b → indexed old s k ≡ cond b (option_map (at_place place) (indexed old s k)) (indexed old s k)
    by k s false e = refl
    by k s true e =
        let here = and_parts (eqb slot s) (bytes_eq key k) e in
        let missing : is_some (at s (kept old k).versions) ≡ false =
        ap (λ (q : ℕ). is_some (at q (kept old k).versions)) (sym (eqb-true slot s here.0))
        ∙ ap (λ (q : List ℕ). is_some (at slot (kept old q).versions)) (sym (same_bytes key k here.1)) ∙ none in
        none_is (at s (kept old k).versions) missing
