-- What is found in an index of which one key's lists are edited.
use Rattle.std.proofs.Common.{◌≡◌, ◌<◌, ℕ, List, [], ◌∷◌, ◌++◌, Bool, true, false, not, cond, eqb, nat_lt, ◌&&◌, ◌||◌, Some, None, option_map, filter, refl, sym, ap, ◌∙◌, inl, inr, ◌⊎◌, arith}
use Rattle.std.specs.Str.{bytes_eq}
use Rattle.std.specs.Cmp.Lexicographic.{bytes_decides}
use Rattle.std.proofs.lemmas.Bool.{cases_Bool, cases_order, eqb-true, eq-eqb, ne_eqb, eqb-false, lt-ltb, le-ltb}
use Rattle.slot_list.specs.declared.Place.{Place}
use Rattle.slot_list.specs.declared.Version.{Version}
use Rattle.slot_list.specs.Versions.{at, rehomed, with_slot, without_slot}
use Rattle.accounts_index.specs.Index.{Kept, Index, kept, IsWith}
use Rattle.adb_model.specs.Lists.{among}
use Rattle.book_parts.specs.Reflects.{found_of}

pub same_bytes : (a b : List ℕ) → bytes_eq a b ≡ true → a ≡ b
same_bytes a b e = (bytes_decides a b).0 e

pub bytes_eq-self : (a : List ℕ) → bytes_eq a a ≡ true
bytes_eq-self a = (bytes_decides a a).1 refl

cond_of : {X Y : Type 0} (f : X → Y) (b : Bool) (x y : X) → f (cond b x y) ≡ cond b (f x) (f y)
cond_of f true x y = refl
cond_of f false x y = refl

-- what the key has, where it is the other key
own : {X : Type 0} (g : List ℕ → X) (key k : List ℕ) (y : X) → cond (bytes_eq key k) (g key) y ≡ cond (bytes_eq key k) (g k) y
own g key k y = elim (cases_Bool (bytes_eq key k)) [
  | inl t ↦ rw t (ap g (same_bytes key k t))
  | inr f ↦ rw f refl
]

cond_same : {X : Type 0} (b : Bool) (x : X) → cond b x x ≡ x
cond_same true x = refl
cond_same false x = refl

module _ (old new : Index) (key : List ℕ) (x : Kept) where
  -- what is told of the key changes so, and of each other key it stays
  pub turns : {X : Type 0} (f : Kept → X) (g : X → X) → IsWith old new key x → f x ≡ g (f (kept old key)) → (k : List ℕ) → f (kept new k) ≡ cond (bytes_eq key k) (g (f (kept old k))) (f (kept old k))
  turns f g is same k =
      ap f (is k) ∙ cond_of f (bytes_eq key k) x (kept old k)
      ∙ ap (λ y. cond (bytes_eq key k) y (f (kept old k))) same
      ∙ own (λ q. g (f (kept old q))) key k (f (kept old k))

  -- what the edit leaves alone
  pub stays : {X : Type 0} (f : Kept → X) → IsWith old new key x → f x ≡ f (kept old key) → (k : List ℕ) → f (kept new k) ≡ f (kept old k)
  stays f is same k = turns f (λ y. y) is same k ∙ cond_same (bytes_eq key k) (f (kept old k))

-- ---- lists of slots

eqb-swap : (a b : ℕ) → eqb a b ≡ eqb b a
eqb-swap a b = elim (cases_Bool (eqb a b)) [
  | inl t ↦ t ∙ sym (eq-eqb b a (sym (eqb-true a b t)))
  | inr f ↦ f ∙ sym (ne_eqb b a (λ e. eqb-false a b f (sym e)))
]

among_filter : (p : ℕ → Bool) (s : ℕ) (xs : List ℕ) → among s (filter p xs) ≡ (p s && among s xs)
among_filter p s [] = none (p s)
  where
    none : (b : Bool) → false ≡ (b && false)
    none true = refl
    none false = refl
among_filter p s (x ∷ xs) = by (cases_Bool (p x)) (cases_Bool (eqb x s)) (among_filter p s xs)
  where
    by : (p x ≡ true) ⊎ (p x ≡ false) → (eqb x s ≡ true) ⊎ (eqb x s ≡ false) → among s (filter p xs) ≡ (p s && among s xs) → among s (cond (p x) (x ∷ filter p xs) (filter p xs)) ≡ (p s && (eqb x s || among s xs))
    by (inl t) (inl e) so_far = let here : p s ≡ true = ap p (sym (eqb-true x s e)) ∙ t in rw t (rw e (rw here refl))
    by (inl t) (inr n) so_far = rw t (rw n so_far)
    by (inr f) (inl e) so_far = let here : p s ≡ false = ap p (sym (eqb-true x s e)) ∙ f in rw f (rw e (so_far ∙ rw here refl))
    by (inr f) (inr n) so_far = rw f (rw n so_far)

pub among_append : (s : ℕ) (xs ys : List ℕ) → among s (xs ++ ys) ≡ (among s xs || among s ys)
among_append s [] ys = refl
among_append s (x ∷ xs) ys = ap (λ b. eqb x s || b) (among_append s xs ys) ∙ again (eqb x s) (among s xs) (among s ys)
  where
    again : (a b c : Bool) → (a || (b || c)) ≡ ((a || b) || c)
    again true b c = refl
    again false b c = refl

pub among_without : (slot s : ℕ) (xs : List ℕ) → among s (without_slot slot xs) ≡ (not (eqb slot s) && among s xs)
among_without slot s xs = among_filter (λ x. not (eqb x slot)) s xs ∙ ap (λ b. not b && among s xs) (eqb-swap s slot)

pub among_with : (slot s : ℕ) (xs : List ℕ) → among s (with_slot slot xs) ≡ (eqb slot s || among s xs)
among_with slot s xs =
    among_append s (filter (λ x. nat_lt x slot) xs) (slot ∷ filter (λ x. nat_lt slot x) xs)
    ∙ (λ i. among_filter (λ x. nat_lt x slot) s xs i || (eqb slot s || among_filter (λ x. nat_lt slot x) s xs i))
    ∙ by (cases_order s slot)
  where
    either : (a b : Bool) → ((a && b) || (true || (a && b))) ≡ true
    either true true = refl
    either true false = refl
    either false b = refl

    left : (b : Bool) → ((true && b) || (false || (false && b))) ≡ b
    left true = refl
    left false = refl

    by : (s ≡ slot) ⊎ ((s < slot) ⊎ (slot < s)) → ((nat_lt s slot && among s xs) || (eqb slot s || (nat_lt slot s && among s xs))) ≡ (eqb slot s || among s xs)
    by (inl e) = rw (eq-eqb slot s (sym e)) (rw (le-ltb s slot (omega (arith, e))) refl)
    by (inr (inl l)) = rw (ne_eqb slot s (λ e. omega (arith, l, e))) (rw (lt-ltb s slot l) (rw (le-ltb slot s (omega (arith, l))) (left (among s xs))))
    by (inr (inr g)) = rw (ne_eqb slot s (λ e. omega (arith, g, e))) (rw (le-ltb s slot (omega (arith, g))) (rw (lt-ltb slot s g) refl))

-- ---- versions

-- what is found of a version that moved
abbrev pub at_place : Place → Bool × Place → Bool × Place
at_place p i = (i.0, p)

pub found_rehomed : (slot s : ℕ) (p : Place) (vs : List Version)
    → option_map found_of (at s (rehomed slot p vs)) ≡ cond (eqb slot s) (option_map (at_place p) (option_map found_of (at s vs))) (option_map found_of (at s vs))
found_rehomed slot s p [] = none (eqb slot s)
  where
    none : (b : Bool) → None ≡ cond b (option_map (at_place p) None) None
    none true = refl
    none false = refl
found_rehomed slot s p (v ∷ vs) = by (cases_Bool (eqb v.slot slot)) (cases_Bool (eqb v.slot s)) (found_rehomed slot s p vs)
  where
    moved_one : Version
    moved_one = cond (eqb v.slot slot) (record v { place = p }) v

    by : (eqb v.slot slot ≡ true) ⊎ (eqb v.slot slot ≡ false) → (eqb v.slot s ≡ true) ⊎ (eqb v.slot s ≡ false)
        → option_map found_of (at s (rehomed slot p vs)) ≡ cond (eqb slot s) (option_map (at_place p) (option_map found_of (at s vs))) (option_map found_of (at s vs))
        → option_map found_of (cond (eqb moved_one.slot s) (Some moved_one) (at s (rehomed slot p vs)))
        ≡ cond (eqb slot s) (option_map (at_place p) (option_map found_of (cond (eqb v.slot s) (Some v) (at s vs)))) (option_map found_of (cond (eqb v.slot s) (Some v) (at s vs)))
    by (inl t) (inl e) so_far = let here : eqb slot s ≡ true = eq-eqb slot s (sym (eqb-true v.slot slot t) ∙ eqb-true v.slot s e) in rw t (rw e (rw here refl))
    by (inl t) (inr n) so_far = rw t (rw n so_far)
    by (inr f) (inl e) so_far = let other : eqb slot s ≡ false = ne_eqb slot s (λ q. eqb-false v.slot slot f (eqb-true v.slot s e ∙ sym q)) in rw f (rw e (rw other refl))
    by (inr f) (inr n) so_far = rw f (rw n so_far)
