-- What a look-up finds after an edit.
use Rattle.std.proofs.Common.{◌≡◌, ◌≢◌, ℕ, ◌<◌, List, [], ◌∷◌, Bool, true, false, cond, eqb, not, nat_lt, Option, Some, None, option_map, refl, sym, ap, ◌∙◌, inl, inr, ◌⊎◌, arith}
use Rattle.std.specs.List.{filter}
use Rattle.std.specs.Option.{option_or}
use Rattle.std.proofs.lemmas.Bool.{cases_Bool, cases_order, eqb-true, eq-eqb, ne_eqb, lt-ltb, le-ltb, true≢false}
use Rattle.std.proofs.lemmas.List.Folds.{find-append}
use Rattle.slot_list.specs.declared.Place.{Place}
use Rattle.slot_list.specs.declared.Version.{Version}
use Rattle.slot_list.specs.Versions.{at, put, without, rehomed}

-- a filter that keeps the slot keeps what is found there
kept_found : (p : ℕ → Bool) (s : ℕ) → p s ≡ true → (vs : List Version) → at s (filter (λ v. p v.slot) vs) ≡ at s vs
kept_found p s t [] = refl
kept_found p s t (v ∷ vs) = by (cases_Bool (eqb v.slot s)) (cases_Bool (p v.slot)) (kept_found p s t vs)
  where
    by : (eqb v.slot s ≡ true) ⊎ (eqb v.slot s ≡ false) → (p v.slot ≡ true) ⊎ (p v.slot ≡ false) → at s (filter (λ v. p v.slot) vs) ≡ at s vs
        → at s (filter (λ v. p v.slot) (v ∷ vs)) ≡ at s (v ∷ vs)
    by (inl here) (inl keeps) rest = rw keeps (rw here refl)
    by (inl here) (inr drops) rest = absurd (true≢false (sym t ∙ sym (ap p (eqb-true v.slot s here)) ∙ drops))
    by (inr other) (inl keeps) rest = rw keeps (rw other rest)
    by (inr other) (inr drops) rest = rw drops (rw other rest)

-- one that drops it leaves nothing there
dropped_none : (p : ℕ → Bool) (s : ℕ) → p s ≡ false → (vs : List Version) → at s (filter (λ v. p v.slot) vs) ≡ None
dropped_none p s f [] = refl
dropped_none p s f (v ∷ vs) = by (cases_Bool (eqb v.slot s)) (cases_Bool (p v.slot)) (dropped_none p s f vs)
  where
    by : (eqb v.slot s ≡ true) ⊎ (eqb v.slot s ≡ false) → (p v.slot ≡ true) ⊎ (p v.slot ≡ false) → at s (filter (λ v. p v.slot) vs) ≡ None
        → at s (filter (λ v. p v.slot) (v ∷ vs)) ≡ None
    by (inl here) (inl keeps) rest = absurd (true≢false (sym keeps ∙ ap p (eqb-true v.slot s here) ∙ f))
    by (inl here) (inr drops) rest = rw drops rest
    by (inr other) (inl keeps) rest = rw keeps (rw other rest)
    by (inr other) (inr drops) rest = rw drops rest

or_none : (o : Option Version) → option_or o None ≡ o
or_none None = refl
or_none (Some v) = refl

abbrev lower : Version → List Version → List Version
lower v vs = filter (λ w. nat_lt w.slot v.slot) vs

abbrev higher : Version → List Version → List Version
higher v vs = filter (λ w. nat_lt v.slot w.slot) vs

pub at-put : (v : Version) (vs : List Version) (s : ℕ) → at s (put v vs) ≡ cond (eqb v.slot s) (Some v) (at s vs)
at-put v vs s = find-append (λ w. eqb w.slot s) (lower v vs) (v ∷ higher v vs) ∙ by (cases_order s v.slot)
  where
    by : (s ≡ v.slot) ⊎ ((s < v.slot) ⊎ (v.slot < s)) → option_or (at s (lower v vs)) (at s (v ∷ higher v vs)) ≡ cond (eqb v.slot s) (Some v) (at s vs)
    by (inl e) =
        rw (dropped_none (λ n. nat_lt n v.slot) s (le-ltb s v.slot (omega arith)) vs)
        (let here : eqb v.slot s ≡ true = eq-eqb v.slot s (sym e) in rw here refl)
    by (inr (inl lt)) =
        let other : eqb v.slot s ≡ false = ne_eqb v.slot s (λ e. omega arith) in
        rw (kept_found (λ n. nat_lt n v.slot) s (lt-ltb s v.slot lt) vs, other, dropped_none (λ n. nat_lt v.slot n) s (le-ltb v.slot s (omega arith)) vs)
        (or_none (at s vs))
    by (inr (inr gt)) =
        let other : eqb v.slot s ≡ false = ne_eqb v.slot s (λ e. omega arith) in
        rw (dropped_none (λ n. nat_lt n v.slot) s (le-ltb s v.slot (omega arith)) vs, other)
        (kept_found (λ n. nat_lt v.slot n) s (lt-ltb v.slot s gt) vs)

pub at-without : (slot s : ℕ) (vs : List Version) → at s (without slot vs) ≡ cond (eqb slot s) None (at s vs)
at-without slot s vs = by (cases_order slot s)
  where
    by : (slot ≡ s) ⊎ ((slot < s) ⊎ (s < slot)) → at s (without slot vs) ≡ cond (eqb slot s) None (at s vs)
    by (inl e) =
        let here : eqb slot s ≡ true = eq-eqb slot s e in
        let gone : not (eqb s slot) ≡ false = ap not (eq-eqb s slot (sym e)) in
        rw here (dropped_none (λ n. not (eqb n slot)) s gone vs)
    by (inr apart) =
        let ne : slot ≢ s = λ e. grind arith in
        let other : eqb slot s ≡ false = ne_eqb slot s ne in
        let stays : not (eqb s slot) ≡ true = ap not (ne_eqb s slot (λ e. ne (sym e))) in
        rw other (kept_found (λ n. not (eqb n slot)) s stays vs)

abbrev moved : ℕ → Place → Version → Version
moved slot p v = cond (eqb v.slot slot) (record v { place = p }) v

moved_slot : (slot : ℕ) (p : Place) (v : Version) → (moved slot p v).slot ≡ v.slot
moved_slot slot p v = elim (cases_Bool (eqb v.slot slot)) [ inl t ↦ rw t refl | inr f ↦ rw f refl ]

pub at-rehomed : (slot s : ℕ) (p : Place) (vs : List Version) → at s (rehomed slot p vs) ≡ option_map (moved slot p) (at s vs)
at-rehomed slot s p [] = refl
at-rehomed slot s p (v ∷ vs) =
    ap (λ n. cond (eqb n s) (Some (moved slot p v)) (at s (rehomed slot p vs))) (moved_slot slot p v)
    ∙ ap (cond (eqb v.slot s) (Some (moved slot p v))) (at-rehomed slot s p vs)
    ∙ elim (cases_Bool (eqb v.slot s)) [ inl t ↦ rw t refl | inr f ↦ rw f refl ]
