-- The storages of a slot, changed one after another.
use Rattle.std.proofs.Common.{◌≡◌, ℕ, ◌+◌, ◌-◌, ◌<◌, ◌≤◌, Bool, true, false, cond, eqb, Option, Some, None, option_map, IsSomeAnd, refl, sym, ap, subst, ◌∙◌, inl, inr, arith}
use Rattle.std.proofs.lemmas.Bool.{cases_Bool, eq-eqb, eqb-true}
use Rattle.storage_map.specs.declared.entry.Live.{Live}
use Rattle.storage_map.specs.declared.entry.Begun.{Begun}
use Rattle.storage_map.specs.Slots.{Slots, live_at, begun_at, alive_in, total_in, one_less, Becomes}
use Rattle.open_plan.specs.Parts.{fewer}

-- what a slot has after a change of it
pub live_here : (old new : Slots) (slot : ℕ) (live : Option Live) (begun : Option Begun) → Becomes old new slot live begun → live_at new slot ≡ live
live_here old new slot live begun is = is.lives slot ∙ ap (λ b. cond b live (live_at old slot)) (eq-eqb slot slot refl)

pub begun_here : (old new : Slots) (slot : ℕ) (live : Option Live) (begun : Option Begun) → Becomes old new slot live begun → begun_at new slot ≡ begun
begun_here old new slot live begun is = is.begins slot ∙ ap (λ b. cond b begun (begun_at old slot)) (eq-eqb slot slot refl)

-- of two changes the later one tells
pub then_becomes : (old mid new : Slots) (slot : ℕ) (live later : Option Live) (begun after : Option Begun) → Becomes old mid slot live begun → Becomes mid new slot later after → Becomes old new slot later after
then_becomes old mid new slot live later begun after one two = record {
  lives = λ q. two.lives q ∙ ap (λ o. cond (eqb slot q) later o) (one.lives q) ∙ again (eqb slot q) later live (live_at old q);
  begins = λ q. two.begins q ∙ ap (λ o. cond (eqb slot q) after o) (one.begins q) ∙ again (eqb slot q) after begun (begun_at old q);
  alive = omega (arith, one.alive, two.alive, ap alive_in (live_here old mid slot live begun one));
  total = omega (arith, one.total, two.total, ap total_in (live_here old mid slot live begun one));
}
  where
    again : {X : Type 0} (b : Bool) (x y z : X) → cond b x (cond b y z) ≡ cond b x z
    again true x y z = refl
    again false x y z = refl

fewer_none : (o : Option Live) → option_map (fewer 0) o ≡ o
fewer_none None = refl
fewer_none (Some live) = let same : live.alive - 0 ≡ live.alive = omega arith in ap (λ (n : ℕ). Some (record live { alive = n })) same

fewer_next : (n : ℕ) (o : Option Live) → option_map one_less (option_map (fewer n) o) ≡ option_map (fewer (n + 1)) o
fewer_next n None = refl
fewer_next n (Some live) = let same : live.alive - n - 1 ≡ live.alive - (n + 1) = omega arith in ap (λ (a : ℕ). Some (record live { alive = a })) same

pub loses_none : (slots : Slots) (slot : ℕ) → Becomes slots slots slot (option_map (fewer 0) (live_at slots slot)) (begun_at slots slot)
loses_none slots slot = subst (λ o. Becomes slots slots slot o (begun_at slots slot)) (sym (fewer_none (live_at slots slot))) (record {
  lives = λ q. own (λ n. live_at slots n) q;
  begins = λ q. own (λ n. begun_at slots n) q;
  alive = refl;
  total = refl;
})
  where
    own : {X : Type 0} (f : ℕ → X) (q : ℕ) → f q ≡ cond (eqb slot q) (f slot) (f q)
    own f q = elim (cases_Bool (eqb slot q)) [
      | inl t ↦ rw t (ap f (sym (eqb-true slot q t)))
      | inr f' ↦ rw f' refl
    ]

pub loses_more : (old now new : Slots) (slot n : ℕ) → Becomes old now slot (option_map (fewer n) (live_at old slot)) (begun_at old slot)
    → Becomes now new slot (option_map one_less (live_at now slot)) (begun_at now slot) → Becomes old new slot (option_map (fewer (n + 1)) (live_at old slot)) (begun_at old slot)
loses_more old now new slot n so_far one =
    let live : option_map one_less (live_at now slot) ≡ option_map (fewer (n + 1)) (live_at old slot) =
    ap (option_map one_less) (live_here old now slot _ _ so_far) ∙ fewer_next n (live_at old slot) in
    let begun : begun_at now slot ≡ begun_at old slot = begun_here old now slot _ _ so_far in
    then_becomes old now new slot _ _ _ _ so_far
    (subst (λ o. Becomes now new slot o (begun_at old slot)) live (subst (λ b. Becomes now new slot (option_map one_less (live_at now slot)) b) begun one))

-- one of more rows is alive still
pub some_left : (o now : Option Live) (n count : ℕ) → now ≡ option_map (fewer n) o → IsSomeAnd o (λ live. count ≤ live.alive) → n < count → IsSomeAnd now (λ live. 0 < live.alive)
some_left None now n count is none lt = absurd none
some_left (Some live) now n count is enough lt =
    subst (λ (x : Option Live). IsSomeAnd x (λ l. 0 < l.alive)) (sym is) (omega (arith, enough, lt))
