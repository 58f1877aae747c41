-- Keys are taken one after another.
use Rattle.std.proofs.Common.{◌≡◌, ℕ, zero, suc, ◌+◌, ◌<◌, ◌≤◌, List, [], ◌∷◌, ◌++◌, length, take, get_or, Bool, true, false, ◌||◌, IsTrue, IsFalse, refl, sym, ap, ◌∙◌, inl, inr, ◌⊎◌, arith}
use Rattle.std.specs.Str.{bytes_eq}
use Rattle.std.proofs.Math.Seq.{take-suc, take-length}
use Rattle.std.proofs.lemmas.Bool.{false≢true}
use Rattle.std.proofs.lemmas.List.{map-append, get_or_default}
use Rattle.std.proofs.lemmas.List.Folds.{list_any-append}
use Rattle.adb_model.specs.declared.key.Key.{Key}
use Rattle.adb_model.specs.State.{State}
use Rattle.adb_model.specs.Reclaim.{is_taken}
use Rattle.clean_plan.specs.Leaving.{bytes_of, Leave}
use Rattle.clean_plan.proofs.Dropping.{bytes_eq-self, same_bytes}

either : (a b : Bool) → (a || b) ≡ true → (a ≡ true) ⊎ (b ≡ true)
either true b e = inl refl
either false b e = inr e

or_false : (b : Bool) → (b || false) ≡ b
or_false true = refl
or_false false = refl

-- one more key is taken
taken_more : (keys : List Key) (i : ℕ) (x : Key) (k : List ℕ) → i < length keys → x ≡ get_or keys i x
    → is_taken (bytes_of (take (i + 1) keys)) k ≡ (is_taken (bytes_of (take i keys)) k || bytes_eq x.0 k)
taken_more keys i x k lt is =
    let next : i + 1 ≡ suc i = omega arith in
    ap (λ n. is_taken (bytes_of (take n keys)) k) next
    ∙ ap (λ ks. is_taken (bytes_of ks) k) (take-suc keys i x lt ∙ ap (λ y. take i keys ++ (y ∷ [])) (sym is))
    ∙ ap (λ ks. is_taken ks k) (map-append (λ (y : Key). y.0) (take i keys) (x ∷ []))
    ∙ list_any-append (λ taken. bytes_eq taken k) (bytes_of (take i keys)) (x.0 ∷ [])
    ∙ ap (λ b. is_taken (bytes_of (take i keys)) k || b) (or_false (bytes_eq x.0 k))

taken_at : (keys : List Key) (i : ℕ) (x : Key) → i < length keys → x ≡ get_or keys i x → IsTrue (is_taken (bytes_of keys) x.0)
taken_at [] i x lt is = absurd (omega (arith, lt))
taken_at (y ∷ keys) zero x lt is = ap (λ (z : Key). bytes_eq z.0 x.0 || is_taken (bytes_of keys) x.0) (sym is) ∙ rw (bytes_eq-self x.0) refl
taken_at (y ∷ keys) (suc i) x lt is = ap (λ b. bytes_eq y.0 x.0 || b) (taken_at keys i x (omega (arith, lt)) is) ∙ or_true (bytes_eq y.0 x.0)
  where
    or_true : (b : Bool) → (b || true) ≡ true
    or_true true = refl
    or_true false = refl

-- the first keys have been taken: none of their pairs passes any more
pub record Taken (test : State → ℕ → List ℕ → Bool) (drop : List (List ℕ) → State → State) (keys : List Key) (i : ℕ) (m n : State) : Type 0 where
  pub rest : drop (bytes_of keys) n ≡ drop (bytes_of keys) m
  pub none : (k : List ℕ) → IsTrue (is_taken (bytes_of (take i keys)) k) → (s : ℕ) → IsFalse (test n s k)

module _ (test : State → ℕ → List ℕ → Bool) (drop : List (List ℕ) → State → State) (keys : List Key) where
  pub none_taken : (m : State) → Taken test drop keys 0 m m
  none_taken m = record { rest = refl; none = λ k taken. absurd (false≢true taken) }

  one_taken : (i : ℕ) (x : Key) (m n o : State) → i < length keys → x ≡ get_or keys i x → Taken test drop keys i m n → Leave test drop x.0 n o → Taken test drop keys (i + 1) m o
  one_taken i x m n o lt is taken leave = record {
    rest = leave.rest (bytes_of keys) (taken_at keys i x lt is) ∙ taken.rest;
    none = λ k there s. elim (either (is_taken (bytes_of (take i keys)) k) (bytes_eq x.0 k) (sym (taken_more keys i x k lt is) ∙ there)) [
      | inl before ↦ leave.others s k (taken.none k before s)
      | inr here ↦ ap (test o s) (sym (same_bytes x.0 k here)) ∙ leave.none s
    ];
  }

  pub next_taken : (i : ℕ) (d : Key) (m n o : State) → i < length keys → Taken test drop keys i m n → Leave test drop (get_or keys i d).0 n o → Taken test drop keys (i + 1) m o
  next_taken i d m n o lt taken leave = one_taken i (get_or keys i d) m n o lt (get_or_default keys i d (get_or keys i d) lt) taken leave

  -- once all are taken, nothing is left to drop
  pub all_taken : (i : ℕ) (m n : State) → length keys ≤ i → i ≤ length keys
      → ((o : State) (ks : List (List ℕ)) → ((s : ℕ) (k : List ℕ) → IsTrue (is_taken ks k) → IsFalse (test o s k)) → drop ks o ≡ o)
      → Taken test drop keys i m n → n ≡ drop (bytes_of keys) m
  all_taken i m n over within none taken =
      let all : i ≡ length keys = omega arith in
      let whole : take i keys ≡ keys = ap (λ j. take j keys) all ∙ take-length keys in
      sym (none n (bytes_of keys) (λ s k there. taken.none k (ap (λ ks. is_taken (bytes_of ks) k) whole ∙ there) s)) ∙ taken.rest
