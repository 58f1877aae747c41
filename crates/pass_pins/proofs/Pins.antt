-- Edits at the first pin that passes a test, by its place and by recursion, and what they leave of each id.
use Rattle.std.proofs.Common.{◌≡◌, ℕ, zero, suc, ◌+◌, ◌<◌, List, [], ◌∷◌, length, set, get_or, Bool, true, false, cond, eqb, ltb, not, ◌||◌, ◌&&◌, Option, Some, None, is_some, refl, sym, ap, ◌∙◌, inl, inr, arith, position}
use Rattle.std.specs.List.{remove, list_any, prefix_len}
use Rattle.std.specs.Option.{option_or}
use Rattle.std.proofs.lemmas.Bool.{cases_Bool, eqb-true, lt-ltb, true≢false}
use Rattle.std.proofs.lemmas.Bool.Decides.{nat_tests}
use Rattle.std.proofs.lemmas.List.Quantifiers.{position-Some}
use Rattle.std.proofs.lemmas.List.Sums.{sum_by-cons}
use Rattle.pass_pins.specs.declared.Pin.{Pin}
use Rattle.pass_pins.specs.Pins.{has_id, is_unfinished, is_finished, count_of, with_finished, without_first, without_one}

any_prefix : (test : Pin → Bool) (ps : List Pin) → list_any test ps ≡ ltb (prefix_len (λ p. not (test p)) ps) (length ps)
any_prefix test [] = refl
any_prefix test (p ∷ ps) = elim (cases_Bool (test p)) [
  | inl passes ↦ rw passes (sym (lt-ltb 0 (suc (length ps)) (omega arith)))
  | inr fails ↦ rw fails (any_prefix test ps ∙ later (prefix_len (λ q. not (test q)) ps) (length ps))
]
  where
    later : (m n : ℕ) → ltb m n ≡ ltb (1 + m) (suc n)
    later m n = grind (arith, nat_tests)

-- some pin passes exactly where there is a first
pub any-position : (test : Pin → Bool) (ps : List Pin) → list_any test ps ≡ is_some (position test ps)
any-position test ps = any_prefix test ps ∙ shown (ltb (prefix_len (λ p. not (test p)) ps) (length ps)) (prefix_len (λ p. not (test p)) ps)
  where
    shown : (b : Bool) (n : ℕ) → b ≡ is_some (cond b (Some n) None)
    shown true n = refl
    shown false n = refl

abbrev IsFirst : (Pin → Bool) → List Pin → ℕ → Type 0
IsFirst test ps i = (d : Pin) → (i < length ps) × (test (get_or ps i d) ≡ true) × ((k : ℕ) → k < i → test (get_or ps k d) ≡ false)

tail_first : (test : Pin → Bool) (p : Pin) (ps : List Pin) (i : ℕ) → IsFirst test (p ∷ ps) (suc i) → IsFirst test ps i
tail_first test p ps i first d = (omega (arith, (first d).0), (first d).1, λ k lt. (first d).2 (suc k) (omega arith))

finished_at : (id : ℕ) (ps : List Pin) (i : ℕ) (d : Pin) → IsFirst (is_unfinished id) ps i → with_finished id ps ≡ set ps i (record (get_or ps i d) { finished = true })
finished_at id [] i d first = absurd (omega (arith, (first d).0))
finished_at id (p ∷ ps) zero d first = rw (first d).1 refl
finished_at id (p ∷ ps) (suc i) d first = rw ((first d).2 0 (omega arith)) (ap (λ l. p ∷ l) (finished_at id ps i d (tail_first (is_unfinished id) p ps i first)))

-- a finish at the place that a search gave
pub with_finished-set : (id : ℕ) (ps : List Pin) (i : ℕ) (d : Pin) → position (is_unfinished id) ps ≡ Some i → with_finished id ps ≡ set ps i (record (get_or ps i d) { finished = true })
with_finished-set id ps i d e = finished_at id ps i d (λ d. position-Some (is_unfinished id) ps i d e)

-- where no unfinished pin has the id, all stays
pub with_finished_none : (id : ℕ) (ps : List Pin) → list_any (is_unfinished id) ps ≡ false → with_finished id ps ≡ ps
with_finished_none id [] e = refl
with_finished_none id (p ∷ ps) e = elim (cases_Bool (is_unfinished id p)) [
  | inl passes ↦ absurd (true≢false (sym (ap (λ b. b || list_any (is_unfinished id) ps) passes) ∙ e))
  | inr fails ↦ rw fails (ap (λ l. p ∷ l) (with_finished_none id ps (sym (ap (λ b. b || list_any (is_unfinished id) ps) fails) ∙ e)))
]

without_at : (test : Pin → Bool) (ps : List Pin) (i : ℕ) (d : Pin) → IsFirst test ps i → without_first test ps ≡ remove ps i
without_at test [] i d first = absurd (omega (arith, (first d).0))
without_at test (p ∷ ps) zero d first = rw (first d).1 refl
without_at test (p ∷ ps) (suc i) d first = rw ((first d).2 0 (omega arith)) (ap (λ l. p ∷ l) (without_at test ps i d (tail_first test p ps i first)))

pub without_first-remove : (test : Pin → Bool) (ps : List Pin) (i : ℕ) (d : Pin) → position test ps ≡ Some i → without_first test ps ≡ remove ps i
without_first-remove test ps i d e = without_at test ps i d (λ d. position-Some test ps i d e)

pub without_first_none : (test : Pin → Bool) (ps : List Pin) → list_any test ps ≡ false → without_first test ps ≡ ps
without_first_none test [] e = refl
without_first_none test (p ∷ ps) e = elim (cases_Bool (test p)) [
  | inl passes ↦ absurd (true≢false (sym (ap (λ b. b || list_any test ps) passes) ∙ e))
  | inr fails ↦ rw fails (ap (λ l. p ∷ l) (without_first_none test ps (sym (ap (λ b. b || list_any test ps) fails) ∙ e)))
]

-- a finished pin of an id is a pin of the id
pub any_finished : (id : ℕ) (ps : List Pin) → list_any (is_finished id) ps ≡ true → list_any (has_id id) ps ≡ true
any_finished id [] e = absurd (true≢false (sym e))
any_finished id (p ∷ ps) e = elim (cases_Bool (has_id id p)) [
  | inl same ↦ rw same refl
  | inr other ↦ rw other (any_finished id ps (rw other at e))
]

-- ---- how many pins of each id are left

count_of-cons : (q : ℕ) (p : Pin) (ps : List Pin) → count_of q (p ∷ ps) ≡ cond (eqb p.id q) 1 0 + count_of q ps
count_of-cons q p ps = sum_by-cons (λ r. cond (has_id q r) 1 0) p ps

pub count_of-with_finished : (id q : ℕ) (ps : List Pin) → count_of q (with_finished id ps) ≡ count_of q ps
count_of-with_finished id q [] = refl
count_of-with_finished id q (p ∷ ps) = elim (cases_Bool (is_unfinished id p)) [
  | inl passes ↦ rw passes (count_of-cons q (record p { finished = true }) ps ∙ sym (count_of-cons q p ps))
  | inr fails ↦ rw fails (count_of-cons q p (with_finished id ps) ∙ ap (λ n. cond (eqb p.id q) 1 0 + n) (count_of-with_finished id q ps) ∙ sym (count_of-cons q p ps))
]

count_without : (test : Pin → Bool) (id q : ℕ) → ((p : Pin) → test p ≡ true → p.id ≡ id) → (ps : List Pin) → list_any test ps ≡ true → count_of q ps ≡ count_of q (without_first test ps) + cond (eqb id q) 1 0
count_without test id q says [] e = absurd (true≢false (sym e))
count_without test id q says (p ∷ ps) e = elim (cases_Bool (test p)) [
  | inl passes ↦ rw passes (omega (arith, count_of-cons q p ps, ap {B = ℕ} (λ n. cond (eqb n q) 1 0) (says p passes)))
  | inr fails ↦ rw fails (omega (arith, count_of-cons q p ps, count_of-cons q p (without_first test ps), count_without test id q says ps (sym (ap (λ b. b || list_any test ps) fails) ∙ e)))
]

none_first : (o p : Option ℕ) (i : ℕ) → o ≡ None → option_or o p ≡ Some i → p ≡ Some i
none_first o p i none e = rw none at e

-- what is taken at the place that was searched for
pub without_one-remove : (id : ℕ) (ps : List Pin) (i : ℕ) (d : Pin) → option_or (position (is_finished id) ps) (position (has_id id) ps) ≡ Some i → without_one id ps ≡ remove ps i
without_one-remove id ps i d e = by_first (position (is_finished id) ps) refl
  where
    by_first : (o : Option ℕ) → position (is_finished id) ps ≡ o → without_one id ps ≡ remove ps i
    by_first (Some j) is =
        let same : Some j ≡ Some i = sym (ap (λ p. option_or p (position (has_id id) ps)) is) ∙ e in
        let there : list_any (is_finished id) ps ≡ true = any-position (is_finished id) ps ∙ ap is_some is in
        rw there (without_first-remove (is_finished id) ps i d (is ∙ same))
    by_first None is =
        let absent : list_any (is_finished id) ps ≡ false = any-position (is_finished id) ps ∙ ap is_some is in
        rw absent (without_first-remove (has_id id) ps i d (none_first _ _ i is e))

-- where a search for the place finds none, no pin has the id
pub no_place : (id : ℕ) (ps : List Pin) → option_or (position (is_finished id) ps) (position (has_id id) ps) ≡ None → list_any (has_id id) ps ≡ false
no_place id ps e = by_first (position (is_finished id) ps) refl
  where
    by_first : (o : Option ℕ) → position (is_finished id) ps ≡ o → list_any (has_id id) ps ≡ false
    by_first (Some j) is = absurd (let same : Some j ≡ None = sym (ap (λ p. option_or p (position (has_id id) ps)) is) ∙ e in cc)
    by_first None is = any-position (has_id id) ps ∙ ap is_some (rw is at e)

pub some_place : (id : ℕ) (ps : List Pin) (i : ℕ) → option_or (position (is_finished id) ps) (position (has_id id) ps) ≡ Some i → (list_any (has_id id) ps ≡ true)
some_place id ps i e = by_first (position (is_finished id) ps) refl
  where
    by_first : (o : Option ℕ) → position (is_finished id) ps ≡ o → list_any (has_id id) ps ≡ true
    by_first (Some j) is = any_finished id ps (any-position (is_finished id) ps ∙ ap is_some is)
    by_first None is = any-position (has_id id) ps ∙ ap is_some (none_first _ _ i is e)

-- with no pin of the id nothing is taken
pub without_one_none : (id : ℕ) (ps : List Pin) → list_any (has_id id) ps ≡ false → without_one id ps ≡ ps
without_one_none id ps none = elim (cases_Bool (list_any (is_finished id) ps)) [
  | inl some ↦ absurd (true≢false (sym (any_finished id ps some) ∙ none))
  | inr absent ↦ rw absent (without_first_none (has_id id) ps none)
]

both_true : (a b : Bool) → (a && b) ≡ true → a ≡ true
both_true true b e = refl
both_true false b e = e

pub count_of-without_one : (id q : ℕ) (ps : List Pin) → count_of q ps ≡ count_of q (without_one id ps) + cond (list_any (has_id id) ps && eqb id q) 1 0
count_of-without_one id q ps = elim (cases_Bool (list_any (is_finished id) ps)) [
  | inl some ↦ rw (some, any_finished id ps some) (count_without (is_finished id) id q (λ p e. eqb-true p.id id (both_true (eqb p.id id) p.finished e)) ps some)
  | inr none ↦ rw none (elim (cases_Bool (list_any (has_id id) ps)) [
    | inl there ↦ rw there (count_without (has_id id) id q (λ p e. eqb-true p.id id e) ps there)
    | inr absent ↦ rw (absent, without_first_none (has_id id) ps absent) (omega arith)
  ])
]
