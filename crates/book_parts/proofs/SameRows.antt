-- Lists of rows that agree in the rows of each key.
use Rattle.std.proofs.Common.{◌≡◌, ◌≢◌, ℕ, suc, ◌+◌, ◌<◌, ◌≤◌, List, [], ◌∷◌, length, filter, sum_by, Bool, true, false, cond, ◌||◌, All, AllPairs, Some, refl, sym, ap, ◌∙◌, subst, inl, inr, arith}
use Rattle.std.specs.Option.{option_map}
use Rattle.std.specs.List.{list_any}
use Rattle.std.specs.Str.{bytes_eq}
use Rattle.std.proofs.lemmas.Bool.{cases_Bool, true≢false, false_from_ne_true}
use Rattle.std.proofs.lemmas.List.Elements.{All-cons, All-head, All-tail}
use Rattle.std.proofs.lemmas.List.Kept.{AllPairs-cons}
use Rattle.std.proofs.lemmas.List.Sums.{sum_by-cons}
use Rattle.std.proofs.lemmas.Map.Views.{any-filter_same}
use Rattle.std.proofs.lemmas.Slice.Eq.{bytes_eq-Decides}
use Rattle.adb_model.specs.Account.{Account}
use Rattle.adb_model.specs.Lists.{last}
use Rattle.adb_model.specs.State.{Row}
use Rattle.adb_model.specs.Presence.{has_row}
use Rattle.adb_model.specs.Laws.{SameRows}
use Rattle.adb_model.specs.Sound.{last_row}
use Rattle.book_parts.proofs.Found.{some_is, none_some}

abbrev pub has : List ℕ → Row → Bool
has k r = bytes_eq r.key k

abbrev pub Differ : Row → Row → Type 0
Differ r q = r.key ≢ q.key

has-own : (r : Row) → has r.key r ≡ true
has-own r = (bytes_eq-Decides r.key r.key).1 refl

pub key_is : (r : Row) (k : List ℕ) → has k r ≡ true → r.key ≡ k
key_is r k e = (bytes_eq-Decides r.key k).0 e

filtered : (p : Row → Bool) (r : Row) (rows : List Row) (b : Bool) → p r ≡ b → filter p (r ∷ rows) ≡ cond b (r ∷ filter p rows) (filter p rows)
filtered p r rows b e = ap (λ c. cond c (r ∷ filter p rows) (filter p rows)) e

-- ---- keys

pub same_keys : (rows others : List Row) (k : List ℕ) → SameRows rows others → has_row k rows ≡ has_row k others
same_keys rows others k same =
    sym (any-filter_same (has k) (has k) true (λ r t. t) rows) ∙ ap (list_any (has k)) (same k) ∙ any-filter_same (has k) (has k) true (λ r t. t) others

pub none_filtered : (k : List ℕ) (rows : List Row) → has_row k rows ≡ false → filter (has k) rows ≡ []
none_filtered k [] e = refl
none_filtered k (r ∷ rows) e = by (has k r) refl (none_filtered k rows)
  where
    by : (b : Bool) → has k r ≡ b → (has_row k rows ≡ false → filter (has k) rows ≡ []) → filter (has k) (r ∷ rows) ≡ []
    by true t rest = absurd (true≢false (sym (ap (λ c. c || has_row k rows) t) ∙ e))
    by false f rest = filtered (has k) r rows false f ∙ rest (sym (ap (λ c. c || has_row k rows) f) ∙ e)

-- ---- each key once

pub pairs_head : (r : Row) (rows : List Row) → AllPairs Differ (r ∷ rows) → All (Differ r) rows
pairs_head r rows pairs k d lt = pairs 0 (suc k) d (omega arith) (omega (arith, lt))

pub pairs_tail : (r : Row) (rows : List Row) → AllPairs Differ (r ∷ rows) → AllPairs Differ rows
pairs_tail r rows pairs i j d lt within = pairs (suc i) (suc j) d (omega (arith, lt)) (omega (arith, within))

pub none_of : (k : List ℕ) (rows : List Row) → All (λ q. k ≢ q.key) rows → filter (has k) rows ≡ []
none_of k [] all = refl
none_of k (r ∷ rows) all =
    filtered (has k) r rows false (false_from_ne_true (has k r) (λ t. All-head (λ (q : Row). k ≢ q.key) r rows all (sym (key_is r k t))))
    ∙ none_of k rows (All-tail (λ (q : Row). k ≢ q.key) r rows all)

-- the one row of a key
pub one_row : (k : List ℕ) (rows : List Row) (account : Account) → AllPairs Differ rows → last_row k rows ≡ Some account
    → filter (has k) rows ≡ record { key = k; account = account } ∷ []
one_row k [] account differ e = absurd (none_some e)
one_row k (r ∷ rows) account differ e = by (has k r) refl (one_row k rows account (pairs_tail r rows differ))
  where
    row_of : List ℕ → Account → Row
    row_of q a = record { key = q; account = a }

    by : (b : Bool) → has k r ≡ b → (last_row k rows ≡ Some account → filter (has k) rows ≡ row_of k account ∷ []) → filter (has k) (r ∷ rows) ≡ row_of k account ∷ []
    by true t rest =
        let key = key_is r k t in
        let none = none_of k rows (subst (λ q. All (λ (s : Row). q ≢ s.key) rows) key (pairs_head r rows differ)) in
        let is = filtered (has k) r rows true t ∙ ap (λ (rs : List Row). r ∷ rs) none in
        let of_last : Some r.account ≡ Some account = sym (ap (λ (rs : List Row). option_map (λ (q : Row). q.account) (last rs)) is) ∙ e in
        is ∙ ap (λ q. row_of q r.account ∷ []) key ∙ ap (λ a. row_of k a ∷ []) (some_is of_last)
    by false f rest =
        let is = filtered (has k) r rows false f in
        is ∙ rest (sym (ap (λ (rs : List Row). option_map (λ (q : Row). q.account) (last rs)) is) ∙ e)

longer : (r : Row) (rows : List Row) (k : List ℕ) → length (filter (has k) rows) ≤ length (filter (has k) (r ∷ rows))
longer r rows k = by (has k r) refl
  where
    by : (b : Bool) → has k r ≡ b → length (filter (has k) rows) ≤ length (filter (has k) (r ∷ rows))
    by true t = let is = ap length (filtered (has k) r rows true t) in omega (arith, is)
    by false f = let is = ap length (filtered (has k) r rows false f) in omega (arith, is)

one_at_most : (k : List ℕ) (rows : List Row) → AllPairs Differ rows → length (filter (has k) rows) ≤ 1
one_at_most k [] differ = omega arith
one_at_most k (r ∷ rows) differ = by (has k r) refl (one_at_most k rows (pairs_tail r rows differ))
  where
    by : (b : Bool) → has k r ≡ b → length (filter (has k) rows) ≤ 1 → length (filter (has k) (r ∷ rows)) ≤ 1
    by true t rest =
        let none = none_of k rows (subst (λ q. All (λ (s : Row). q ≢ s.key) rows) (key_is r k t) (pairs_head r rows differ)) in
        let is = ap length (filtered (has k) r rows true t ∙ ap (λ (rs : List Row). r ∷ rs) none) in
        omega (arith, is)
    by false f rest = let is = ap length (filtered (has k) r rows false f) in omega (arith, is, rest)

all_differ : (r : Row) (rows : List Row) → filter (has r.key) rows ≡ [] → All (Differ r) rows
all_differ r [] e = λ k d lt. let h : k < 0 = lt in absurd (omega (arith, h))
all_differ r (q ∷ rows) e = by (has r.key q) refl (all_differ r rows)
  where
    by : (b : Bool) → has r.key q ≡ b → (filter (has r.key) rows ≡ [] → All (Differ r) rows) → All (Differ r) (q ∷ rows)
    by true t rest = absurd (cons_nil (sym (filtered (has r.key) q rows true t) ∙ e))
      where
        cons_nil : {x : Row} {xs : List Row} → x ∷ xs ≡ [] → ⊥
        cons_nil e = cc
    by false f rest = All-cons (Differ r) q rows (λ same. true≢false (sym (has-own q) ∙ ap (λ k. has k q) (sym same) ∙ f)) (rest (sym (filtered (has r.key) q rows false f) ∙ e))

few_differ : (rows : List Row) → ((k : List ℕ) → length (filter (has k) rows) ≤ 1) → AllPairs Differ rows
few_differ [] few = λ i j d lt within. let h : j < 0 = within in absurd (omega (arith, h))
few_differ (r ∷ rows) few =
    let is = ap length (filtered (has r.key) r rows true (has-own r)) in
    let none : length (filter (has r.key) rows) ≡ 0 = omega (arith, few r.key, is) in
    AllPairs-cons Differ r rows (all_differ r rows (empty (filter (has r.key) rows) none)) (few_differ rows (λ k. omega (arith, few k, longer r rows k)))
  where
    empty : (rs : List Row) → length rs ≡ 0 → rs ≡ []
    empty [] e = refl
    empty (q ∷ rs) e = absurd (omega (arith, e))

pub same_differ : (rows others : List Row) → SameRows rows others → AllPairs Differ others → AllPairs Differ rows
same_differ rows others same differ = few_differ rows (λ k. subst (λ (rs : List Row). length rs ≤ 1) (sym (same k)) (one_at_most k others differ))

-- ---- sums

abbrev without_first : List ℕ → List Row → List Row
without_first k [] = []
without_first k (r ∷ rows) = cond (has k r) rows (r ∷ without_first k rows)

module _ (k : List ℕ) where
  heads : {x y : Row} {xs ys : List Row} → x ∷ xs ≡ y ∷ ys → (x ≡ y) × (xs ≡ ys)
  heads e = (cc, cc)

  cons_nil : {x : Row} {xs : List Row} → [] ≡ x ∷ xs → ⊥
  cons_nil e = cc

  first_gone : (rows : List Row) (z : Row) (zs : List Row) → filter (has k) rows ≡ z ∷ zs → filter (has k) (without_first k rows) ≡ zs
  first_gone [] z zs e = absurd (cons_nil e)
  first_gone (r ∷ rows) z zs e = by (has k r) refl (first_gone rows z zs)
    where
      by : (b : Bool) → has k r ≡ b → (filter (has k) rows ≡ z ∷ zs → filter (has k) (without_first k rows) ≡ zs)
          → filter (has k) (cond (has k r) rows (r ∷ without_first k rows)) ≡ zs
      by true t rest = ap (λ b. filter (has k) (cond b rows (r ∷ without_first k rows))) t ∙ (heads (sym (filtered (has k) r rows true t) ∙ e)).1
      by false f rest =
          ap (λ b. filter (has k) (cond b rows (r ∷ without_first k rows))) f ∙ filtered (has k) r (without_first k rows) false f
          ∙ rest (sym (filtered (has k) r rows false f) ∙ e)

  others_stay : (j : List ℕ) → k ≢ j → (rows : List Row) → filter (has j) (without_first k rows) ≡ filter (has j) rows
  others_stay j apart [] = refl
  others_stay j apart (r ∷ rows) = by (has k r) refl (others_stay j apart rows)
    where
      by : (b : Bool) → has k r ≡ b → filter (has j) (without_first k rows) ≡ filter (has j) rows → filter (has j) (cond (has k r) rows (r ∷ without_first k rows)) ≡ filter (has j) (r ∷ rows)
      by true t rest =
          ap (λ b. filter (has j) (cond b rows (r ∷ without_first k rows))) t
          ∙ sym (filtered (has j) r rows false (false_from_ne_true (has j r) (λ same. apart (sym (key_is r k t) ∙ key_is r j same))))
      by false f rest =
          ap (λ b. filter (has j) (cond b rows (r ∷ without_first k rows))) f
          ∙ ap (λ (rs : List Row). cond (has j r) (r ∷ rs) rs) rest

  first_summed : (f : Row → ℕ) (rows : List Row) (z : Row) (zs : List Row) → filter (has k) rows ≡ z ∷ zs → sum_by f rows ≡ f z + sum_by f (without_first k rows)
  first_summed f [] z zs e = absurd (cons_nil e)
  first_summed f (r ∷ rows) z zs e = by (has k r) refl (first_summed f rows z zs)
    where
      by : (b : Bool) → has k r ≡ b → (filter (has k) rows ≡ z ∷ zs → sum_by f rows ≡ f z + sum_by f (without_first k rows))
          → sum_by f (r ∷ rows) ≡ f z + sum_by f (cond (has k r) rows (r ∷ without_first k rows))
      by true t rest =
          let first = ap f (heads (sym (filtered (has k) r rows true t) ∙ e)).0 in
          let left = ap (λ b. sum_by f (cond b rows (r ∷ without_first k rows))) t in
          omega (arith, sum_by-cons f r rows, first, left)
      by false g rest =
          let later = rest (sym (filtered (has k) r rows false g) ∙ e) in
          let left = ap (λ b. sum_by f (cond b rows (r ∷ without_first k rows))) g in
          omega (arith, sum_by-cons f r rows, sum_by-cons f r (without_first k rows), later, left)

pub same_sums : (f : Row → ℕ) (rows others : List Row) → SameRows rows others → sum_by f rows ≡ sum_by f others
same_sums f [] [] same = refl
same_sums f [] (q ∷ others) same = absurd (cons_nil q.key (same q.key ∙ filtered (has q.key) q others true (has-own q)))
same_sums f (r ∷ rows) others same =
    let own = sym (same r.key) ∙ filtered (has r.key) r rows true (has-own r) in
    let rest = same_sums f rows (without_first r.key others) (λ j. elim (cases_Bool (has j r)) [
      | inl t ↦
          subst (λ (q : List ℕ). filter (has q) rows ≡ filter (has q) (without_first r.key others)) (key_is r j t)
          (sym (first_gone r.key others r (filter (has r.key) rows) own))
      | inr g ↦
          sym (filtered (has j) r rows false g) ∙ same j
          ∙ sym (others_stay r.key j (λ e. true≢false (sym (has-own r) ∙ ap (λ q. has q r) e ∙ g)) others)
    ]) in
    omega (arith, sum_by-cons f r rows, first_summed r.key f others r (filter (has r.key) rows) own, rest)

count_length : (rows : List Row) → sum_by (λ r. 1) rows ≡ length rows
count_length [] = refl
count_length (r ∷ rows) = let rest = count_length rows in omega (arith, sum_by-cons (λ (q : Row). 1) r rows, rest)

pub same_length : (rows others : List Row) → SameRows rows others → length rows ≡ length others
same_length rows others same = sym (count_length rows) ∙ same_sums (λ r. 1) rows others same ∙ count_length others
