-- What the steps tell, in the words of the calls.
use Rattle.std.proofs.Common.{◌⊎◌, ◌%◌, eqb, lt_of_not-le, ◌≡◌, ◌≢◌, ℕ, ◌+◌, ◌-◌, ◌<◌, ◌≤◌, min, List, [], ◌∷◌, ◌++◌, length, Bool, true, Option, Some, None, refl, sym, ap, ◌∙◌, subst, arith, append-nil}
use Rattle.std.proofs.lemmas.List.Elements.{filter-append}
use Rattle.atomic_table.specs.Table.{Me, rest, Allows}
use mathlib.Core.Logic.{dite}
use native.Mathlib.Decide.{dec_le}
use prog.Atomic.{either}
use Rattle.turn_lock.specs.Numbers.{is_among, borne_by}
use Rattle.turn_lock.specs.Passes.{longer}
use Rattle.turn_lock.specs.Rule.{total, Every, if_live, in_range, ranges_of, numbers_of, Knew, Unborn, Recalls, Kept, LAST}
use Rattle.turn_lock.specs.Steps.{Has, holding, noting, looked, tried, passed, told, both_of, SameNumbers, Follows, Rests, Queues, Holds, Took}
use Rattle.turn_lock.proofs.Sums.{some_is, in_first, in_cut}
use Rattle.turn_lock.proofs.Lists.{longer_first, longer_second, every_map}
use Rattle.turn_lock.proofs.Ranges.{none_borne, all_borne, borne_without}
use Rattle.turn_lock.proofs.Taking.{looks, tries, tells}
use Rattle.turn_lock.proofs.Passing.{passes}
use Rattle.turn_lock.specs.declared.rule.Knows.{Knows}
use Rattle.turn_lock.specs.Rule.{Boxed}

first_of_all : {A : Type 0} → List (ℕ × Option A) → Option A
first_of_all [] = None
first_of_all (p ∷ ps) = p.1

some_same : {A : Type 0} (x y : A) → Some x ≡ Some y → x ≡ y
some_same x y e = cc e

took_out : {A : Type 0} (k : ℕ) (r : Option A) (x y : A) (xs : List (ℕ × Option A)) → (k, r) ∷ xs ≡ (k, Some y) ∷ [] → r ≡ Some x → x ≡ y
unfolding first_of_all
took_out k r x y xs e is = some_same x y (sym is ∙ ap first_of_all e)

pub live_is : (b : Bool) (n : ℕ) → b ≡ true → if_live b n ≡ n
live_is b n e = ap (λ (c : Bool). if_live c n) e

module _ {E : Type 0} where
  same_refl : (v : Knows E) → SameNumbers v v
  same_refl v = (refl, refl, refl, refl)

  pub same_trans : (u v w : Knows E) → SameNumbers u v → SameNumbers v w → SameNumbers u w
  same_trans u v w p q = (q.0 ∙ p.0, q.1 ∙ p.1, q.2 ∙ p.2, q.3 ∙ p.3)

  ranges_same : (v w : Knows E) → SameNumbers v w → ranges_of w ≡ ranges_of v
  ranges_same v w p = λ i. (p.1 i, 1) ∷ p.2 i

  module _ (bears : E → ℕ) where
    others_alone : (v : Knows E) (xs : List E) → v.live ≡ true → Every (λ e. numbers_of (bears e) v ≡ 0) xs → Every (λ e. total (in_range (bears e)) (ranges_of v) ≡ 0) xs
    others_alone v xs live p = every_map _ _ (λ (e : E) z. sym (live_is v.live (total (in_range (bears e)) (ranges_of v)) live) ∙ z) xs p

    -- further entries of others add nothing to a view's own
    own_kept : (v : Knows E) (xs ys : List E) → Every (λ e. total (in_range (bears e)) (ranges_of v) ≡ 0) ys → borne_by bears (ranges_of v) (xs ++ ys) ≡ borne_by bears (ranges_of v) xs
    own_kept v xs ys none =
        filter-append (λ e. is_among (bears e) (ranges_of v)) xs ys
        ∙ (ap (λ (z : List E). borne_by bears (ranges_of v) xs ++ z) (none_borne bears (ranges_of v) ys none) ∙ append-nil (borne_by bears (ranges_of v) xs))

    follows : (v w : Knows E) → SameNumbers v w → v.live ≡ true → Knew bears w.seen v → Follows bears v w
    follows v w p live k = record {
      same = p;
      seen = (k.0, k.1);
      mine = ap (λ (r : List (ℕ × ℕ)). borne_by bears r w.seen) (ranges_same v w p) ∙ (ap (borne_by bears (ranges_of v)) (sym k.1) ∙ own_kept v v.seen k.0 (others_alone v k.0 live k.2));
    }

    pub follows_after : (u v w : Knows E) → SameNumbers u v → v.seen ≡ u.seen → Follows bears v w → Follows bears u w
    follows_after u v w p s n = record {
      same = same_trans u v w p n.same;
      seen = (n.seen.0, ap (λ (z : List E). z ++ n.seen.0) (sym s) ∙ n.seen.1);
      mine = n.mine ∙ (λ i. borne_by bears (ranges_same u v p i) (s i));
    }

    own_first : (added : List E) (v : Knows E) → Every (λ e. bears e ≡ v.own) added → Every (λ e. 0 < total (in_range (bears e)) (ranges_of v)) added
    own_first added v p = every_map _ _ (λ (e : E) is. subst (λ (y : ℕ). 0 < total (in_range y) (ranges_of v)) (sym is) (let f = in_first v.own in omega arith)) added p

    -- the entries that a view adds are its own
    pub own_added : (v : Knows E) (added : List E) → Every (λ e. bears e ≡ v.own) added → borne_by bears (ranges_of v) (v.seen ++ added) ≡ borne_by bears (ranges_of v) v.seen ++ added
    own_added v added own =
        filter-append (λ e. is_among (bears e) (ranges_of v)) v.seen added
        ∙ ap (λ (z : List E). borne_by bears (ranges_of v) v.seen ++ z) (all_borne bears (ranges_of v) added (own_first added v own))

  -- a seat that got the value, after it has taken it out of the slot
  module _ {V : Type 0} (reads : List E → V → Type 0) (bears : E → ℕ) where
    took : (v u : Knows E) (r : ℕ) (n m : Me (Option (Boxed V)) (Knows E)) (x : Boxed V) → SameNumbers v u → u.parts ≡ [] → v.live ≡ true
        → (h : Has reads bears v n) → (n.0 ≡ holding u r n.0.seen) → m ≡ (n.0, (0, None) ∷ []) → x ≡ h.0 → Took reads bears v m x r
    took v u r n m x p s live h is to has =
        let e : m.0 ≡ holding u r n.0.seen = ap (λ (q : Me (Option (Boxed V)) (Knows E)). q.0) to ∙ is in
        let seen : n.0.seen ≡ m.0.seen = ap (λ (q : Me (Option (Boxed V)) (Knows E)). q.0.seen) (sym to) in
        let pm : SameNumbers v m.0 = (ap (λ (q : Knows E). q.live) e ∙ p.0, ap (λ (q : Knows E). q.own) e ∙ p.1, ap (λ (q : Knows E). q.joined) e ∙ p.2, ap (λ (q : Knows E). q.stock) e ∙ p.3) in
        record {
          holds = record {
            live = pm.0 ∙ live;
            has = ap (λ (q : Knows E). q.ticket) e;
            holds = ap (λ (q : Knows E). q.holds) e;
            out = ap (λ (q : Me (Option (Boxed V)) (Knows E)). q.1) to;
            whole = ap (λ (q : Knows E). q.parts) e ∙ s;
            counts = ap (λ (y : Boxed V). y.value.count) has ∙ (h.3 ∙ ap (λ (l : List E). min (length l) 18446744073709551615) seen);
          };
          stood = subst (λ (l : List E). reads l x.value.value) seen (subst (λ (y : Boxed V). reads n.0.seen y.value.value) (sym has) h.2);
          follows = follows bears v m.0 pm live (subst (λ (l : List E). Knew bears l v) seen h.4);
        }

    pub got : (m n : Me (Option (Boxed V)) (Knows E)) (r t : ℕ) → Queues m t → looked reads bears m r n → r ≡ t → Has reads bears m.0 n × (n.0 ≡ holding (noting m.0 r) r n.0.seen)
    got m n r t q l is = l.0 (q.has ∙ ap Some (sym is))

    pub waits_on : (m n : Me (Option (Boxed V)) (Knows E)) (r t : ℕ) → Queues m t → looked reads bears m r n → r ≢ t → Queues n t × SameNumbers m.0 n.0 × (n.0.seen ≡ m.0.seen)
    waits_on m n r t q l other =
        let e : n ≡ (noting m.0 r, m.1) = l.1 (λ s. other (sym (some_is t r (sym q.has ∙ s)))) in (
          record { live = ap (λ (x : Me (Option (Boxed V)) (Knows E)). x.0.live) e ∙ q.live; has = ap (λ (x : Me (Option (Boxed V)) (Knows E)). x.0.ticket) e ∙ q.has; idle = ap (λ (x : Me (Option (Boxed V)) (Knows E)). x.0.holds) e ∙ q.idle; bare = ap (λ (x : Me (Option (Boxed V)) (Knows E)). x.1) e ∙ q.bare; whole = ap (λ (x : Me (Option (Boxed V)) (Knows E)). x.0.parts) e ∙ q.whole },
          (ap (λ (x : Me (Option (Boxed V)) (Knows E)). x.0.live) e, ap (λ (x : Me (Option (Boxed V)) (Knows E)). x.0.own) e, ap (λ (x : Me (Option (Boxed V)) (Knows E)). x.0.joined) e, ap (λ (x : Me (Option (Boxed V)) (Knows E)). x.0.stock) e),
          ap (λ (x : Me (Option (Boxed V)) (Knows E)). x.0.seen) e,
        )

    pub look_took : (m n m' : Me (Option (Boxed V)) (Knows E)) (r t : ℕ) (res : Option (Boxed V)) (x : Boxed V) → Queues m t → looked reads bears m r n → r ≡ t
        → n.1 ≡ (0, res) ∷ rest n.1 → m' ≡ (n.0, (0, None) ∷ rest n.1) → res ≡ Some x → Took reads bears m.0 m' x t
    look_took m n m' r t res x q l is had now opened =
        let g = got m n r t q l is in
        subst (Took reads bears m.0 m' x) is
        (took m.0 (noting m.0 r) r n m' x (same_refl m.0) q.whole q.live g.0 g.1 (now ∙ ap (λ (y : List (ℕ × Option (Boxed V))). (n.0, (0, None) ∷ rest y)) g.0.1) (took_out 0 res x g.0.0 (rest n.1) (sym had ∙ g.0.1) opened))

    pub try_took : (m n m' : Me (Option (Boxed V)) (Knows E)) (r t : ℕ) (res : Option (Boxed V)) (x : Boxed V) → Rests m → tried reads bears m r n → m.0.noted ≡ t → r ≡ t
        → n.1 ≡ (0, res) ∷ rest n.1 → m' ≡ (n.0, (0, None) ∷ rest n.1) → res ≡ Some x → Took reads bears m.0 m' x t
    try_took m n m' r t res x q l noted is had now opened =
        let g = l.0 (is ∙ sym noted) in
        subst (Took reads bears m.0 m' x) is
        (took m.0 m.0 r n m' x (same_refl m.0) q.whole q.live g.0 g.1 (now ∙ ap (λ (y : List (ℕ × Option (Boxed V))). (n.0, (0, None) ∷ rest y)) g.0.1) (took_out 0 res x g.0.0 (rest n.1) (sym had ∙ g.0.1) opened))

module _ {V E : Type 0} (stands : V → List E → V → Type 0) (bears : E → ℕ) (start : V) (slots id : ℕ) where
  pub looks_as : (reads : List E → V → Type 0) → ((xs : List E) (x : V) → stands start xs x → reads xs x) → (m : Me (Option (Boxed V)) (Knows E)) (t : ℕ) → Queues m t
      → Allows (Kept stands bears start) slots id m 0 (λ n. n) (looked reads bears m)
  looks_as reads reading m t q = subst (λ (c : List (ℕ × Option (Boxed V))). Allows (Kept stands bears start) slots id (m.0, c) 0 (λ n. n) (looked reads bears (m.0, c))) (sym q.bare) (looks stands bears start reads reading slots id m.0 q.live q.idle)

  pub tries_as : (reads : List E → V → Type 0) → ((xs : List E) (x : V) → stands start xs x → reads xs x) → (m : Me (Option (Boxed V)) (Knows E)) (old new : ℕ) → Rests m → m.0.noted ≡ old → new ≡ old + 1
      → Allows (Kept stands bears start) slots id m 1 (λ n. either (eqb n old) new n) (tried reads bears m)
  tries_as reads reading m old new q noted is = subst (λ (c : List (ℕ × Option (Boxed V))). Allows (Kept stands bears start) slots id (m.0, c) 1 (λ n. either (eqb n old) new n) (tried reads bears (m.0, c))) (sym q.bare) (tries stands bears start reads reading slots id m.0 old new q.live q.free q.idle noted is)

  pub tells_as : (m : Me (Option (Boxed V)) (Knows E)) → m.0.live ≡ true → m.1 ≡ [] → Allows (Kept stands bears start) slots id m 0 (λ n. n) (λ _. told bears m)
  tells_as m live bare = subst (λ (c : List (ℕ × Option (Boxed V))). Allows (Kept stands bears start) slots id (m.0, c) 0 (λ n. n) (λ _. told bears (m.0, c))) (sym bare) (tells stands bears start slots id m.0 live)

  pub passes_as : (m m' : Me (Option (Boxed V)) (Knows E)) (added : List E) (count t k : ℕ) (z : Boxed V) → slots ≡ 1 → Holds m count t → m' ≡ (m.0, (0, Some z) ∷ rest m.1)
      → ((k ≡ 1) × (t ≢ LAST)) ⊎ ((k ≡ 0) × (t ≡ LAST)) → Every (λ e. bears e ≡ m.0.own) added → stands start (m.0.seen ++ added) z.value.value → z.value.count ≡ min (length (m.0.seen ++ added)) 18446744073709551615
      → Allows (Kept stands bears start) slots id m' 0 (λ n. (n + k) % 18446744073709551616) (λ _. passed added m')
  passes_as m m' added count t k z one h is which own st counted =
      let to : m' ≡ (m.0, (0, Some z) ∷ []) = is ∙ ap (λ (l : List (ℕ × Option (Boxed V))). (m.0, (0, Some z) ∷ rest l)) h.out in
      subst (λ (k' : ℕ). Allows (Kept stands bears start) k' id m' 0 (λ n. (n + k) % 18446744073709551616) (λ _. passed added m')) (sym one)
      (subst (λ (y : Me (Option (Boxed V)) (Knows E)). Allows (Kept stands bears start) 1 id y 0 (λ n. (n + k) % 18446744073709551616) (λ _. passed added y)) (sym to)
      (passes stands bears start id m.0 added t k h.live h.whole h.has h.holds which z own st counted))

-- What was told after a join, and before a split.
module _ {E : Type 0} (bears : E → ℕ) where
  longest : (xs ys : List E) → (length xs ≤ length (longer xs ys)) × (length ys ≤ length (longer xs ys))
  longest xs ys = dite (dec_le (length ys) (length xs))
      (λ le. let e : length (longer xs ys) ≡ length xs = ap length (longer_first xs ys le) in (omega arith, omega arith))
      (λ gt. let lt : length xs < length ys = lt_of_not-le gt in let e : length (longer xs ys) ≡ length ys = ap length (longer_second xs ys lt) in (omega arith, omega arith))

  recalled : (v : Knows E) (xs : List E) → Recalls bears xs (ranges_of v, v.seen) → borne_by bears (ranges_of v) xs ≡ borne_by bears (ranges_of v) v.seen
  recalled v xs r = ap (borne_by bears (ranges_of v)) (sym r.1) ∙ own_kept bears v v.seen r.0 r.2

  -- of the views of two passes that were joined, by what was told then
  pub record Told (v w : Knows E) (seen : List E) : Type 0 where
    pub first : (more : List E) × (v.seen ++ more ≡ seen)
    pub second : (more : List E) × (w.seen ++ more ≡ seen)
    pub of_first : borne_by bears (ranges_of v) seen ≡ borne_by bears (ranges_of v) v.seen
    pub of_second : borne_by bears (ranges_of w) seen ≡ borne_by bears (ranges_of w) w.seen
    pub of_both : borne_by bears (ranges_of (both_of v w)) seen ≡ borne_by bears (ranges_of v ++ ranges_of w) seen

  module _ {V : Type 0} where
    pub joined_told : (v w : Knows E) (m n : Me (Option (Boxed V)) (Knows E)) → m ≡ (both_of v w, []) → told bears m n → Told v w (longer v.seen w.seen)
    joined_told v w m n is t =
        let u = subst (λ (x : Me (Option (Boxed V)) (Knows E)). told bears x n) is t in
        let l = longest v.seen w.seen in
        let p = u.2.0 l.0 in
        let q = u.2.1.0 l.1 in
        let s = u.2.1.1.0 (omega arith) in
        record {
          first = (p.0, p.1);
          second = (q.0, q.1);
          of_first = recalled v (longer v.seen w.seen) p;
          of_second = recalled w (longer v.seen w.seen) q;
          of_both = borne_without bears (ranges_of v) w.stock (ranges_of w) (longer v.seen w.seen) (every_map _ _ (λ (e : E) z. (let z' : in_range (bears e) w.stock + 0 ≡ 0 = z in omega arith)) (longer v.seen w.seen) (subst (Every (λ e. total (in_range (bears e)) (w.stock ∷ []) ≡ 0)) s.1 s.2));
        }

  -- a new pass has no entry of its own
  pub none_of_new : (v : Knows E) (share : ℕ) → v.live ≡ true → share < v.stock.1 → Unborn bears v → borne_by bears ((v.stock.0, 1) ∷ []) v.seen ≡ []
  none_of_new v share live enough unborn =
      none_borne bears ((v.stock.0, 1) ∷ []) v.seen (every_map _ _ (λ (e : E) z. (let d = live_is v.live (in_range (bears e) v.stock) live in
      let c = in_cut (bears e) v.stock.0 1 (v.stock.1 - 1) (v.stock.0 + 1) v.stock.1 refl (omega arith) in omega arith)) v.seen unborn)
