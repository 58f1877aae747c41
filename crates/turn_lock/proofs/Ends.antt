-- The rule at the start, and what it says at the end.
use Rattle.std.proofs.Common.{◌≡◌, ◌≢◌, ℕ, zero, suc, ◌+◌, ◌<◌, ◌≤◌, List, [], ◌∷◌, ◌++◌, Bool, true, false, true≢false, Option, Some, None, refl, sym, ap, ◌∙◌, subst, inl, inr, arith, append-nil}
use mathlib.Core.Option.{some, some-ne-none, some-injective}
use mathlib.Core.Option as maybe
use mathlib.Core.Logic.{dite}
use native.Mathlib.Decide.{ℕ_discrete}
use lib.ListN.{get_elem?}
use Rattle.atomic_table.specs.Table.{State, opening, Final, Seen}
use Rattle.turn_lock.specs.declared.rule.Knows.{Knows}
use Rattle.turn_lock.specs.Rule.{Boxed}
use Rattle.turn_lock.specs.declared.rule.Counted.{Counted}
use Rattle.turn_lock.specs.Rule.{total, Every, queued, as_number, if_live, everyone, numbers_of, stock_of, weight, in_range, ranges_of, Fits, Kept, opener}
use Rattle.turn_lock.proofs.Sums.{one_of, two_of, in_cut, in_within, in_most}
use Rattle.turn_lock.proofs.Lists.{every_map, every_both, none_left}
use Rattle.turn_lock.proofs.Taking.{nobody}
use Rattle.turn_lock.proofs.Passing.{own_in}
use Rattle.turn_lock.proofs.Ranges.{among_counts, all_borne}
use Rattle.turn_lock.proofs.Views.{live_is}
use Rattle.turn_lock.specs.Numbers.{HaveAll, borne_by}

module _ {V E : Type 0} (stands : V → List E → V → Type 0) (bears : E → ℕ) (start : V) where
  pub opens : stands start [] start → (b : Boxed V) → b.value ≡ record { value = start; count = 0 } → (x : Option (Boxed V)) → x ≡ Some b → Kept stands bears start (opening (0 ∷ 0 ∷ []) (x ∷ []) opener)
  opens st b new x is = record {
    log = [];
    serving = 0;
    skip = 0;
    next = 0;
    words = refl;
    counted = omega arith;
    apart = λ x. omega arith;
    last = omega arith;
    skips = inl refl;
    whose = λ x. (let c = in_cut x 1 1 65535 2 65536 (omega arith) (omega arith) in omega arith);
    weights = omega arith;
    borne = tt;
    slot = λ _. (b, ap (λ y. some y ∷ []) is, (subst (λ (c : Counted V). stands start [] c.value) (sym new) st, ap (λ (c : Counted V). c.count) new));
    each = λ i v e. one i v e;
  }
    where
      here : Fits {E = E} bears [] 0 0 0 opener
      here = record { room = omega arith; range = λ x e. absurd cc; knew = λ _. ([], refl, tt); holder = λ e. absurd (true≢false (sym e)); noted = omega arith; parts = tt }

      one : (i : ℕ) (v : Knows E) → get_elem? (opener ∷ []) i ≡ some v → Fits bears [] 0 (0 + 0) 0 v
      one zero v e = subst (Fits bears [] 0 0 0) (some-injective _ _ e) here
      one (suc i) v e = absurd (some-ne-none v (sym e))

  sums : (f g : Knows E → ℕ) (l : List (Knows E)) → total (λ u. f u + g u) l ≡ total f l + total g l
  sums f g [] = omega arith
  sums f g (x ∷ xs) = let h = sums f g xs in omega arith

  -- the slot at the end, and the history
  pub record AtEnd (v : Knows E) (xs : List (Option (Boxed V))) : Type 0 where
    pub value : Boxed V
    pub there : get_elem? xs 0 ≡ some (Some value)
    pub stood : stands start v.seen value.value.value
    pub mine : borne_by bears (ranges_of v) v.seen ≡ v.seen

  module _ (id : ℕ) (v : Knows E) (live : v.live ≡ true) (free : v.ticket ≡ None) (whole : HaveAll (v.stock ∷ ranges_of v)) where
    -- each number is counted among the view's numbers or in its stock
    counts : (x : ℕ) → 1 ≤ x → x ≤ 65536 → 0 < numbers_of x v + stock_of x v
    counts x from upto =
        let n = live_is v.live (total (in_range x) (ranges_of v)) live in
        let t = live_is v.live (in_range x v.stock) live in
        let c = among_counts x (v.stock ∷ ranges_of v) (whole x from upto) in
        omega arith

    module _ (s : State (Option (Boxed V)) (Knows E)) (k : Kept stands bears start s) (at : get_elem? s.views id ≡ some v) where
      only : (j : ℕ) (u : Knows E) → j ≢ id → get_elem? s.views j ≡ some u → (b : Bool) → u.live ≡ b → weight u ≡ 0
      only j u n e false is = ap (λ (b : Bool). if_live b (1 + (total (λ (r : ℕ × ℕ). r.1) u.joined + u.stock.1))) is
      only j u n e true is =
          let o = own_in u is in
          let c = one_of (numbers_of u.own) s.views j u e in
          let w = k.whose u.own in
          let m = in_most u.own everyone in
          let r = in_within u.own 1 65536 (omega arith) in
          let r1 = r.1 in
          let h = counts u.own r.0 (omega arith) in
          let two = two_of (λ (y : Knows E). numbers_of u.own y + stock_of u.own y) s.views id j v u (λ q. n (sym q)) at e in
          let t = sums (numbers_of u.own) (stock_of u.own) s.views in
          absurd (omega arith)

      free_all : (j : ℕ) (u : Knows E) → get_elem? s.views j ≡ some u → (t : Option ℕ) → u.ticket ≡ t → t ≢ Some k.serving
      free_all j u e None is q = absurd cc
      free_all j u e (Some y) is q = dite (ℕ_discrete j id)
          (λ same. let i : u ≡ v = some-injective u v (sym e ∙ (ap (λ (z : ℕ). get_elem? s.views z) same ∙ at)) in let c : Some y ≡ None = sym is ∙ (ap (λ (w : Knows E). w.ticket) i ∙ free) in absurd cc)
          (λ n. let z = only j u n e u.live refl in let r = (k.each j u e).room in let c : queued u.ticket ≡ 1 = ap queued is in absurd (omega arith))

      none : total (λ (u : Knows E). as_number u.holds) s.views ≡ 0
      none = nobody stands bears start s k (λ j u e. inr (λ q. free_all j u e u.ticket refl q))

      all_mine : Every (λ e. 0 < numbers_of (bears e) v) k.log
      all_mine = every_map _ _ (λ (e : E) p. (let r = in_within (bears e) 1 65536 (let p0 = p.0 in omega arith) in let r1 = r.1 in let h = counts (bears e) r.0 (omega arith) in let o = one_of (stock_of (bears e)) s.views id v at in let p1 = p.1 in omega arith)) k.log k.borne

      no_more : ((k.each id v at).knew live).0 ≡ []
      no_more = let kn = (k.each id v at).knew live in none_left _ kn.0 (every_both _ _ kn.0 kn.2 (behind v.seen kn.0 (subst (Every (λ e. 0 < numbers_of (bears e) v)) (sym kn.1) all_mine))) (λ e p. let a = p.0 in let b = p.1 in omega arith)
        where
          behind : (xs ys : List E) → Every (λ e. 0 < numbers_of (bears e) v) (xs ++ ys) → Every (λ e. 0 < numbers_of (bears e) v) ys
          behind [] ys p = p
          behind (x ∷ xs) ys p = behind xs ys p.1

      same : v.seen ≡ k.log
      same = let kn = (k.each id v at).knew live in sym (append-nil v.seen) ∙ (ap (λ (z : List E). v.seen ++ z) (sym no_more) ∙ kn.1)

      all_of_seen : Every (λ e. 0 < total (in_range (bears e)) (ranges_of v)) v.seen
      all_of_seen = every_map _ _ (λ (e : E) p. (let n = live_is v.live (total (in_range (bears e)) (ranges_of v)) live in omega arith)) v.seen (subst (Every (λ e. 0 < numbers_of (bears e) v)) (sym same) all_mine)

    pub ends : (ws : List ℕ) (xs : List (Option (Boxed V))) → Final (Seen (Kept stands bears start) id v) ws xs → AtEnd v xs
    ends ws xs f =
        let s = f.0 in
        let k = f.1.0 in
        let at = f.1.1 in
        let home = k.slot (none s k at) in
        record {
          value = home.0;
          there = f.4 0 (Some home.0) (ap (λ (l : List (maybe.Option (Option (Boxed V)))). get_elem? l 0) home.1);
          stood = subst (λ (l : List E). stands start l home.0.value.value) (sym (same s k at)) home.2.0;
          mine = all_borne bears (ranges_of v) v.seen (all_of_seen s k at);
        }

  pub taken : (v : Knows E) (xs : List (Option (Boxed V))) (r : Option (Boxed V)) → (e : AtEnd v xs) → get_elem? xs 0 ≡ some r → r ≡ Some e.value
  taken v xs r e at = some-injective r (Some e.value) (sym at ∙ e.there)

  pub stood_with : (v : Knows E) (xs : List (Option (Boxed V))) (r : Option (Boxed V)) (x : Boxed V) → (e : AtEnd v xs) → get_elem? xs 0 ≡ some r → r ≡ Some x → stands start v.seen x.value.value
  stood_with v xs r x e at is = subst (λ (y : Boxed V). stands start v.seen y.value.value) (some_same e.value x (sym (taken v xs r e at) ∙ is)) e.stood
    where
      some_same : (a b : Boxed V) → Some a ≡ Some b → a ≡ b
      some_same a b q = cc q

module _ {V E : Type 0} (stands : V → List E → V → Type 0) (bears : E → ℕ) where
  pub opens_as : (key value : V) (b : Boxed V) (ys xs : List (Option (Boxed V))) → key ≡ value → b.value ≡ record { value = value; count = 0 } → ys ≡ [] → xs ≡ ys ++ Some b ∷ [] → stands value [] value
      → Kept stands bears key (opening (0 ∷ 0 ∷ []) xs opener)
  opens_as key value b ys xs k new none is st =
      subst (λ (s : V). Kept stands bears s (opening (0 ∷ 0 ∷ []) xs opener)) (sym k)
      (subst (λ (l : List (Option (Boxed V))). Kept stands bears value (opening (0 ∷ 0 ∷ []) l opener)) (sym (is ∙ ap (λ (l : List (Option (Boxed V))). l ++ Some b ∷ []) none))
      (opens stands bears value st b new (Some b) refl))
