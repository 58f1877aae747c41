-- The step that passes the turn on keeps the rule.
use Rattle.std.proofs.Common.{◌≡◌, ◌≢◌, ◌⊎◌, ℕ, ◌+◌, ◌-◌, ◌%◌, ◌≤◌, min, List, [], ◌∷◌, ◌++◌, length, Bool, true, true≢false, Option, Some, refl, sym, ap, ◌∙◌, subst, inl, inr, ⊎_elim, arith, slice_set, append-nil, append_assoc}
use mathlib.Core.Option.{some}
use lib.ListN.{get_elem?}
use Rattle.atomic_table.specs.Table.{State, gives, Allows}
use Rattle.turn_lock.specs.declared.rule.Knows.{Knows}
use Rattle.turn_lock.specs.Rule.{Boxed}
use Rattle.turn_lock.specs.Rule.{total, Every, is_ticket, queued, if_live, in_range, everyone, numbers_of, stock_of, weight, ranges_of, Recalls, Fits, Stands, Kept, LAST}
use Rattle.turn_lock.specs.Steps.{passing, passed}
use Rattle.turn_lock.proofs.Sums.{total_set, still, one_of, two_of, some_is, in_first, in_most}
use Rattle.turn_lock.proofs.Lists.{every_map, every_append}
use Rattle.turn_lock.proofs.Taking.{each_set, at_words, alone, whose, borne}

put_home : {A : Type 0} (l : List A) (x : A) → length l ≡ 1 → slice_set l 0 x ≡ x ∷ []
put_home [] x e = absurd (omega arith)
put_home (y ∷ []) x e = refl
put_home (y ∷ z ∷ l) x e = absurd (omega arith)

module _ {E : Type 0} where
  -- the own number of a live view is among its numbers
  pub own_in : (v : Knows E) → v.live ≡ true → 1 ≤ numbers_of v.own v
  own_in v live = subst (λ (b : Bool). 1 ≤ if_live b (total (in_range v.own) (ranges_of v))) (sym live) (let f = in_first v.own in omega arith)

module _ {V E : Type 0} where
  module _ (stands : V → List E → V → Type 0) (bears : E → ℕ) (start : V) where
    module _ (s : State (Option (Boxed V)) (Knows E)) (k : Kept stands bears start s) where
      -- a number is in one view, and then in no stock
      pub numbers_apart : (x id j : ℕ) (v u : Knows E) → get_elem? s.views id ≡ some v → 1 ≤ numbers_of x v → j ≢ id → get_elem? s.views j ≡ some u → numbers_of x u ≡ 0
      numbers_apart x id j v u at own n e = let two = two_of (numbers_of x) s.views id j v u (λ q. n (sym q)) at e in let w = k.whose x in let m = in_most x everyone in omega arith

      pub in_no_stock : (x id : ℕ) (v : Knows E) → get_elem? s.views id ≡ some v → 1 ≤ numbers_of x v → (in_range x everyone ≡ 1) × (total (stock_of x) s.views ≡ 0)
      in_no_stock x id v at own = let o = one_of (numbers_of x) s.views id v at in let w = k.whose x in let m = in_most x everyone in (omega arith, omega arith)

    pub passes : (id : ℕ) (v : Knows E) (added : List E) (t k : ℕ) → v.live ≡ true → v.parts ≡ [] → v.ticket ≡ Some t → v.holds ≡ true → ((k ≡ 1) × (t ≢ LAST)) ⊎ ((k ≡ 0) × (t ≡ LAST))
        → (z : Boxed V) → Every (λ e. bears e ≡ v.own) added → stands start (v.seen ++ added) z.value.value → z.value.count ≡ min (length (v.seen ++ added)) 18446744073709551615
        → Allows (Kept stands bears start) 1 id (v, (0, Some z) ∷ []) 0 (λ n. (n + k) % 18446744073709551616) (λ _. passed added (v, (0, Some z) ∷ []))
    passes id v added t k live bare ticket holds which z own st count = at_words stands bears start 1 id 0 (λ n. (n + k) % 18446744073709551616) (v, (0, Some z) ∷ []) (λ _. passed added (v, (0, Some z) ∷ [])) (λ s k' len at.
        let m = k'.each id v at in
        let mh = m.holder holds in
        let same : t ≡ k'.serving = some_is t k'.serving (sym ticket ∙ mh.0) in
        let ra = m.range t ticket in
        let ra0 = ra.0 in
        let c = k'.counted in
        let la = k'.last in
        let fresh : k'.skip ≡ 0 = omega arith in
        let small : k ≤ 1 = ⊎_elim (λ (q : (k ≡ 1) × (t ≢ LAST)). (let q0 = q.0 in omega arith)) (λ (q : (k ≡ 0) × (t ≡ LAST)). (let q0 = q.0 in omega arith)) which in
        let fits : (k'.serving + k) % 18446744073709551616 ≡ k'.serving + k = omega arith in
        let w = passing v added in
        let log = k'.log ++ added in
        let stands' : Stands stands start log z.value = (subst (λ (l : List E). stands start (l ++ added) z.value.value) mh.1 st, count ∙ ap (λ (l : List E). min (length (l ++ added)) 18446744073709551615) mh.1) in
        let mine : (x : ℕ) → x ≡ v.own → 1 ≤ numbers_of x v = (λ x is. subst (λ (y : ℕ). 1 ≤ numbers_of y v) (sym is) (own_in v live)) in (
          w,
          gives,
          tt,
          record {
            log = log;
            serving = k'.serving + k;
            skip = 1 - k;
            next = k'.next;
            words = ap (λ (q : ℕ). q ∷ k'.next ∷ []) fits;
            counted = let t' = total_set (λ u. queued u.ticket) s.views id v w at in let q : queued v.ticket ≡ 1 = ap queued ticket in omega arith;
            apart = λ x. (let t' = total_set (λ u. is_ticket x u.ticket) s.views id v w at in let a = k'.apart x in omega arith);
            last = ⊎_elim (λ (q : (k ≡ 1) × (t ≢ LAST)). (let q0 = q.0 in let q1 = q.1 in omega arith)) (λ (q : (k ≡ 0) × (t ≡ LAST)). (let q0 = q.0 in omega arith)) which;
            skips = ⊎_elim (λ (q : (k ≡ 1) × (t ≢ LAST)). inl (let q0 = q.0 in omega arith)) (λ (q : (k ≡ 0) × (t ≡ LAST)). inr ((let q0 = q.0 in omega arith), (let q0 = q.0 in let q1 = q.1 in omega arith))) which;
            whose = whose stands bears start s k' id v w at (λ x. refl) (λ x. refl);
            weights = still weight s.views id v w at refl ∙ k'.weights;
            borne = every_append _ k'.log added (borne stands bears start s k' id v w at (λ x. refl) (λ x. refl))
                (every_map _ _ (λ (e : E) is. (let n = in_no_stock s k' (bears e) id v at (mine (bears e) is) in (n.0, still (stock_of (bears e)) s.views id v w at refl ∙ n.1))) added own);
            slot = λ _. (z, put_home s.homes (some (Some z)) len, stands');
            each = each_set (Fits bears log (k'.serving + k) ((k'.serving + k) + (1 - k)) k'.next) s.views id w
                record { room = omega arith; range = λ x e. absurd cc; knew = λ _. ([], append-nil (v.seen ++ added) ∙ ap (λ (l : List E). l ++ added) mh.1, tt); holder = λ e. absurd (true≢false (sym e)); noted = (let n = m.noted in omega arith); parts = subst (λ (l : List (List (ℕ × ℕ) × List E)). Every (λ p. Recalls bears log p × ((x : ℕ) → total (in_range x) p.0 ≤ numbers_of x w)) l) (sym bare) tt }
                (λ j u other e. let f = k'.each j u e in let no = alone stands bears start s k' id j v u k'.serving at mh.0 other e in
                record {
                  room = f.room;
                  range = λ x tx. (let r = f.range x tx in let r0 = r.0 in let r1 = r.1 in let ne : k'.serving ≢ x = (λ q. no (tx ∙ ap Some (sym q))) in (omega arith, r1));
                  knew = λ l. (let kn = f.knew l in (
                    kn.0 ++ added,
                    sym (append_assoc u.seen kn.0 added) ∙ ap (λ (q : List E). q ++ added) kn.1,
                    every_append _ kn.0 added kn.2 (every_map _ _ (λ (e' : E) is. numbers_apart s k' (bears e') id j v u at (mine (bears e') is) other e) added own),
                  ));
                  holder = λ h. absurd (no (f.holder h).0);
                  noted = (let n = f.noted in omega arith);
                  parts = every_map _ _ (λ (p : List (ℕ × ℕ) × List E) q. (
                    (
                      q.0.0 ++ added,
                      sym (append_assoc p.1 q.0.0 added) ∙ ap (λ (z : List E). z ++ added) q.0.1,
                      every_append _ q.0.0 added q.0.2 (every_map _ _ (λ (e' : E) is. (let a = numbers_apart s k' (bears e') id j v u at (mine (bears e') is) other e in let b = q.1 (bears e') in omega arith)) added own),
                    ),
                    q.1,
                  )) u.parts f.parts;
                });
          },
          refl,
        ))
