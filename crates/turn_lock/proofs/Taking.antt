-- The steps that take a ticket, look, try and tell keep the rule.
use Rattle.std.proofs.Common.{◌≡◌, ◌≢◌, ◌⊎◌, ℕ, ◌+◌, ◌%◌, ◌≤◌, List, [], ◌∷◌, set, length, Bool, true, false, true≢false, Option, Some, None, refl, sym, ap, ◌∙◌, subst, inl, inr, ⊎_elim, arith, eqb, eq-eqb, ne_eqb, slice_index, slice_set, append-nil}
use mathlib.Core.Option.{some, some-ne-none, some-injective}
use mathlib.Core.Option as maybe
use mathlib.Core.Logic.{dite}
use native.Mathlib.Decide.{ℕ_discrete}
use prog.Atomic.{either}
use lib.ListN.{get_elem?}
use Rattle.atomic_table.specs.Table.{State, Me, Act, keeps, takes, Valid, Allows, carried_after, homes_after}
use Rattle.atomic_table.proofs.Lists.{at_set}
use Rattle.turn_lock.specs.declared.rule.Knows.{Knows}
use Rattle.turn_lock.specs.Rule.{Boxed}
use Rattle.turn_lock.specs.Rule.{total, Every, is_ticket, queued, as_number, if_live, in_range, everyone, numbers_of, stock_of, weight, Fits, Kept, Recalls, LAST}
use Rattle.turn_lock.specs.Steps.{holding, noting, finding, glanced, looked, tried, drawing, drew, forgetting, told}
use Rattle.turn_lock.proofs.Sums.{total_set, still, one_of, two_of, none_of, under, here, not_here, no_ticket, some_is, is_most}
use Rattle.turn_lock.proofs.Lists.{every_map, every_front, shorter}

module _ {E : Type 0} where
  -- what holds of the new view, and of each other one, holds of all
  pub each_set : (F : Knows E → Type 0) (views : List (Knows E)) (id : ℕ) (w : Knows E) → F w → ((j : ℕ) (u : Knows E) → j ≢ id → get_elem? views j ≡ some u → F u)
      → (j : ℕ) (u : Knows E) → get_elem? (set views id w) j ≡ some u → F u
  each_set F views id w mine others j u e = ⊎_elim (λ (x : (j ≡ id) × (w ≡ u)). subst F x.1 mine) (λ (x : (j ≢ id) × (get_elem? views j ≡ some u)). others j u x.0 x.1) (at_set views id j w u e)

  abbrev pub Borne : (E → ℕ) → List (Knows E) → List E → Type 0
  Borne bears views = Every (λ e. (in_range (bears e) everyone ≡ 1) × (total (stock_of (bears e)) views ≡ 0))

module _ {V E : Type 0} where
  module _ (stands : V → List E → V → Type 0) (bears : E → ℕ) (start : V) where
    abbrev pub K : State (Option (Boxed V)) (Knows E) → Type 0
    K = Kept stands bears start

    abbrev pub Result : State (Option (Boxed V)) (Knows E) → List ℕ → List (ℕ × Option (Boxed V)) → ℕ → (Me (Option (Boxed V)) (Knows E) → Type 0) → Type 0
    Result s ws c id then = (w : Knows E) × (a : Act (Option (Boxed V))) × Valid s.homes c a × K record { words = ws; homes = homes_after s.homes c a; views = slice_set s.views id w } × then (w, carried_after c a)

    -- the words may be taken apart
    pub at_words : (slots id word : ℕ) (f : ℕ → ℕ) (m : Me (Option (Boxed V)) (Knows E)) (then : ℕ → Me (Option (Boxed V)) (Knows E) → Type 0)
        → ((s : State (Option (Boxed V)) (Knows E)) (k : K s) → length s.homes ≡ slots → get_elem? s.views id ≡ some m.0
        → let ws = k.serving ∷ k.next ∷ [] in Result s (slice_set ws word (f (slice_index ws word))) m.1 id (then (slice_index ws word)))
        → Allows K slots id m word f then
    at_words slots id word f m then go s k len at fits =
        subst (λ (ws : List ℕ). Result s (slice_set ws word (f (slice_index ws word))) m.1 id (then (slice_index ws word))) (sym k.words) (go s k len at)

    module _ (s : State (Option (Boxed V)) (Knows E)) (k : K s) where
      pub few : (id : ℕ) (v : Knows E) → get_elem? s.views id ≡ some v → total (λ u. queued u.ticket) s.views + weight v ≤ 65536 + queued v.ticket
      few id v at = let u = under (λ (u : Knows E). queued u.ticket) weight s.views id v at (λ j u e. (k.each j u e).room) in let w = k.weights in omega arith

      pub skip_small : k.skip ≤ 1
      skip_small = ⊎_elim (λ (z : k.skip ≡ 0). omega arith) (λ (z : (k.skip ≡ 1) × (k.serving ≡ LAST)). let z0 = z.0 in omega arith) k.skips

      -- the parts of the rule that speak of numbers stay where those of the view stay
      module _ (id : ℕ) (v w : Knows E) (at : get_elem? s.views id ≡ some v) (n : (x : ℕ) → numbers_of x w ≡ numbers_of x v) (t : (x : ℕ) → stock_of x w ≡ stock_of x v) where
        pub whose : (x : ℕ) → total (numbers_of x) (slice_set s.views id w) + total (stock_of x) (slice_set s.views id w) ≡ in_range x everyone
        whose x = let a = still (numbers_of x) s.views id v w at (n x) in let b = still (stock_of x) s.views id v w at (t x) in let c = k.whose x in omega arith

        pub borne : Borne bears (slice_set s.views id w) k.log
        borne = every_map _ _ (λ (e : E) p. (p.0, still (stock_of (bears e)) s.views id v w at (t (bears e)) ∙ p.1)) k.log k.borne

      holder_serves : (j : ℕ) (u : Knows E) → get_elem? s.views j ≡ some u → (b : Bool) → u.holds ≡ b → (u.ticket ≢ Some k.serving) → as_number b ≡ 0
      holder_serves j u e true is n = absurd (n ((k.each j u e).holder is).0)
      holder_serves j u e false is n = refl

      -- nobody holds where nobody has the ticket that is serving
      pub nobody : ((j : ℕ) (u : Knows E) → get_elem? s.views j ≡ some u → as_number u.holds ≡ 0 ⊎ (u.ticket ≢ Some k.serving)) → total (λ u. as_number u.holds) s.views ≡ 0
      nobody h = none_of (λ (u : Knows E). as_number u.holds) s.views (λ j u e. ⊎_elim (λ z. z) (λ n. holder_serves j u e u.holds refl n) (h j u e))

      -- a ticket is in one view
      pub alone : (id j : ℕ) (v u : Knows E) (x : ℕ) → get_elem? s.views id ≡ some v → v.ticket ≡ Some x → j ≢ id → get_elem? s.views j ≡ some u → u.ticket ≢ Some x
      alone id j v u x at tv n e tu =
          let two = two_of (λ (w : Knows E). is_ticket x w.ticket) s.views id j v u (λ q. n (sym q)) at e in
          let a = k.apart x in
          let p : is_ticket x v.ticket ≡ 1 = ap (is_ticket x) tv ∙ here x in
          let q : is_ticket x u.ticket ≡ 1 = ap (is_ticket x) tu ∙ here x in
          omega arith

      -- a view of which only what it noted changes keeps the rule
      pub stays : (id : ℕ) (v w : Knows E) → get_elem? s.views id ≡ some v → w.ticket ≡ v.ticket → w.holds ≡ v.holds → weight w ≡ weight v → ((x : ℕ) → numbers_of x w ≡ numbers_of x v) → ((x : ℕ) → stock_of x w ≡ stock_of x v)
          → Fits bears k.log k.serving (k.serving + k.skip) k.next w → K record { words = k.serving ∷ k.next ∷ []; homes = s.homes; views = slice_set s.views id w }
      stays id v w at ticket holds weighs n t fits = record {
        log = k.log;
        serving = k.serving;
        skip = k.skip;
        next = k.next;
        words = refl;
        counted = let t' = total_set (λ u. queued u.ticket) s.views id v w at in let q : queued w.ticket ≡ queued v.ticket = ap queued ticket in let c = k.counted in omega arith;
        apart = λ x. (let t' = total_set (λ u. is_ticket x u.ticket) s.views id v w at in let q : is_ticket x w.ticket ≡ is_ticket x v.ticket = ap (is_ticket x) ticket in let a = k.apart x in omega arith);
        last = k.last;
        skips = k.skips;
        whose = whose id v w at n t;
        weights = still weight s.views id v w at weighs ∙ k.weights;
        borne = borne id v w at n t;
        slot = λ none. k.slot (sym (still (λ (u : Knows E). as_number u.holds) s.views id v w at (ap as_number holds)) ∙ none);
        each = each_set (Fits bears k.log k.serving (k.serving + k.skip) k.next) s.views id w fits (λ j u _ e. k.each j u e);
      }

      -- the same where the view looked and found a ticket serving
      pub notes : (id : ℕ) (v : Knows E) → get_elem? s.views id ≡ some v → K record { words = k.serving ∷ k.next ∷ []; homes = s.homes; views = slice_set s.views id (noting v k.serving) }
      notes id v at = let m = k.each id v at in stays id v (noting v k.serving) at refl refl refl (λ x. refl) (λ x. refl) record { room = m.room; range = m.range; knew = m.knew; holder = m.holder; noted = omega arith; parts = m.parts }

    pub glances : (slots id : ℕ) (v : Knows E) (c : List (ℕ × Option (Boxed V))) → Allows K slots id (v, c) 0 (λ n. n) (glanced (v, c))
    glances slots id v c = at_words slots id 0 (λ n. n) (v, c) (glanced (v, c)) (λ s k len at. (noting v k.serving, keeps, tt, notes s k id v at, (refl, k.last)))

    pub draws : (slots id : ℕ) (v : Knows E) (c : List (ℕ × Option (Boxed V))) → v.live ≡ true → v.ticket ≡ None → v.holds ≡ false
        → Allows K slots id (v, c) 1 (λ n. (n + 1) % 18446744073709551616) (drew (v, c))
    draws slots id v c live free idle = at_words slots id 1 (λ n. (n + 1) % 18446744073709551616) (v, c) (drew (v, c)) (λ s k len at.
        let w = drawing v k.next in
        let q : queued v.ticket ≡ 0 = ap queued free in
        let room : 1 ≤ weight v = subst (λ (b : Bool). 1 ≤ if_live b (1 + (total (λ (r : ℕ × ℕ). r.1) v.joined + v.stock.1))) (sym live) (omega arith) in
        let few' = few s k id v at in
        let co = k.counted in
        let la = k.last in
        let sk = skip_small s k in
        let mine = k.each id v at in
        let fits : (k.next + 1) % 18446744073709551616 ≡ k.next + 1 = omega arith in (
          w,
          keeps,
          tt,
          record {
            log = k.log;
            serving = k.serving;
            skip = k.skip;
            next = k.next + 1;
            words = ap (λ (z : ℕ). k.serving ∷ z ∷ []) fits;
            counted = let t = total_set (λ u. queued u.ticket) s.views id v w at in omega arith;
            apart = λ x. dite (ℕ_discrete x k.next)
                (λ e. let t = total_set (λ u. is_ticket x u.ticket) s.views id v w at in
                let z = none_of (λ (u : Knows E). is_ticket x u.ticket) s.views (λ j u d. no_ticket x u.ticket (λ y ty xy. let r = (k.each j u d).range y ty in let r1 = r.1 in omega arith)) in
                let h : is_ticket x (Some k.next) ≡ 1 = subst (λ (y : ℕ). is_ticket y (Some k.next) ≡ 1) (sym e) (here k.next) in omega arith)
                (λ ne. let t = total_set (λ u. is_ticket x u.ticket) s.views id v w at in let z = not_here x k.next ne in let a = k.apart x in omega arith);
            last = k.last;
            skips = k.skips;
            whose = whose s k id v w at (λ x. refl) (λ x. refl);
            weights = still weight s.views id v w at refl ∙ k.weights;
            borne = borne s k id v w at (λ x. refl) (λ x. refl);
            slot = λ none. k.slot (sym (still (λ (u : Knows E). as_number u.holds) s.views id v w at refl) ∙ none);
            each = each_set (Fits bears k.log k.serving (k.serving + k.skip) (k.next + 1)) s.views id w
                record { room = room; range = λ x e. (let y : k.next ≡ x = some_is k.next x e in (omega arith, omega arith)); knew = mine.knew; holder = λ h. absurd (true≢false (sym h ∙ idle)); noted = mine.noted; parts = mine.parts }
                (λ j u _ e. let f = k.each j u e in record { room = f.room; range = λ x t. (let r = f.range x t in let r0 = r.0 in let r1 = r.1 in (r0, omega arith)); knew = f.knew; holder = f.holder; noted = f.noted; parts = f.parts });
          },
          refl,
        ))

    -- what the value in the slot is known to stand for
    module _ (reads : List E → V → Type 0) (reading : (xs : List E) (x : V) → stands start xs x → reads xs x) where
      looks_hit : (id : ℕ) (v : Knows E) → v.live ≡ true → v.holds ≡ false → (s : State (Option (Boxed V)) (Knows E)) (k : K s) → get_elem? s.views id ≡ some v → v.ticket ≡ Some k.serving
          → Result s (k.serving ∷ k.next ∷ []) [] id (looked reads bears (v, []) k.serving)
      looks_hit id v live idle s k at mine =
          let none : total (λ (u : Knows E). as_number u.holds) s.views ≡ 0 = nobody s k (λ j u e. dite (ℕ_discrete j id)
          (λ same. inl (ap (λ (w : Knows E). as_number w.holds) (some-injective u v (sym e ∙ (ap (λ (z : ℕ). get_elem? s.views z) same ∙ at))) ∙ ap as_number idle))
          (λ other. inr (alone s k id j v u k.serving at mine other e))) in
          let home = k.slot none in
          let w = holding (noting v k.serving) k.serving k.log in
          let m = k.each id v at in
          let kn = m.knew live in
          let ra = m.range k.serving mine in
          let ra0 = ra.0 in
          let ra1 = ra.1 in (
            w,
            takes 0 (Some home.0),
            ap (λ (l : List (maybe.Option (Option (Boxed V)))). get_elem? l 0) home.1,
            record {
              log = k.log;
              serving = k.serving;
              skip = k.skip;
              next = k.next;
              words = refl;
              counted = let t = total_set (λ u. queued u.ticket) s.views id v w at in let q : queued v.ticket ≡ 1 = ap queued mine in let c = k.counted in omega arith;
              apart = λ x. (let t = total_set (λ u. is_ticket x u.ticket) s.views id v w at in let a = k.apart x in let q : is_ticket x v.ticket ≡ is_ticket x (Some k.serving) = ap (is_ticket x) mine in omega arith);
              last = k.last;
              skips = k.skips;
              whose = whose s k id v w at (λ x. refl) (λ x. refl);
              weights = still weight s.views id v w at refl ∙ k.weights;
              borne = borne s k id v w at (λ x. refl) (λ x. refl);
              slot = λ z. absurd (let t = total_set (λ u. as_number u.holds) s.views id v w at in let q : as_number v.holds ≡ 0 = ap as_number idle in omega arith);
              each = each_set (Fits bears k.log k.serving (k.serving + k.skip) k.next) s.views id w
                  record { room = (let q : queued v.ticket ≡ 1 = ap queued mine in let r = m.room in omega arith); range = λ x e. m.range x (mine ∙ e); knew = λ _. ([], append-nil k.log, tt); holder = λ _. (refl, refl); noted = omega arith; parts = m.parts }
                  (λ j u _ e. k.each j u e);
            },
            ((λ _. ((home.0, refl, reading k.log home.0.value.value home.2.0, home.2.1, kn), refl)), (λ n. absurd (n mine))),
          )

      looks_miss : (id : ℕ) (v : Knows E) → (s : State (Option (Boxed V)) (Knows E)) (k : K s) → get_elem? s.views id ≡ some v → v.ticket ≢ Some k.serving
          → Result s (k.serving ∷ k.next ∷ []) [] id (looked reads bears (v, []) k.serving)
      looks_miss id v s k at mine = (noting v k.serving, keeps, tt, notes s k id v at, ((λ is. absurd (mine is)), (λ _. refl)))

      pub looks : (slots id : ℕ) (v : Knows E) → v.live ≡ true → v.holds ≡ false → Allows K slots id (v, []) 0 (λ n. n) (looked reads bears (v, []))
      looks slots id v live idle = at_words slots id 0 (λ n. n) (v, []) (looked reads bears (v, [])) (λ s k len at. by_ticket s k at v.ticket refl)
        where
          by_ticket : (s : State (Option (Boxed V)) (Knows E)) (k : K s) → get_elem? s.views id ≡ some v → (t : Option ℕ) → v.ticket ≡ t → Result s (k.serving ∷ k.next ∷ []) [] id (looked reads bears (v, []) k.serving)
          by_ticket s k at None is = looks_miss id v s k at (λ e. absurd cc)
          by_ticket s k at (Some y) is = dite (ℕ_discrete y k.serving)
              (λ e. looks_hit id v live idle s k at (is ∙ ap Some e))
              (λ n. looks_miss id v s k at (λ e. n (some_is y k.serving (sym is ∙ e))))

      tries_hit : (id : ℕ) (v : Knows E) (old : ℕ) → v.live ≡ true → v.ticket ≡ None → v.holds ≡ false → v.noted ≡ old → (s : State (Option (Boxed V)) (Knows E)) (k : K s) → get_elem? s.views id ≡ some v → k.next ≡ old
          → Result s (k.serving ∷ (old + 1) ∷ []) [] id (tried reads bears (v, []) k.next)
      tries_hit id v old live free idle noted s k at hit =
          let m = k.each id v at in
          let kn = m.knew live in
          let mn = m.noted in
          let c = k.counted in
          let room : 1 ≤ weight v = subst (λ (b : Bool). 1 ≤ if_live b (1 + (total (λ (r : ℕ × ℕ). r.1) v.joined + v.stock.1))) (sym live) (omega arith) in
          let serves : k.serving ≡ old = omega arith in
          let empty : total (λ (u : Knows E). queued u.ticket) s.views ≡ 0 = omega arith in
          let none : total (λ (u : Knows E). as_number u.holds) s.views ≡ 0 = nobody s k (λ j u e. inr (λ tu.
          let o = one_of (λ (w : Knows E). queued w.ticket) s.views j u e in let q : queued u.ticket ≡ 1 = ap queued tu in omega arith)) in
          let home = k.slot none in
          let w = holding v k.next k.log in (
            w,
            takes 0 (Some home.0),
            ap (λ (l : List (maybe.Option (Option (Boxed V)))). get_elem? l 0) home.1,
            record {
              log = k.log;
              serving = k.serving;
              skip = k.skip;
              next = old + 1;
              words = refl;
              counted = let t = total_set (λ u. queued u.ticket) s.views id v w at in let q : queued v.ticket ≡ 0 = ap queued free in omega arith;
              apart = λ x. (let t = total_set (λ u. is_ticket x u.ticket) s.views id v w at in let h = is_most x (Some k.next) in
                  let z = none_of (λ (u : Knows E). is_ticket x u.ticket) s.views (λ j u d. no_ticket x u.ticket (λ y ty xy. let o = one_of (λ (b : Knows E). queued b.ticket) s.views j u d in let q : queued u.ticket ≡ 1 = ap queued ty in omega arith)) in omega arith);
              last = k.last;
              skips = k.skips;
              whose = whose s k id v w at (λ x. refl) (λ x. refl);
              weights = still weight s.views id v w at refl ∙ k.weights;
              borne = borne s k id v w at (λ x. refl) (λ x. refl);
              slot = λ z. absurd (let t = total_set (λ u. as_number u.holds) s.views id v w at in let q : as_number v.holds ≡ 0 = ap as_number idle in omega arith);
              each = each_set (Fits bears k.log k.serving (k.serving + k.skip) (old + 1)) s.views id w
                  record { room = room; range = λ x e. (let y : k.next ≡ x = some_is k.next x e in (omega arith, omega arith)); knew = λ _. ([], append-nil k.log, tt); holder = λ _. (ap Some (hit ∙ sym serves), refl); noted = m.noted; parts = m.parts }
                  (λ j u _ e. let f = k.each j u e in record { room = f.room; range = λ x t. (let r = f.range x t in let r0 = r.0 in let r1 = r.1 in (r0, omega arith)); knew = f.knew; holder = f.holder; noted = f.noted; parts = f.parts });
            },
            ((λ _. ((home.0, refl, reading k.log home.0.value.value home.2.0, home.2.1, kn), refl)), (λ n. absurd (n (hit ∙ sym noted)))),
          )

      tries_miss : (id : ℕ) (v : Knows E) (old : ℕ) → v.noted ≡ old → (s : State (Option (Boxed V)) (Knows E)) (k : K s) → get_elem? s.views id ≡ some v → k.next ≢ old
          → Result s (k.serving ∷ k.next ∷ []) [] id (tried reads bears (v, []) k.next)
      tries_miss id v old noted s k at miss =
          let m = k.each id v at in
          let w = finding v k.next in (
            w,
            keeps,
            tt,
            stays s k id v w at refl refl refl (λ x. refl) (λ x. refl) record { room = m.room; range = m.range; knew = m.knew; holder = m.holder; noted = m.noted; parts = m.parts },
            ((λ is. absurd (miss (is ∙ noted))), (λ _. refl)),
          )

      pub tries : (slots id : ℕ) (v : Knows E) (old new : ℕ) → v.live ≡ true → v.ticket ≡ None → v.holds ≡ false → v.noted ≡ old → new ≡ old + 1
          → Allows K slots id (v, []) 1 (λ n. either (eqb n old) new n) (tried reads bears (v, []))
      tries slots id v old new live free idle noted is = at_words slots id 1 (λ n. either (eqb n old) new n) (v, []) (tried reads bears (v, [])) (λ s k len at. dite (ℕ_discrete k.next old)
          (λ hit. subst (λ (n : ℕ). Result s (k.serving ∷ either (eqb k.next old) n k.next ∷ []) [] id (tried reads bears (v, []) k.next)) (sym is) (subst (λ (b : Bool). Result s (k.serving ∷ either b (old + 1) k.next ∷ []) [] id (tried reads bears (v, []) k.next)) (sym (eq-eqb k.next old hit)) (tries_hit id v old live free idle noted s k at hit)))
          (λ miss. subst (λ (b : Bool). Result s (k.serving ∷ either b new k.next ∷ []) [] id (tried reads bears (v, []) k.next)) (sym (ne_eqb k.next old miss)) (tries_miss id v old noted s k at miss)))

    -- a load tells how the histories of the parts go on, and that nothing seen bears a number of the stock
    pub tells : (slots id : ℕ) (v : Knows E) → v.live ≡ true → Allows K slots id (v, []) 0 (λ n. n) (λ _. told bears (v, []))
    tells slots id v live = at_words slots id 0 (λ n. n) (v, []) (λ _. told bears (v, [])) (λ s k len at.
        let w = forgetting v in
        let m = k.each id v at in
        let kn = m.knew live in (
          w,
          keeps,
          tt,
          stays s k id v w at refl refl refl (λ x. refl) (λ x. refl) record { room = m.room; range = m.range; knew = m.knew; holder = m.holder; noted = m.noted; parts = tt },
          (
            refl,
            every_front _ v.seen kn.0 (subst (Every (λ e. stock_of (bears e) v ≡ 0)) (sym kn.1) (every_map _ _ (λ (e : E) p. (let o = one_of (stock_of (bears e)) s.views id v at in let p1 = p.1 in omega arith)) k.log k.borne)),
            every_map (λ (p : List (ℕ × ℕ) × List E). Recalls bears k.log p × ((x : ℕ) → total (in_range x) p.0 ≤ numbers_of x v)) (λ (p : List (ℕ × ℕ) × List E). length p.1 ≤ length v.seen → Recalls bears v.seen p) (λ p q le. (let d = shorter p.1 q.0.0 v.seen kn.0 k.log q.0.1 kn.1 le in
                (d.0, d.1, every_front _ d.0 kn.0 (subst (Every (λ e. total (in_range (bears e)) p.0 ≡ 0)) (sym d.2) q.0.2)))) v.parts m.parts,
          ),
        ))
