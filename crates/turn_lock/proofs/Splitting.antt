-- Passes are cut and joined.
use Rattle.std.proofs.Common.{◌≡◌, ◌≢◌, ℕ, ◌+◌, ◌-◌, ◌<◌, ◌≤◌, List, [], ◌∷◌, ◌++◌, length, Bool, true, false, true≢false, None, refl, sym, ap, ◌∙◌, subst, ⊎_elim, arith, slice_set, lt_of_not-le}
use mathlib.Core.Option.{some}
use mathlib.Core.Logic.{dite}
use native.Mathlib.Decide.{dec_le}
use lib.ListN.{get_elem?}
use Rattle.atomic_table.specs.Table.{Splits, Joins}
use Rattle.atomic_table.proofs.Lists.{at_set, at_snoc}
use Rattle.turn_lock.specs.declared.rule.Knows.{Knows}
use Rattle.turn_lock.specs.Rule.{total, Every, is_ticket, queued, as_number, if_live, in_range, numbers_of, stock_of, weight, ranges_of, Knew, Recalls, Fits, Kept, spent}
use Rattle.turn_lock.specs.Steps.{left_of, right_of, both_of}
use Rattle.turn_lock.proofs.Sums.{total_set, one_of, total-append, in_cut}
use Rattle.turn_lock.proofs.Lists.{every_map, every_behind, every_both, shorter, longer_first, longer_second}
use Rattle.turn_lock.proofs.Taking.{each_set}

live_is : (b : Bool) (n : ℕ) → b ≡ true → if_live b n ≡ n
live_is b n e = ap (λ (c : Bool). if_live c n) e

module _ {V E : Type 0} where
  module _ (stands : V → List E → V → Type 0) (bears : E → ℕ) (start : V) where
    module _ (id : ℕ) (v : Knows E) (share : ℕ) (live : v.live ≡ true) (free : v.ticket ≡ None) (idle : v.holds ≡ false) (bare : v.parts ≡ []) (enough : share < v.stock.1) where
      abbrev l : Knows E
      l = left_of share v

      abbrev r : Knows E
      r = right_of share v

      abbrev J : ℕ
      J = total (λ (q : ℕ × ℕ). q.1) v.joined

      -- each number of the stock goes to one of the two
      cut : (x : ℕ) → (numbers_of x l + stock_of x l) + (numbers_of x r + stock_of x r) ≡ numbers_of x v + stock_of x v
      cut x =
          let a = live_is v.live (total (in_range x) (ranges_of v)) live in
          let b = live_is v.live (in_range x v.stock) live in
          let c = live_is v.live (in_range x (v.stock.0 + 1, v.stock.1 - (1 + share))) live in
          let d = live_is v.live (in_range x (v.stock.0, 1) + 0) live in
          let e = live_is v.live (in_range x (v.stock.0 + (v.stock.1 - share), share)) live in
          let p = in_cut x v.stock.0 1 (v.stock.1 - 1) (v.stock.0 + 1) v.stock.1 refl (omega arith) in
          let q = in_cut x (v.stock.0 + 1) (v.stock.1 - (1 + share)) share (v.stock.0 + (v.stock.1 - share)) (v.stock.1 - 1) (omega arith) (omega arith) in
          omega arith

      less : (x : ℕ) → (numbers_of x r ≤ stock_of x v) × (stock_of x l + stock_of x r ≤ stock_of x v)
      less x =
          let b = live_is v.live (in_range x v.stock) live in
          let c = live_is v.live (in_range x (v.stock.0 + 1, v.stock.1 - (1 + share))) live in
          let d = live_is v.live (in_range x (v.stock.0, 1) + 0) live in
          let e = live_is v.live (in_range x (v.stock.0 + (v.stock.1 - share), share)) live in
          let p = in_cut x v.stock.0 1 (v.stock.1 - 1) (v.stock.0 + 1) v.stock.1 refl (omega arith) in
          let q = in_cut x (v.stock.0 + 1) (v.stock.1 - (1 + share)) share (v.stock.0 + (v.stock.1 - share)) (v.stock.1 - 1) (omega arith) (omega arith) in
          (omega arith, omega arith)

      weighs : weight l + weight r ≡ weight v
      weighs =
          let a = live_is v.live (1 + (J + v.stock.1)) live in
          let b = live_is v.live (1 + (J + (v.stock.1 - (1 + share)))) live in
          let c = live_is v.live (1 + (0 + share)) live in
          omega arith

      -- of any measure that the two have together as the one had
      two_parts : (f : Knows E → ℕ) (views : List (Knows E)) → get_elem? views id ≡ some v → total f (slice_set views id l ++ r ∷ []) + f v ≡ total f views + (f l + f r)
      two_parts f views at = let t = total_set f views id v l at in let a = total-append f (slice_set views id l) (r ∷ []) in omega arith

      pub splits : Splits (Kept stands bears start) id v l r
      splits s k at =
          let m = k.each id v at in
          let kn = m.knew live in
          let vs = slice_set s.views id l ++ r ∷ [] in
          let no : queued v.ticket ≡ 0 = ap queued free in
          let out : as_number v.holds ≡ 0 = ap as_number idle in
          let unborn : Every (λ e. stock_of (bears e) v ≡ 0) k.log = every_map _ _ (λ (e : E) p. (let o = one_of (stock_of (bears e)) s.views id v at in let z = p.1 in omega arith)) k.log k.borne in
          let old : (j : ℕ) (u : Knows E) → get_elem? (slice_set s.views id l) j ≡ some u → Fits bears k.log k.serving (k.serving + k.skip) k.next u =
          each_set (Fits bears k.log k.serving (k.serving + k.skip) k.next) s.views id l
          record { room = omega arith; range = m.range; knew = m.knew; holder = m.holder; noted = m.noted; parts = m.parts }
          (λ j u _ e. k.each j u e) in
          let new : Fits bears k.log k.serving (k.serving + k.skip) k.next r =
          record {
            room = omega arith;
            range = m.range;
            knew = λ _. (kn.0, kn.1, every_map _ _ (λ (e : E) z. (let q = (less (bears e)).0 in omega arith)) kn.0 (every_behind _ v.seen kn.0 (subst (Every (λ e. stock_of (bears e) v ≡ 0)) (sym kn.1) unborn)));
            holder = m.holder;
            noted = m.noted;
            parts = subst (λ (q : List (List (ℕ × ℕ) × List E)). Every (λ p. Recalls bears k.log p × ((x : ℕ) → total (in_range x) p.0 ≤ numbers_of x r)) q) (sym bare) tt;
          } in
          record {
            log = k.log;
            serving = k.serving;
            skip = k.skip;
            next = k.next;
            words = k.words;
            counted = let t = two_parts (λ u. queued u.ticket) s.views at in let c = k.counted in omega arith;
            apart = λ x. (let t = two_parts (λ u. is_ticket x u.ticket) s.views at in let a = k.apart x in let z : is_ticket x v.ticket ≡ 0 = ap (is_ticket x) free in omega arith);
            last = k.last;
            skips = k.skips;
            whose = λ x. (let t = two_parts (numbers_of x) s.views at in let t' = two_parts (stock_of x) s.views at in let w = k.whose x in let c = cut x in omega arith);
            weights = let t = two_parts weight s.views at in let w = k.weights in let c = weighs in omega arith;
            borne = every_map _ _ (λ (e : E) p. (p.0, (let t = two_parts (stock_of (bears e)) s.views at in let q = (less (bears e)).1 in let z = p.1 in omega arith))) k.log k.borne;
            slot = λ none. k.slot (let t = two_parts (λ u. as_number u.holds) s.views at in omega arith);
            each = λ j u e. ⊎_elim (λ (x : get_elem? (slice_set s.views id l) j ≡ some u). old j u x) (λ (x : r ≡ u). subst (Fits bears k.log k.serving (k.serving + k.skip) k.next) x new) (at_snoc (slice_set s.views id l) r u j e);
          }

    module _ (id : ℕ) (v : Knows E) (other : ℕ) (w : Knows E) (live : v.live ≡ true) (free : v.ticket ≡ None) (idle : v.holds ≡ false) (live' : w.live ≡ true) (free' : w.ticket ≡ None) (idle' : w.holds ≡ false) where
      abbrev b : Knows E
      b = both_of v w

      two_sets : (f : Knows E → ℕ) (views : List (Knows E)) → get_elem? views id ≡ some v → get_elem? (slice_set views id b) other ≡ some w → total f (slice_set (slice_set views id b) other spent) + (f v + f w) ≡ total f views + (f b + f spent)
      two_sets f views at there = let t = total_set f views id v b at in let t' = total_set f (slice_set views id b) other w spent there in omega arith

      pub adds : (x : ℕ) → numbers_of x b ≡ numbers_of x v + (numbers_of x w + stock_of x w)
      adds x =
          let a = live_is v.live (total (in_range x) (ranges_of v)) live in
          let d = live_is w.live (total (in_range x) (ranges_of w)) live' in
          let e = live_is w.live (in_range x w.stock) live' in
          let c = live_is v.live (total (in_range x) (ranges_of b)) live in
          let p = total-append (in_range x) v.joined (w.stock ∷ ranges_of w) in
          omega arith

      weighs' : weight b ≡ weight v + weight w
      weighs' =
          let g : ℕ × ℕ → ℕ = λ q. q.1 in
          let a = live_is v.live (1 + (total g v.joined + v.stock.1)) live in
          let d = live_is w.live (1 + (total g w.joined + w.stock.1)) live' in
          let c = live_is v.live (1 + (total g b.joined + v.stock.1)) live in
          let p = total-append g v.joined (w.stock ∷ ranges_of w) in
          omega arith

      pub joins : Joins (Kept stands bears start) id v other w b spent
      joins s k at apart there =
          let was : get_elem? s.views other ≡ some w = ⊎_elim (λ (t : (other ≡ id) × (b ≡ w)). absurd (apart t.0)) (λ (t : (other ≢ id) × (get_elem? s.views other ≡ some w)). t.1) (at_set s.views id other b w there) in
          let m = k.each id v at in
          let n = k.each other w was in
          let kn = m.knew live in
          let kn' = n.knew live' in
          let no : queued v.ticket ≡ 0 = ap queued free in
          let no' : queued w.ticket ≡ 0 = ap queued free' in
          let out : as_number v.holds ≡ 0 = ap as_number idle in
          let out' : as_number w.holds ≡ 0 = ap as_number idle' in
          let unborn : Every (λ e. stock_of (bears e) w ≡ 0) k.log = every_map _ _ (λ (e : E) p. (let o = one_of (stock_of (bears e)) s.views other w was in let z = p.1 in omega arith)) k.log k.borne in
          let all_none : (rest : List E) → Every (λ e. numbers_of (bears e) v ≡ 0) rest → Every (λ e. numbers_of (bears e) w ≡ 0) rest → Every (λ e. stock_of (bears e) w ≡ 0) rest → Every (λ e. numbers_of (bears e) b ≡ 0) rest =
          (λ rest p q u. every_map _ _ (λ (e : E) z. (let z0 = z.0 in let z1 = z.1.0 in let z2 = z.1.1 in let a = adds (bears e) in omega arith)) rest (every_both _ _ rest p (every_both _ _ rest q u))) in
          let knew' : Knew bears k.log b = dite (dec_le (length w.seen) (length v.seen))
          (λ le. let d = shorter w.seen kn'.0 v.seen kn.0 k.log kn'.1 kn.1 le in
          let is = longer_first v.seen w.seen le in
          (kn.0, ap (λ (z : List E). z ++ kn.0) is ∙ kn.1, all_none kn.0 kn.2 (every_behind _ d.0 kn.0 (subst (Every (λ e. numbers_of (bears e) w ≡ 0)) (sym d.2) kn'.2)) (every_behind _ v.seen kn.0 (subst (Every (λ e. stock_of (bears e) w ≡ 0)) (sym kn.1) unborn))))
          (λ gt. let lt : length v.seen < length w.seen = lt_of_not-le gt in let d = shorter v.seen kn.0 w.seen kn'.0 k.log kn.1 kn'.1 (omega arith) in
          let is = longer_second v.seen w.seen lt in
          (kn'.0, ap (λ (z : List E). z ++ kn'.0) is ∙ kn'.1, all_none kn'.0 (every_behind _ d.0 kn'.0 (subst (Every (λ e. numbers_of (bears e) v ≡ 0)) (sym d.2) kn.2)) kn'.2 (every_behind _ w.seen kn'.0 (subst (Every (λ e. stock_of (bears e) w ≡ 0)) (sym kn'.1) unborn)))) in
          let F = Fits bears k.log k.serving (k.serving + k.skip) k.next in
          let first : (j : ℕ) (u : Knows E) → get_elem? (slice_set s.views id b) j ≡ some u → F u = each_set F s.views id b
          record {
            room = omega arith;
            range = m.range;
            knew = λ _. knew';
            holder = λ h. absurd (true≢false (sym h ∙ idle));
            noted = m.noted;
            parts = (
              (
                (kn.0, kn.1, every_map _ _ (λ (e : E) z. (let d = live_is v.live (total (in_range (bears e)) (ranges_of v)) live in omega arith)) kn.0 kn.2),
                (λ x. (let c = adds x in let d = live_is v.live (total (in_range x) (ranges_of v)) live in omega arith)),
              ),
              (
                (
                  (kn'.0, kn'.1, every_map _ _ (λ (e : E) z. (let d = live_is w.live (total (in_range (bears e)) (ranges_of w)) live' in omega arith)) kn'.0 kn'.2),
                  (λ x. (let c = adds x in let d = live_is w.live (total (in_range x) (ranges_of w)) live' in omega arith)),
                ),
                (
                  (
                    (k.log, refl, every_map _ _ (λ (e : E) z. (let d = live_is w.live (in_range (bears e) w.stock) live' in omega arith)) k.log unborn),
                    (λ x. (let c = adds x in let d = live_is w.live (in_range x w.stock) live' in omega arith)),
                  ),
                  tt,
                ),
              ),
            );
          }
          (λ j u _ e. k.each j u e) in
          record {
            log = k.log;
            serving = k.serving;
            skip = k.skip;
            next = k.next;
            words = k.words;
            counted = let t = two_sets (λ u. queued u.ticket) s.views at there in let c = k.counted in omega arith;
            apart = λ x. (let t = two_sets (λ u. is_ticket x u.ticket) s.views at there in let a = k.apart x in let z : is_ticket x v.ticket ≡ 0 = ap (is_ticket x) free in omega arith);
            last = k.last;
            skips = k.skips;
            whose = λ x. (let t = two_sets (numbers_of x) s.views at there in let t' = two_sets (stock_of x) s.views at there in let q = k.whose x in let c = adds x in omega arith);
            weights = let t = two_sets weight s.views at there in let q = k.weights in let c = weighs' in omega arith;
            borne = every_map _ _ (λ (e : E) p. (p.0, (let t = two_sets (stock_of (bears e)) s.views at there in let z = p.1 in omega arith))) k.log k.borne;
            slot = λ none. k.slot (let t = two_sets (λ u. as_number u.holds) s.views at there in omega arith);
            each = each_set F (slice_set s.views id b) other spent
                record { room = omega arith; range = λ x e. absurd cc; knew = λ h. absurd (true≢false (sym h)); holder = λ h. absurd (true≢false (sym h)); noted = omega arith; parts = tt }
                (λ j u _ e. first j u e);
          }
