-- What the calls ensure, from what their steps do to a view.
use Rattle.std.proofs.Common.{◌≡◌, ℕ, suc, ◌<◌, List, [], ◌∷◌, ◌++◌, true, Option, sym, ap, ◌∙◌, subst, arith}
use Rattle.std.specs.List.{All}
use Rattle.atomic_table.specs.Table.{Me}
use Rattle.atomic_table.specs.Seated.{TableId}
use Rattle.turn_lock.specs.Numbers.{borne_by}
use Rattle.turn_lock.specs.Passes.{PassState, mine_of, Joins}
use Rattle.turn_lock.specs.Rule.{Every, ranges_of}
use Rattle.turn_lock.specs.Steps.{passing, right_of, both_of, forgetting, told, state_of}
use Rattle.turn_lock.proofs.Views.{own_added, joined_told, none_of_new}
use Rattle.turn_lock.specs.declared.rule.Knows.{Knows}
use Rattle.turn_lock.specs.Rule.{Boxed}

pub every_of_all : {A : Type 0} (P : A → Type 0) (xs : List A) → All P xs → Every P xs
every_of_all P [] p = tt
every_of_all P (x ∷ xs) p = (p 0 x (omega arith), every_of_all P xs (λ k d lt. p (suc k) d (omega arith)))

module _ {V E : Type 0} (bears : E → ℕ) where
  pub left_mine : (i j : TableId) (m n : Me (Option (Boxed V)) (Knows E)) (added : List E) (p : PassState E) → state_of i m.0 ≡ p → n ≡ (passing m.0 added, []) → All (λ e. bears e ≡ p.number) added
      → mine_of bears (state_of j n.0) ≡ mine_of bears p ++ added
  left_mine i j m n added p is e own =
      let own' : Every (λ x. bears x ≡ m.0.own) added = every_of_all _ added (subst (λ (q : PassState E). All (λ x. bears x ≡ q.number) added) (sym is) own) in
      ap (λ (q : Me (Option (Boxed V)) (Knows E)). borne_by bears (ranges_of q.0) q.0.seen) e ∙ (own_added bears m.0 added own' ∙ ap (λ (q : PassState E). mine_of bears q ++ added) is)

  pub joins_of : (i j k : TableId) (v w : Knows E) (m n : Me (Option (Boxed V)) (Knows E)) → m ≡ (both_of v w, []) → told bears m n → Joins bears (state_of i v) (state_of j w) (state_of k n.0)
  joins_of i j k v w m n is t =
      let told_of = joined_told bears v w m n is t in
      let e : n.0 ≡ forgetting (both_of v w) = ap (λ (x : Me (Option (Boxed V)) (Knows E)). x.0) t.0 ∙ ap (λ (x : Me (Option (Boxed V)) (Knows E)). forgetting x.0) is in
      subst (λ (u : Knows E). Joins bears (state_of i v) (state_of j w) (state_of k u)) (sym e)
      record { seen = told_of.first; seen_other = told_of.second; mine = told_of.of_first; mine_other = told_of.of_second; mine_both = told_of.of_both }

  pub split_new : (i j : TableId) (m n r : Me (Option (Boxed V)) (Knows E)) (share : ℕ) → m.0.live ≡ true → share < m.0.stock.1 → told bears m n → r ≡ (right_of share n.0, [])
      → mine_of bears (state_of j r.0) ≡ []
  split_new i j m n r share live enough t is =
      let e : r.0 ≡ right_of share (forgetting m.0) = ap (λ (x : Me (Option (Boxed V)) (Knows E)). x.0) is ∙ ap (λ (x : Me (Option (Boxed V)) (Knows E)). right_of share x.0) t.0 in
      ap (λ (q : Knows E). borne_by bears (ranges_of q) q.seen) e ∙ none_of_new bears m.0 share live enough t.1
