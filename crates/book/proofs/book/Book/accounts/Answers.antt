use Rattle.std.proofs.Common.{◌≡◌, ◌≢◌, ◌≤◌, ℕ, List, [], AllPairs, Contains, sym, subst}
use Rattle.std.specs.declared.cmp.Ordering.TheVariants.{Less}
use Rattle.accounts_index.specs.Index.{kept}
use Rattle.adb_model.specs.History.{state_after}
use Rattle.adb_model.specs.Load.{answer}
use Rattle.adb_model.specs.Reclaimable.{key_cmp}
use Rattle.book_parts.specs.Parts.{Parts}
use Rattle.book.proofs.ListedKeys.{keys_rise, answered_there}
use Rattle.book.proofs.book.Book.accounts.Goals as goal

pub returns-clause-rise : goal.returns-clause-rise
returns-clause-rise c = subst (AllPairs (λ a b. key_cmp a b ≡ Less)) (sym c.new.ensures.keys) (keys_rise c.iter.result c.iter.ensures.rise)

pub returns-clause-every : goal.returns-clause-every
returns-clause-every c m0 h key st some =
    let view = c.args.view.now in
    let every = subst (λ (p : Parts). (k : List ℕ) → (kept p.index k).versions ≢ [] → Contains c.iter.result (k, (kept p.index k).versions)) c.self.view_is c.iter.ensures.every in
    let new = subst (λ (p : Parts). p.cleaned ≤ view.max_root) c.self.view_is (subst (λ (n : ℕ). c.self.inside.cleaned ≤ n) c.max_root-max_root.ensures c.if-max_root-self.false) in
    subst (λ (l : List (List ℕ)). Contains l key) (sym c.new.ensures.keys)
    (answered_there c.args.self.now view key (answer (state_after m0 h) view key) (c.latest_versions_answer.ensures.none c.args.self.now m0 h view key st new) c.iter.result every some)
