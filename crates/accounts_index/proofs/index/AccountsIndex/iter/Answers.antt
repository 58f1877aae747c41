use Rattle.std.proofs.Common.{◌≡◌, ℕ, List, [], All, AllPairs, Contains, sym, ap, subst, ◌∙◌}
use Rattle.std.specs.declared.cmp.Ordering.TheVariants.{Less}
use Rattle.slot_list.specs.declared.Version.{Version}
use Rattle.accounts_index.specs.Bins.{joined}
use Rattle.accounts_index.specs.Index.{kept, versions_of, key_cmp}
use Rattle.accounts_index.specs.Inside.{bins_left}
use Rattle.accounts_index.proofs.Ordered.{joined_ordered}
use Rattle.accounts_index.proofs.Iterated.{joined_groups, versions_rise, each_kept, every_kept}
use Rattle.accounts_index.proofs.index.AccountsIndex.iter.Goals as goal

pub returns-clause-all : goal.returns-clause-all
returns-clause-all c =
    c.new.ensures ∙ ap (λ l. versions_of (joined (bins_left [] l))) c.deref.ensures.value
    ∙ ap versions_of (joined_groups c.self.inside.groups.items ∙ c.self.view_is)

pub returns-clause-rise : goal.returns-clause-rise
returns-clause-rise c =
    let rise = joined_ordered _ _ c.self.view_is c.self.invariant.0.bins in
    subst (AllPairs (λ a b. key_cmp a.0 b.0 ≡ Less)) (sym (returns-clause-all c)) (versions_rise c.args.self.now rise)

pub returns-clause-each : goal.returns-clause-each
returns-clause-each c =
    let rise = joined_ordered _ _ c.self.view_is c.self.invariant.0.bins in
    subst (λ (l : List (List ℕ × List Version)). All (λ e. (kept c.args.self.now e.0).versions ≡ e.1) l) (sym (returns-clause-all c)) (each_kept c.args.self.now rise)

pub returns-clause-every : goal.returns-clause-every
returns-clause-every c key some =
    subst (λ (l : List (List ℕ × List Version)). Contains l (key, (kept c.args.self.now key).versions)) (sym (returns-clause-all c)) (every_kept c.args.self.now key some)
