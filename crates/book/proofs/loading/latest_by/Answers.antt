use Rattle.std.proofs.Common.{ℕ, List, subst}
use Rattle.slot_list.specs.declared.Version.{Version}
use Rattle.slot_list.specs.Latest.{sees, IsLatest}
use Rattle.book.proofs.loading.latest_by.Goals as goal

pub returns-in-Some : goal.returns-in-Some
returns-in-Some g c =
    let roots = c.args.roots.now in
    let view = c.args.view.now in
    let of_list = c.in-Some.list.now.versions in
    let at_root = subst (λ (xs : List ℕ). IsLatest (sees xs roots c.max_root.result) of_list c.latest.result) c.ancestors.ensures.ancestors c.latest.ensures in
    let at_view = subst (λ (n : ℕ). IsLatest (sees view.ancestors roots n) of_list c.latest.result) c.max_root.ensures at_root in
    subst (λ (vs : List Version). IsLatest (sees view.ancestors roots view.max_root) vs c.latest.result) c.in-Some.ensures.found.0 at_view
