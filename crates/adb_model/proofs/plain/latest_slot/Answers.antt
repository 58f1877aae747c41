use Rattle.std.proofs.Common.{sym, rules, ◌∙◌, []}
use borrow.Author.Tests.{tests}
use Rattle.std.specs.Str.{bytes_eq}
use Rattle.std.proofs.lemmas.Iterator.Adapters.{option_map_id}
use Rattle.std.proofs.lemmas.Iterator.{YieldsList-from_map, YieldsList-from_slice}
use Rattle.std.proofs.lemmas.Iterator.Consumers.{max_from_yields_List, YieldsList-at, YieldsList-from_filter}
use Rattle.adb_model.specs.Load as machine
use Rattle.adb_model.specs.Seen.{state_with}
use Rattle.adb_model.proofs.plain.latest_slot.Goals as goal

pub returns : goal.returns
returns c =
    sym (option_map_id _) ∙ max_from_yields_List c.filter-2.result _ c.max.ensures.ran
    (YieldsList-from_filter _ (machine.sees (state_with [] c.args.roots.now) c.args.view.now)
    (YieldsList-at c.filter-2.ensures.source (YieldsList-from_map _ (λ t. t.0)
    (YieldsList-at c.map.ensures.source (YieldsList-from_filter _ (λ t. bytes_eq t.1.0 c.args.key.now.0)
    (YieldsList-from_slice c.args.stores.now cc)
    c.filter.ensures.closure (λ x b q k. search (rules, tests))))
    c.map.ensures.closure (λ x r q k. search rules)))
    c.filter-2.ensures.closure (λ x b q k. search (rules, tests)))
