use Rattle.std.proofs.Common.{sym, ◌∙◌, rules, tests}
use Rattle.std.proofs.lemmas.Iterator.{YieldsList-from_slice, YieldsList-from_map}
use Rattle.std.proofs.lemmas.Iterator.Adapters.{option_map_id}
use Rattle.std.proofs.lemmas.Iterator.Consumers.{YieldsList-from_filter, min_from_yields_List}
use Rattle.pass_pins.specs.declared.Pin.{Pin}
use Rattle.pass_pins.proofs.edits.least_id.Goals as goal

pub returns : goal.returns
returns c =
    sym (option_map_id _)
    ∙ min_from_yields_List c.map.result _ c.min.ensures.ran
    (YieldsList-from_map _ (λ (p : Pin). p.id)
    (YieldsList-from_filter _ (λ (p : Pin). p.finished) (YieldsList-from_slice c.args.pins.now cc) c.filter.ensures.closure (λ x r q k. search (rules, tests)))
    c.map.ensures.closure (λ x r q k. search rules))
