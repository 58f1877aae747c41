use Rattle.std.proofs.Common.{sym, ap, ◌∙◌, rules}
use Rattle.std.proofs.lemmas.Iterator.{YieldsList-from_slice, YieldsList-from_map}
use Rattle.std.proofs.lemmas.Iterator.Adapters.{option_map_id}
use Rattle.std.proofs.lemmas.Iterator.Consumers.{min_from_yields_List}
use Rattle.adb_model.specs.Lists.{least}
use Rattle.book.specs.declared.leasing.Lease.{Lease}
use Rattle.book.proofs.Leases.{roots_of}
use Rattle.book.proofs.leasing.least_root.Goals as goal

pub returns : goal.returns
returns c =
    sym (option_map_id _)
    ∙ min_from_yields_List c.map.result _ c.min.ensures.ran
    (YieldsList-from_map _ (λ (l : Lease). l.max_root) (YieldsList-from_slice c.args.leases.now cc) c.map.ensures.closure (λ x r q k. search rules))
    ∙ ap least (roots_of c.args.leases.now)
