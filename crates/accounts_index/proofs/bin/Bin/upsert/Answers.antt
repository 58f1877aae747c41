use Rattle.std.proofs.Common.{sym, subst, IsSome}
use Rattle.slot_list.specs.Versions.{at}
use Rattle.accounts_index.specs.Index.{kept}
use Rattle.accounts_index.proofs.bin.Bin.upsert.Goals as goal

pub returns-clause-replaces : goal.returns-clause-replaces
returns-clause-replaces c = λ some. c.upsert.ensures.replaces (subst (λ v. IsSome (at c.args.version.slot (kept v c.args.key.now.0).versions)) (sym c.self.view_is) some)
