use Rattle.std.proofs.Common.{sym, ap}
use Rattle.accounts_index.proofs.Changes.{reached, read_reached, seen_kept, seen_nothing}
use Rattle.accounts_index.proofs.bin.Bin.find.Goals as goal

pub returns-in-Ok-clause-found : goal.returns-in-Ok-clause-found
returns-in-Ok-clause-found g c =
    let kept = seen_kept c.args.self.now c.self.inside.entries.items c.deref.result.now c.args.key.now.0 c.in-Ok.place (reached c.index.result.now c.deref-in-Ok.result.now) (sym c.self.view_is) c.deref.ensures.value c.in-Ok.ensures.found (read_reached c.self.inside.entries.items c.in-Ok.place c.index.result.now c.deref-in-Ok.result.now c.deref-in-Ok.ensures c.index.ensures) in
    (ap (λ k. k.versions) (sym kept), ap (λ k. k.held) (sym kept))

pub returns-in-Err-clause-found : goal.returns-in-Err-clause-found
returns-in-Err-clause-found g c = seen_nothing c.args.self.now c.self.inside.entries.items c.deref.result.now c.args.key.now.0 c.in-Err.field-0 (sym c.self.view_is) c.deref.ensures.value c.in-Err.ensures.absent
