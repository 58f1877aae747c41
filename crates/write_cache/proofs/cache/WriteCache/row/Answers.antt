use Rattle.std.proofs.Common.{ap, sym, ◌∙◌, slice_get}
use Rattle.write_cache.specs.Rows.{rows}
use Rattle.write_cache.proofs.Entries.{rows_some, rows_none}
use Rattle.write_cache.proofs.cache.WriteCache.row.Goals as goal

pub returns-in-Some : goal.returns-in-Some
returns-in-Some c =
    c.row_at.ensures ∙ sym (ap (λ r. slice_get r c.args.at) (rows_some c.self.inside.slots.entries c.args.slot c.in-Some.rows.now c.in-Some.ensures.value))
    ∙ ap (λ v. slice_get (rows v c.args.slot) c.args.at) c.self.view_is

pub returns-in-None : goal.returns-in-None
returns-in-None c =
    sym (ap (λ r. slice_get r c.args.at) (rows_none c.self.inside.slots.entries c.args.slot c.in-None.ensures.value))
    ∙ ap (λ v. slice_get (rows v c.args.slot) c.args.at) c.self.view_is
