use Rattle.std.proofs.Common.{length, ap, sym, ◌∙◌}
use Rattle.write_cache.specs.Rows.{rows}
use Rattle.write_cache.proofs.Entries.{rows_some, rows_none, length-rows_of}
use Rattle.write_cache.proofs.cache.WriteCache.count.Goals as goal

pub returns-in-Some : goal.returns-in-Some
returns-in-Some c =
    c.len.ensures.len ∙ sym (length-rows_of c.in-Some.rows.now) ∙ sym (ap length (rows_some c.self.inside.slots.entries c.args.slot c.in-Some.rows.now c.in-Some.ensures.value))
    ∙ ap (λ v. length (rows v c.args.slot)) c.self.view_is

pub returns-in-None : goal.returns-in-None
returns-in-None c =
    sym (ap length (rows_none c.self.inside.slots.entries c.args.slot c.in-None.ensures.value)) ∙ ap (λ v. length (rows v c.args.slot)) c.self.view_is
