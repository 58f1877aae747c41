use Rattle.std.proofs.Common.{◌+◌, ◌<◌, None, length, ap, sym, ◌∙◌}
use Rattle.std.specs.BTreeMap.{is_at}
use Rattle.std.specs.Ordering.{nat_cmp}
use Rattle.std.proofs.lemmas.Map.Views.{All-map-remove_entry}
use Rattle.write_cache.specs.Inside.{seen}
use Rattle.write_cache.specs.Rows.{rows, total}
use Rattle.write_cache.proofs.Entries.{rows_some, rows_none, IsWith-updates, length-rows_of, total-remove_entry}
use Rattle.write_cache.proofs.slots.drop_rows.Goals as goal

pub returns-in-Some-clause-count : goal.returns-in-Some-clause-count
returns-in-Some-clause-count c =
    c.len.ensures.len ∙ sym (length-rows_of c.in-Some.rows) ∙ sym (ap length (rows_some c.args.slots.now.entries c.args.slot c.in-Some.rows c.in-Some.ensures.value))

pub returns-in-Some-clause-rows : goal.returns-in-Some-clause-rows
returns-in-Some-clause-rows c = IsWith-updates c.args.slots.now.entries c.remove.new.self.entries c.args.slot None c.in-Some.ensures.updates.0

pub returns-in-Some-clause-total : goal.returns-in-Some-clause-total
returns-in-Some-clause-total c =
    let es = c.args.slots.now.entries in
    sym (total-remove_entry es c.args.slot)
    ∙ ap (λ n. n + length (rows (seen es) c.args.slot)) (ap (λ l. total (seen l)) (sym c.in-Some.ensures.entries))
    ∙ ap (λ n. total (seen c.remove.new.self.entries) + n) (sym (returns-in-Some-clause-count c))

pub returns-in-Some-clause-filled : goal.returns-in-Some-clause-filled
returns-in-Some-clause-filled c =
    rw c.in-Some.ensures.entries (All-map-remove_entry (is_at (nat_cmp c.args.slot)) (λ e. e.1) (λ m. 0 < length m.entries) c.args.slots.now.entries c.requires)

pub returns-in-None-clause-count : goal.returns-in-None-clause-count
returns-in-None-clause-count c = sym (ap length (rows_none c.args.slots.now.entries c.args.slot c.in-None.ensures.value))

pub returns-in-None-clause-rows : goal.returns-in-None-clause-rows
returns-in-None-clause-rows c = IsWith-updates c.args.slots.now.entries c.remove.new.self.entries c.args.slot None c.in-None.ensures.updates.0
