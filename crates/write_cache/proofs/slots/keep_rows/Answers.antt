use Rattle.std.proofs.Common.{◌≡◌, ◌<◌, Some, List, length, map, take, ap, sym, subst, ◌∙◌, refl, arith}
use Rattle.std.specs.BTreeMap.{is_at}
use Rattle.std.specs.Ordering.{nat_cmp}
use Rattle.std.proofs.lemmas.List.{length-take, take-map}
use Rattle.std.proofs.lemmas.Map.Views.{All-values-set_value}
use Rattle.adb_model.specs.State.{Row}
use Rattle.write_cache.specs.Inside.{row_of, seen}
use Rattle.write_cache.specs.Rows.{total, IsWith}
use Rattle.write_cache.proofs.Entries.{rows_some, rows_none, IsWith-updates, total-written, length-rows_of}
use Rattle.write_cache.proofs.slots.keep_rows.Goals as goal

pub unreachable-requires : goal.unreachable-requires
unreachable-requires c = omega (arith, ap length (rows_none c.args.slots.now.entries c.args.slot c.in-None.ensures.value), c.requires.fewer)

pub returns-clause-filled : goal.returns-clause-filled
returns-clause-filled c =
    let es = c.args.slots.now.entries in
    let had = rows_some es c.args.slot c.in-Some.rows.now c.in-Some.ensures.value in
    let some : 0 < length c.truncate.new.self.entries =
    omega (arith, c.requires.some, c.requires.fewer, ap length had, length-rows_of c.in-Some.rows.now, ap length c.truncate.ensures.entries, length-take c.args.count c.in-Some.rows.now.entries) in
    rw (c.get_mut.follows.holds c.truncate.new.self).0 (All-values-set_value (is_at (nat_cmp c.args.slot)) (λ m. 0 < length m.entries) es c.truncate.new.self c.requires.filled some)

pub returns-clause-rows : goal.returns-clause-rows
returns-clause-rows c =
    let es = c.args.slots.now.entries in
    let s = c.args.slot in
    let had = rows_some es s c.in-Some.rows.now c.in-Some.ensures.value in
    let writes = (c.get_mut.follows.holds c.truncate.new.self).3 (rw (← c.in-Some.ensures.value) refl) in
    let is = ap (map row_of) c.truncate.ensures.entries ∙ sym (take-map row_of c.args.count c.in-Some.rows.now.entries) ∙ ap (take c.args.count) (sym had) in
    subst (λ (r : List Row). IsWith (seen es) (seen (c.get_mut.follows.lender c.truncate.new.self).entries) s r) is
    (IsWith-updates es (c.get_mut.follows.lender c.truncate.new.self).entries s (Some c.truncate.new.self) writes.0)

pub returns-clause-total : goal.returns-clause-total
returns-clause-total c =
    let es = c.args.slots.now.entries in
    let had = rows_some es c.args.slot c.in-Some.rows.now c.in-Some.ensures.value in
    let now = ap (λ l. total (seen l)) (c.get_mut.follows.holds c.truncate.new.self).0 in
    omega (
      arith,
      c.requires.fewer,
      now,
      total-written es c.args.slot c.in-Some.rows.now c.truncate.new.self c.in-Some.ensures.value,
      ap length had,
      length-rows_of c.in-Some.rows.now,
      ap length c.truncate.ensures.entries,
      length-take c.args.count c.in-Some.rows.now.entries,
    )
