use Rattle.std.proofs.Common.{◌≡◌, ◌+◌, true, Some, refl, ap, ◌∙◌, sum_by, arith}
use Rattle.std.specs.BTreeMap.{is_at}
use Rattle.std.specs.Cmp.{nat_cmp_total}
use Rattle.std.specs.Map.{lookup, values_of}
use Rattle.std.specs.Option.{option_map, unwrap_or}
use Rattle.std.specs.Ordering.{nat_cmp}
use Rattle.std.proofs.lemmas.Map.Entries.{sum_by-insert_entry}
use Rattle.std.proofs.lemmas.Map.Views.{All-values-insert_entry}
use Rattle.storage_map.specs.Slots.{Slots, is_filled}
use Rattle.storage_map.proofs.Entries.{changed, begun_fills}
use Rattle.storage_map.proofs.slots.put_entry.Goals as goal

pub returns-clause-ok : goal.returns-clause-ok
returns-clause-ok c =
    let es = c.args.slots.now.entries in
    let k = c.args.slot in
    let entry = c.args.entry in
    let made = c.in_ok-insert.ensures in
    changed es c.insert.new.self.entries k (Some entry) entry 1
    (record {
      updates = made.updates.0;
      sums = λ f.
          ap (λ (fs : Slots). sum_by f (values_of fs) + unwrap_or (option_map f (lookup (is_at (nat_cmp k)) es)) 0) made.entries
          ∙ sum_by-insert_entry f nat_cmp_total es k entry made.was_ordered;
    }) refl refl (omega arith)

pub returns-clause-filled : goal.returns-clause-filled
returns-clause-filled c =
    let entry = c.args.entry in
    rw c.in_ok-insert.ensures.entries
    (All-values-insert_entry nat_cmp c.args.slot entry (λ e. is_filled e ≡ true) c.args.slots.now.entries c.requires.filled (begun_fills entry c.requires.begun))
