use Rattle.std.proofs.Common.{ap, sym, ◌∙◌}
use Rattle.std.specs.Option.{is_some}
use Rattle.slot_list.specs.declared.Version.{Version}
use Rattle.slot_list.proofs.Places.{find_at, find_gap, without_at, without_gap, remove_rises}
use Rattle.slot_list.proofs.edits.take_version.Goals as goal

pub returns-in-Ok-clause-there : goal.returns-in-Ok-clause-there
returns-in-Ok-clause-there c =
    let found = rw c.as_slice.ensures at c.in-Ok.ensures.found in
    sym (ap is_some (find_at (λ (v : Version). v.slot) c.args.versions.now.items c.args.slot c.in-Ok.place found c.remove.result))

pub returns-in-Ok-clause-items : goal.returns-in-Ok-clause-items
returns-in-Ok-clause-items c =
    let found = rw c.as_slice.ensures at c.in-Ok.ensures.found in
    c.remove.ensures.items ∙ sym (without_at (λ (v : Version). v.slot) c.args.versions.now.items c.args.slot c.in-Ok.place found)

pub returns-in-Err-clause-there : goal.returns-in-Err-clause-there
returns-in-Err-clause-there c =
    let gap = rw c.as_slice.ensures at c.in-Err.ensures.absent in
    sym (ap is_some (find_gap (λ (v : Version). v.slot) c.args.versions.now.items c.args.slot c.in-Err.field-0 gap))

pub returns-in-Err-clause-items : goal.returns-in-Err-clause-items
returns-in-Err-clause-items c =
    let gap = rw c.as_slice.ensures at c.in-Err.ensures.absent in
    sym (without_gap (λ (v : Version). v.slot) c.args.versions.now.items c.args.slot c.in-Err.field-0 gap)

pub returns-in-Ok-clause-rise : goal.returns-in-Ok-clause-rise
returns-in-Ok-clause-rise c =
    let found = rw c.as_slice.ensures at c.in-Ok.ensures.found in
    rw c.remove.ensures.items (remove_rises (λ (v : Version). v.slot) c.args.versions.now.items c.args.slot c.in-Ok.place found c.requires)
