use Rattle.std.proofs.Common.{List, ap, sym, ◌∙◌, set, get_or, false}
use Rattle.std.proofs.lemmas.Bool.{false≢true}
use Rattle.slot_list.specs.declared.Place.TheVariants.{Cached}
use Rattle.slot_list.specs.declared.Version.{Version}
use Rattle.slot_list.proofs.Places.{find_gap, map_there, written}
use Rattle.slot_list.proofs.edits.rehome_version.Goals as goal

pub returns-clause-items : goal.returns-clause-items
returns-clause-items c =
    let found = rw c.as_slice.ensures at c.in-Ok.ensures.found in
    let moved = λ (v : Version). record v { place = c.args.place } in
    let none : Version = record { slot = 0; place = Cached; tomb = false } in
    let items = c.args.versions.now.items in
    let lent = c.as_mut_slice-versions.result.now in
    written items lent c.in-Ok.found (moved (get_or lent c.in-Ok.found none)) c.as_mut_slice-versions.ensures.value
    ∙ ap (λ (l : List Version). set items c.in-Ok.found (moved (get_or l c.in-Ok.found none))) c.as_mut_slice-versions.ensures.value
    ∙ sym (map_there (λ (v : Version). v.slot) items c.args.slot c.in-Ok.found found moved none)

-- the version is there
pub unreachable-requires : goal.unreachable-requires
unreachable-requires c =
    let gap = rw c.as_slice.ensures at c.in-Err.ensures.absent in
    false≢true (rw (find_gap (λ (v : Version). v.slot) c.args.versions.now.items c.args.slot c.in-Err.field-0 gap) at c.requires.there)
