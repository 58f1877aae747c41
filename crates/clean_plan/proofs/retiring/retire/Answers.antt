use Rattle.std.proofs.Common.{◌≡◌, ◌+◌, count_by, subst, sym, ap, ◌∙◌, Some}
use Rattle.vec_scan.specs.Image.{Image}
use Rattle.vec_scan.specs.Seal.{rows_in}
use Rattle.cell_table.specs.Phases.{is_live}
use Rattle.cell_table.specs.Cells.{Table, cell_at}
use Rattle.book_parts.specs.Parts.{Shared}
use Rattle.adb_model.specs.Storages.{live_storage}
use Rattle.adb_model.specs.Shrink.{named_in}
use Rattle.adb_model.specs.Cleaning.{with_retired}
use Rattle.book_parts.specs.Reclaims.{Unholds}
use Rattle.clean_plan.proofs.Storages.{live_value, live_fewer, none_alive, some_live}
use Rattle.clean_plan.proofs.retiring.retire.Goals as goal

pub unreachable-requires : goal.unreachable-requires
unreachable-requires c = some_live c.args.map.now c.args.slot c.in_default.ensures c.requires.emptied

pub get-requires : goal.get-requires
get-requires c =
    let r = c.requires.some in
    let none = none_alive c.args.map.now c.args.slot c.in-Some.live c.in-Some.ensures c.requires.emptied in
    let found = c.retired_storage_reflects.ensures.emptied (record r.0 { index = c.args.index.now; cells = c.args.cells.now; map = c.args.map.now }) r.1 r.2.midway r.2.parts c.args.slot c.in-Some.live (sym c.in-Some.ensures) none in
    live_value (cell_at c.args.cells.now.cells c.in-Some.live.cell) found.1.in_use

pub retire-requires : goal.retire-requires
retire-requires c =
    let r = c.requires.some in
    let none = none_alive c.args.map.now c.args.slot c.in-Some.live c.in-Some.ensures c.requires.emptied in
    let found = c.retired_storage_reflects.ensures.emptied (record r.0 { index = c.args.index.now; cells = c.args.cells.now; map = c.args.map.now }) r.1 r.2.midway r.2.parts c.args.slot c.in-Some.live (sym c.in-Some.ensures) none in
    found.1.in_use

pub returns-clause-fewer : goal.returns-clause-fewer
returns-clause-fewer c =
    let r = c.requires.some in
    let none = none_alive c.args.map.now c.args.slot c.in-Some.live c.in-Some.ensures c.requires.emptied in
    let found = c.retired_storage_reflects.ensures.emptied (record r.0 { index = c.args.index.now; cells = c.args.cells.now; map = c.args.map.now }) r.1 r.2.midway r.2.parts c.args.slot c.in-Some.live (sym c.in-Some.ensures) none in
    ap (λ (table : Table Shared). count_by is_live table.cells + 1) c.retire.ensures ∙ live_fewer c.args.cells.now.cells c.in-Some.live.cell found.1.in_use

pub returns-clause-parts : goal.returns-clause-parts
returns-clause-parts c = λ p m stands.
    let none = none_alive c.args.map.now c.args.slot c.in-Some.live c.in-Some.ensures c.requires.emptied in
    let parts = record p { index = c.args.index.now; cells = c.args.cells.now; map = c.args.map.now } in
    let found = c.retired_storage_reflects.ensures.emptied parts m stands.midway stands.parts c.args.slot c.in-Some.live (sym c.in-Some.ensures) none in
    let t = found.0 in
    let is = found.1 in
    let same : t.slot ≡ c.args.slot = c.live_storages_stand.ensures.slot m c.args.slot t is.live in
    let live : live_storage m t.slot ≡ Some t = ap (live_storage m) same ∙ is.live in
    let unnamed : named_in m t.slot ≡ 0 = ap (named_in m) same ∙ is.unnamed in
    let sound = stands.midway.sound in (
      with_retired m t,
      record {
        midway = record { sound = c.unnamed_storages_retire.ensures.sound m sound t live unnamed; once = c.unnamed_storages_retire.ensures.once m t stands.midway.once };
        parts = c.retired_storage_reflects.ensures.done parts m c.args.slot c.in-Some.live.cell t c.get.result.now c.unhold_rows.new.index c.retire.new.self c.remove.new.self
            stands.midway stands.parts is c.get.ensures (record {
              index = subst (λ (image : Image). Unholds c.args.slot (rows_in image) c.args.index.now c.unhold_rows.new.index) c.deref.ensures c.unhold_rows.ensures;
              cells = c.retire.ensures;
              slots = c.remove.ensures;
            });
      },
      c.unnamed_storages_retire.ensures.rest m sound t live unnamed,
    )
