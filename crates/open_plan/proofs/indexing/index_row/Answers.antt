use Rattle.std.proofs.Common.{ap}
use Rattle.std.proofs.lemmas.Result.{on_ok_weaker}
use Rattle.account_layout.specs.Reading.{fields_of}
use Rattle.slot_list.specs.declared.Place.TheVariants.{Stored}
use Rattle.slot_list.specs.declared.Version.{Version}
use Rattle.vec_scan.specs.Seal.{placed}
use Rattle.std.proofs.Common.{◌≡◌, sym, refl, nat_eq}
use Rattle.open_plan.proofs.Indexed.{tomb_in, indexes_one}
use Rattle.open_plan.proofs.indexing.index_row.Goals as goal

pub returns-clause-index : goal.returns-clause-index
returns-clause-index c =
    let found = c.args.found.now in
    let cell = c.args.cell in
    let offset = c.args.offset in
    let version : Version = record { slot = c.args.slot; place = Stored cell offset; tomb = nat_eq found.head.lamports 0 } in
    on_ok_weaker c.put_held.result
    (λ edit. indexes_one c.args.slot cell (placed offset found) version c.args.index.now c.put_held.new.self c.lookups_follow_edits.ensures.put refl
    (ap (λ b. (b, Stored cell offset)) (sym (tomb_in (fields_of found)))) edit) c.put_held.ensures.ok
