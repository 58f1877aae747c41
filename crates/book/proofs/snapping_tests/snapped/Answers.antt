use Rattle.std.proofs.Common.{Some, length}
use Rattle.adb_model.specs.Call as machine
use Rattle.book_parts.specs.Stands.{with_event}
use Rattle.book.proofs.snapping_tests.snapped.Goals as goal

pub snap_end-requires : goal.snap_end-requires
snap_end-requires c =
    let own = c.has_history.ensures in
    let job = c.in-Ok.job in (
      own.start,
      with_event own.history 1 (machine.SnapBegin c.args.slot) (Some (machine.SnapBegun (length job.storages))),
      c.in-Ok.ensures.stands own.start own.history 1 own.stands,
      c.in-Ok.ensures.opens own.start own.history 1 own.stands,
    )
