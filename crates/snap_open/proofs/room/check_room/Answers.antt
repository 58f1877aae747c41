use Rattle.std.proofs.Common.{arith}
use Rattle.snap_open.proofs.FirstFull.{first_full, out_of_cells}
use Rattle.snap_open.proofs.room.check_room.Goals as goal

pub returns-then-budget-used-clause-refused : goal.returns-then-budget-used-clause-refused
returns-then-budget-used-clause-refused c =
    let i = c.loop-file.invariant in
    first_full c.args.files.now c.loop-file.file-index c.file-item.result (omega arith) c.file-item.is (omega arith) c.args.budget c.loop-file.used c.loop-file.cells c.from.result i.used i.cells
    (omega (arith, c.from.ensures, c.size_of-wanted.ensures)) i.few i.within (omega (arith, c.from.ensures, c.size_of-wanted.ensures))

pub returns-then-cells-eq-MAX_STORAGES-clause-refused : goal.returns-then-cells-eq-MAX_STORAGES-clause-refused
returns-then-cells-eq-MAX_STORAGES-clause-refused c =
    let i = c.loop-file.invariant in
    out_of_cells c.args.files.now c.loop-file.file-index c.file-item.result (omega arith) c.file-item.is (omega arith) c.args.budget c.loop-file.used c.loop-file.cells c.size_of-wanted.result i.used i.cells c.size_of-wanted.ensures
    c.if-cells-eq-MAX_STORAGES.true (omega arith)
