use Rattle.std.proofs.Common.{refl, sym, ap, ◌∙◌, arith}
use Rattle.std.proofs.lemmas.Result.{err_from_is_err_and}
use Rattle.cell_table.specs.Phases.{bytes_of}
use Rattle.cell_table.specs.Cells.{Table}
use Rattle.cell_table.proofs.Sound.{sum_seen}
use Rattle.cell_table.proofs.Grown.{full_cause, free_now, some_when}
use Rattle.cell_table.proofs.table.CellTable.check.Goals.{else-is_empty-via-then-is_empty+else-len-self, else-is_empty-via-else-is_empty}
use Rattle.cell_table.proofs.table.CellTable.check.Goals as goal

pub returns-in_err-fit-clause-err : goal.returns-in_err-fit-clause-err
returns-in_err-fit-clause-err g c =
    let cause = full_cause c.args.self.now c.self.inside.most c.self.inside.limit c.self.inside.cells.items c.self.view_is c.self.invariant.0.few _ c.self.invariant.1.total c.args.bytes _ c.in_err-fit.ensures.err in
    let p = err_from_is_err_and c.from_residual.result c.from_residual.ensures.1 in rw (p.1, p.2) cause

pub returns-clause-ok : goal.returns-clause-ok
returns-clause-ok g c =
    let limit = ap (λ (t : Table _). t.limit) c.self.view_is in
    let total = c.self.invariant.1.total ∙ sym (sum_seen c.args.self.now c.self.inside.most c.self.inside.limit c.self.inside.cells.items c.self.view_is bytes_of refl) in
    let free = free_now c.args.self.now c.self.inside.most c.self.inside.limit c.self.inside.cells.items c.self.view_is c.self.invariant.0.few _ c.self.invariant.1.free_places in (
      omega (arith, c.in_ok-fit.ensures.ok, limit, total),
      elim c.else-is_empty.branch [
        | else-is_empty-via-then-is_empty+else-len-self w ↦ omega (arith, free, w.if-len-self.false, w.len.ensures, c.self.invariant.0.few, c.self.inside.cells.ok.0)
        | else-is_empty-via-else-is_empty w ↦ omega (arith, free, some_when _ (sym c.is_empty.ensures ∙ w.if-is_empty.false), c.self.inside.free.ok.0)
      ],
    )
