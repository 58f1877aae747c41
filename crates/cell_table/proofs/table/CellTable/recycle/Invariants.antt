use Rattle.std.proofs.Common.{◌≡◌, map, vec_len}
use Rattle.std.specs.Vec.{vec_capacity}
use Rattle.std.specs.Ordering.{nat_cmp}
use Rattle.std.specs.BTreeMap.{get}
use Rattle.cell_table.specs.Phases.{recycled}
use Rattle.cell_table.specs.Inside.{all_cells, HaveRoom, IsSound}
use Rattle.cell_table.proofs.table.CellTable.recycle.Given as goal

abbrev pub invariant-loop-place : goal.invariant-loop-place
invariant-loop-place g l = let t = l.self-inside in record {
  room : HaveRoom t.cells.items t.most (vec_capacity t.free) (vec_capacity t.idle);
  sound : IsSound t.cells.items t.free.items t.idle.items (get nat_cmp t.ids) t.used t.limit t.counts;
  seen : map recycled (all_cells t.most t.cells.items) ≡ map recycled l.fn.self.cells;
  limit : t.limit ≡ l.fn.self.limit;
}

abbrev pub decreases-loop-place : goal.decreases-loop-place
decreases-loop-place g l = vec_len l.self-inside.idle
