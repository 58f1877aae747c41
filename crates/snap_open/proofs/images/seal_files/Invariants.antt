use Rattle.std.proofs.Common.{◌≡◌, ◌++◌, List}
use Rattle.std.specs.Vec.Iter.{into_iter_items}
use Rattle.snap_open.specs.Images.{AreSealed}
use Rattle.snap_open.specs.declared.reading.Loaded.{Loaded}
use Rattle.snap_open.proofs.images.seal_files.Given as goal

abbrev pub invariant-loop-loaded : goal.invariant-loop-loaded
invariant-loop-loaded l = record {
  can_next : (goal.iterator-loop-loaded).can_next l.loaded-iterator;
  is_finite : (goal.iterator-loop-loaded).is_finite l.loaded-iterator;
  front : (done : List Loaded) × (done ++ into_iter_items l.loaded-iterator ≡ l.fn.files.items) × AreSealed done l.storages.items l.without_rows.items;
}
