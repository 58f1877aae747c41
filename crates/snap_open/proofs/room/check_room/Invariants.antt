use Rattle.std.proofs.Common.{◌≡◌, ◌≤◌, length, map, take}
use Rattle.std.specs.Prelude.{sum_by}
use Rattle.field_codec.specs.FormFaults.{file_seen}
use Rattle.snap_open.specs.Sizes.{sizes_in}
use Rattle.snap_open.proofs.room.check_room.Given as goal

abbrev pub invariant-loop-file : goal.invariant-loop-file
invariant-loop-file l = record {
  used : l.used ≡ sum_by (λ size. size) (sizes_in (map file_seen (take l.file-index l.files)));
  cells : l.cells ≡ length (sizes_in (map file_seen (take l.file-index l.files)));
  within : l.used ≤ l.budget;
  few : l.cells ≤ 1048576;
}
