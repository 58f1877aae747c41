use Rattle.std.proofs.Common.{length}
use Rattle.dir_io.proofs.folder_dir.sync_all.Given as goal

abbrev pub decreases-loop-is_lost : goal.decreases-loop-is_lost
decreases-loop-is_lost g l = length l.written.keys
