use Rattle.adb_model.proofs.OpenFlush.{open_flush_is}
use Rattle.adb_model.proofs.flushing.open_flushes_stand.Goals as goal

pub returns : goal.returns
returns c = open_flush_is
