use Rattle.adb_model.proofs.LawOfLeases.{leased_load}
use Rattle.adb_model.proofs.laws.leased_views_are_answered.Goals as goal

pub returns : goal.returns
returns c m h l held pass view key le max_root cleaned = leased_load m h l held pass view key le max_root cleaned
