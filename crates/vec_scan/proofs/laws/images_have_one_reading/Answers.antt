use Rattle.vec_scan.proofs.OneReading.{one_image}
use Rattle.vec_scan.proofs.laws.images_have_one_reading.Goals as goal

pub returns : goal.returns
returns c bytes rows others is is' = one_image c.records_have_one_reading.ensures bytes rows others is is'
