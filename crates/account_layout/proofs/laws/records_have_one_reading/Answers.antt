use Rattle.account_layout.proofs.Readings.{one_reading}
use Rattle.account_layout.proofs.laws.records_have_one_reading.Goals as goal

pub returns : goal.returns
returns c a b rest more key key2 fields fields2 h h2 same = one_reading a b rest more key key2 fields fields2 h h2 same
