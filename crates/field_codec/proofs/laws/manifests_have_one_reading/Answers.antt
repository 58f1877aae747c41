use Rattle.field_codec.proofs.Manifests.{one_reading}
use Rattle.field_codec.proofs.laws.manifests_have_one_reading.Goals as goal

pub returns : goal.returns
returns c bytes content other m k = one_reading bytes content other m k
