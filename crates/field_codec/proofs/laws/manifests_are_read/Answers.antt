use Rattle.field_codec.proofs.Manifests.{manifest_there, manifest_takes}
use Rattle.field_codec.proofs.Numbers.{all_bytes}
use Rattle.field_codec.proofs.laws.manifests_are_read.Goals as goal

pub returns-clause-read : goal.returns-clause-read
returns-clause-read c bytes content m = (m.entries, manifest_there bytes content m, m.by_slot)

pub returns-clause-found : goal.returns-clause-found
returns-clause-found c bytes content fits reads = manifest_takes bytes content reads.0 (all_bytes bytes fits) reads.1 reads.2
