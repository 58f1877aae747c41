use Rattle.field_codec.proofs.Writing.{one_form, written_again, written_is_manifest, written_len}
use Rattle.field_codec.proofs.laws.written_manifests_are_read.Goals as goal

pub returns-clause-manifest : goal.returns-clause-manifest
returns-clause-manifest c content w = written_is_manifest content w

pub returns-clause-again : goal.returns-clause-again
returns-clause-again c content w = written_again content w

pub returns-clause-len : goal.returns-clause-len
returns-clause-len c content = written_len content

pub returns-clause-one_form : goal.returns-clause-one_form
returns-clause-one_form c content other rest more w w' same = one_form content other rest more w w' same
