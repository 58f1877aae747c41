use Rattle.std.proofs.Common.{◌∙◌}
use Rattle.dir_io.specs.Files.{texts}
use Rattle.field_codec.proofs.Listed.{one_of_them}
use Rattle.field_codec.proofs.checks.one_manifest.Goals as goal

pub returns-in-len1-clause-listed : goal.returns-in-len1-clause-listed
returns-in-len1-clause-listed c = one_of_them c.args.name.now (texts c.args.names.now) c.as_slice.result.now c.in-len1.len_at_least (c.as_slice.ensures.value ∙ c.in_ok-slots.ensures)
