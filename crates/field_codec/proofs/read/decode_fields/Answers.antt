use Rattle.std.proofs.Common.{arith}
use Rattle.field_codec.proofs.Manifests.{is_found, is_only}
use Rattle.field_codec.proofs.read.decode_fields.Goals as goal

pub returns-clause-found : goal.returns-clause-found
returns-clause-found c = is_found c.args.bytes.now c.decode.result (λ i. omega (arith, c.type_inv.bytes i)) c.decode.ensures

pub returns-clause-only : goal.returns-clause-only
returns-clause-only c content m = is_only c.args.bytes.now c.decode.result content c.decode.ensures m
