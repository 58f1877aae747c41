use Rattle.std.proofs.Common.{arith}
use Rattle.account_layout.proofs.Found.{found}
use Rattle.account_layout.proofs.Known.{known}
use Rattle.account_layout.proofs.read.read_record.Goals as goal

pub returns-clause-found : goal.returns-clause-found
returns-clause-found c = found c.parse.result c.args.bytes.now c.args.at c.args.end (λ i. omega (arith, c.type_inv.bytes i)) c.requires.ordered c.requires.within c.parse.ensures

pub returns-clause-only : goal.returns-clause-only
returns-clause-only c to key fields le h = known c.parse.result c.args.bytes.now c.args.at c.args.end to key fields c.parse.ensures le c.requires.within h
