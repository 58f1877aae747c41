use Rattle.std.proofs.Common.{◌≤◌, ◌∙◌, List, ◌++◌, length, take, ap, arith}
use Rattle.append_vec.proofs.Rows.{front_of}
use Rattle.append_vec.proofs.filling.write_at.Goals as goal

pub returns-clause-front : goal.returns-clause-front
returns-clause-front c =
    let bytes = c.args.bytes.now in
    let at = c.args.at in
    let written = c.write_record.new.into in
    let le : at ≤ length bytes = omega arith in
    front_of bytes written _ at c.stored_size.result le (omega (arith, c.write_record.auto.into)) ∙ ap (λ (ws : List _). take at bytes ++ ws) c.write_record.ensures.written
