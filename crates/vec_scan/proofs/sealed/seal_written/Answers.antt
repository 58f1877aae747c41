use Rattle.vec_scan.proofs.Known.{known}
use Rattle.vec_scan.proofs.Writing.{Laws}
use Rattle.vec_scan.proofs.sealed.seal_written.Goals as goal

pub invariant_of-result : goal.invariant_of-result
invariant_of-result c =
    let written = c.written_records_are_read.ensures in
    let laws : Laws = record { is_record = written.record; len = written.len; one_form = written.one_form } in
    let k = known laws c.records_are_read.ensures.places c.requires.0 c.args.bytes.items c.args.offsets.items c.requires.1 in
    record { image = k.image; rise = k.rise; aligned = k.aligned }

pub returns : goal.returns
returns c rows w =
    let written = c.written_records_are_read.ensures in
    let laws : Laws = record { is_record = written.record; len = written.len; one_form = written.one_form } in
    let k = known laws c.records_are_read.ensures.places rows c.args.bytes.items c.args.offsets.items w in
    (λ i. record { slot = c.args.slot; id = c.args.id; bytes = c.args.bytes.items; rows = k.rows_are i })
