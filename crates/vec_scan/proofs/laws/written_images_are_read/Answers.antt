use Rattle.vec_scan.proofs.Writing.{Laws, written_is_image, written_len, written_once}
use Rattle.vec_scan.proofs.laws.written_images_are_read.Goals as goal

pub returns-clause-image : goal.returns-clause-image
returns-clause-image c rows all =
    let written = c.written_records_are_read.ensures in
    let laws : Laws = record { is_record = written.record; len = written.len; one_form = written.one_form } in
    written_is_image laws rows all

pub returns-clause-len : goal.returns-clause-len
returns-clause-len c rows all =
    let written = c.written_records_are_read.ensures in
    let laws : Laws = record { is_record = written.record; len = written.len; one_form = written.one_form } in
    written_len laws rows all

pub returns-clause-one_form : goal.returns-clause-one_form
returns-clause-one_form c rows others all all' is =
    let written = c.written_records_are_read.ensures in
    let laws : Laws = record { is_record = written.record; len = written.len; one_form = written.one_form } in
    written_once laws rows others all all' is
