use Rattle.std.proofs.lemmas.Result.{err_from_is_err_and}
use Rattle.vec_scan.proofs.Passing.{steps_on, steps_not}
use Rattle.vec_scan.proofs.scan.row_end.Goals as goal

pub returns-in_err-record : goal.returns-in_err-record
returns-in_err-record c =
    let p = err_from_is_err_and c.from_residual.result c.from_residual.ensures.1 in
    rw (p.1, p.2) (steps_not c.args.image.now c.args.at c.in_err-record.field-0.0 c.requires.inside c.in_err-record.ensures.exact c.in_err-record.ensures.only)

pub returns : goal.returns
returns c =
    let read = c.in_ok-record.ensures in
    steps_on c.args.image.now c.args.at c.in_ok-record.record c.gap_end.result c.requires.inside c.requires.aligned
    (record {
      exact = read.exact;
      places = read.places;
      begins = read.inside.0;
      ends = read.inside.1;
      found = read.found;
      only = read.only;
    })
    c.gap_end.ensures
