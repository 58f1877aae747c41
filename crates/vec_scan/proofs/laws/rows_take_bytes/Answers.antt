use Rattle.vec_scan.proofs.RowSizes.{of_image}
use Rattle.vec_scan.proofs.laws.rows_take_bytes.Goals as goal

pub returns : goal.returns
returns c = λ image is. of_image c.records_are_read.ensures.len image.bytes image.rows is
