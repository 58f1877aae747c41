use Rattle.append_vec.proofs.Same.{same_rows, as_many, at_its_place}
use Rattle.append_vec.proofs.laws.filled_rows_are_the_same.Goals as goal

pub returns-clause-same : goal.returns-clause-same
returns-clause-same c slot id rows image places fills differ = same_rows slot id rows image places fills differ

pub returns-clause-places : goal.returns-clause-places
returns-clause-places c slot id rows image places fills = as_many slot id rows image places fills

pub returns-clause-there : goal.returns-clause-there
returns-clause-there c slot id rows image places i place row fills at_place at_row = at_its_place slot id rows image places i place row fills at_place at_row
