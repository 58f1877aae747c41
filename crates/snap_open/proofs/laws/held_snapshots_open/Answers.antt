use Rattle.snap_open.proofs.Held.{one_snapshot, opens}
use Rattle.snap_open.proofs.laws.held_snapshots_open.Goals as goal

pub returns-clause-open : goal.returns-clause-open
returns-clause-open c files name slot budget images more fault h may why =
    opens c.held_forms_are_found.ensures.found c.held_forms_are_found.ensures.one files name slot budget images more h may fault why

pub returns-clause-one : goal.returns-clause-one
returns-clause-one c files name slot other images others more further h g =
    one_snapshot c.held_forms_are_found.ensures.found c.held_forms_are_found.ensures.one files name c.images_have_one_reading.ensures slot other images others more further h g
