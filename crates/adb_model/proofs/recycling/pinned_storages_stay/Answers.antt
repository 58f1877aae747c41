use Rattle.adb_model.proofs.Recycled.{named_stays}
use Rattle.adb_model.proofs.PinnedStay as stay
use Rattle.adb_model.proofs.recycling.pinned_storages_stay.Goals as goal

pub returns-clause-step : goal.returns-clause-step
returns-clause-step c = stay.step_stands

pub returns-clause-history : goal.returns-clause-history
returns-clause-history c = stay.history_stands

pub returns-clause-ids_grow : goal.returns-clause-ids_grow
returns-clause-ids_grow c = stay.ids_grow

pub returns-clause-known : goal.returns-clause-known
returns-clause-known c = stay.known

pub returns-clause-gone : goal.returns-clause-gone
returns-clause-gone c = stay.gone

pub returns-clause-named : goal.returns-clause-named
returns-clause-named c = named_stays

pub returns-clause-one : goal.returns-clause-one
returns-clause-one c = stay.one
