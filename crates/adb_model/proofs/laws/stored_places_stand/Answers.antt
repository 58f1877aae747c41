use Rattle.adb_model.proofs.Reclamation.{placed, freed, installs_current}
use Rattle.adb_model.proofs.laws.stored_places_stand.Goals as goal

pub returns-clause-place : goal.returns-clause-place
returns-clause-place c = placed

pub returns-clause-freed : goal.returns-clause-freed
returns-clause-freed c = freed

pub returns-clause-installed : goal.returns-clause-installed
returns-clause-installed c m pass slot h e = installs_current m slot h e
