use Rattle.adb_model.proofs.NoReturn.{no_return}
use Rattle.adb_model.proofs.LiveImages.{live_images}
use Rattle.adb_model.proofs.RootsKept.{root_answers}
use Rattle.adb_model.proofs.laws.nothing_returns.Goals as goal

pub returns-clause-opened : goal.returns-clause-opened
returns-clause-opened c = no_return

pub returns-clause-images : goal.returns-clause-images
returns-clause-images c = live_images

pub returns-clause-later : goal.returns-clause-later
returns-clause-later c = root_answers
