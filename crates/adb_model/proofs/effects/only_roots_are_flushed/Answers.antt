use Rattle.adb_model.proofs.PairsFollow.{only_roots, no_root, no_names}
use Rattle.adb_model.proofs.effects.only_roots_are_flushed.Goals as goal

pub returns-clause-flushed : goal.returns-clause-flushed
returns-clause-flushed c = only_roots

pub returns-clause-free : goal.returns-clause-free
returns-clause-free c = no_root

pub returns-clause-named : goal.returns-clause-named
returns-clause-named c = no_names
