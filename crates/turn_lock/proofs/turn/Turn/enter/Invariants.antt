use Rattle.turn_lock.proofs.turn.Turn.enter.Given as goal

abbrev pub ghosts-take : goal.ghosts-take
ghosts-take g a = record { reads = g.V.Standing.stands a.words.now.key.value }

abbrev pub ghosts-wait : goal.ghosts-wait
ghosts-wait g a = record { reads = g.V.Standing.stands a.words.now.key.value }
