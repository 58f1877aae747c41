use Rattle.turn_lock.proofs.turn.Turn.split.Given as goal

abbrev pub ghosts-cut : goal.ghosts-cut
ghosts-cut g a = record { share = a.share }
