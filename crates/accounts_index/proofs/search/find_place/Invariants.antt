use Rattle.accounts_index.proofs.search.find_place.Given as goal

abbrev pub ghosts-place_by : goal.ghosts-place_by
ghosts-place_by a = record { name = a.blank.name; parts = a.blank.parts }
