use Rattle.hostile_tests.proofs.works.started_with.Given as goal

-- the foyer that was just made
abbrev pub ghosts-shares_of : goal.ghosts-shares_of
ghosts-shares_of a b = record { book = b.foyer.room.book; opening = b.foyer.room.opening }
