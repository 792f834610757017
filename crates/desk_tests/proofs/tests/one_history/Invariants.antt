use Rattle.desk_tests.proofs.tests.one_history.Given as goal

-- the foyer that was just made
abbrev pub ghosts-opens : goal.ghosts-opens
ghosts-opens a b = record { book = b.foyer.room.book; opening = b.foyer.room.opening }
