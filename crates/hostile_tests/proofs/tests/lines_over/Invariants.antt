use Rattle.hostile_tests.proofs.tests.lines_over.Given as goal

-- the foyer that was just made
abbrev pub ghosts-desks_go_through : goal.ghosts-desks_go_through
ghosts-desks_go_through a b = record { book = b.foyer.room.book; opening = b.foyer.room.opening }
