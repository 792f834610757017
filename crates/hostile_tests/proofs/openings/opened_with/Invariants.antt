use Rattle.hostile_tests.proofs.openings.opened_with.Given as goal

-- the foyer that was just made
abbrev pub ghosts-desks_of : goal.ghosts-desks_of
ghosts-desks_of a b = record { book = b.foyer.room.book; opening = b.foyer.room.opening }
