use Rattle.hostile_tests.proofs.tests.memory_lacks.Given as goal

-- the foyer that was just made
abbrev pub ghosts-works_on : goal.ghosts-works_on
ghosts-works_on a b = record { book = b.foyer.room.book; opening = b.foyer.room.opening }
