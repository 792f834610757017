use Rattle.desk_tests.proofs.workers.tests.eight_workers_beside_a_busy_desk.Given as goal

-- the foyer that was just made
abbrev pub ghosts-works_beside : goal.ghosts-works_beside
ghosts-works_beside a b = record { book = b.foyer.room.book; opening = b.foyer.room.opening }
