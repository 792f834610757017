use Rattle.desk_tests.proofs.tests.script_beside.Given as goal

-- the foyer that was just made
abbrev pub ghosts-reads_beside : goal.ghosts-reads_beside
ghosts-reads_beside a b = record { book = b.foyer.room.book; opening = b.foyer.room.opening }
