use Rattle.desk_tests.proofs.workers.tests.on_a_line.Given as goal

-- the foyer that was just made
abbrev pub ghosts-works_alone : goal.ghosts-works_alone
ghosts-works_alone a b = record { book = b.foyer.room.book; opening = b.foyer.room.opening }

abbrev pub ghosts-works_held : goal.ghosts-works_held
ghosts-works_held a b = record { book = b.foyer.room.book; opening = b.foyer.room.opening }

abbrev pub ghosts-works_crossed : goal.ghosts-works_crossed
ghosts-works_crossed a b = record { book = b.foyer.room.book; opening = b.foyer.room.opening }

abbrev pub ghosts-works_noted : goal.ghosts-works_noted
ghosts-works_noted a b = record { book = b.foyer.room.book; opening = b.foyer.room.opening }
